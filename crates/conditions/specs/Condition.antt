-- The five conditions, and the rows that checking tries, as propositions about terms: document 01, 'The five conditions' and 'Verdicts'.
use Rattle.std.specs.Prelude.{◌≡◌, ◌⊎◌, ◌↔◌, ◌∷◌, ◌++◌, ◌<◌}
use Rattle.base.specs.{Words.List, Words.[], Words.Option, Words.none, Words.some, Words.ℕ, Answer.numbered, Answer.row11, Answer.Clear}
use Rattle.term.specs.{Term.Term, Term.is_key, Term.inverse, Step.Deducible, Step.Undoes}
use Rattle.submission.specs.{Record.steps, Record.guess, Record.verifying, Record.way_at, Record.companion, Record.term, Record.InKnowledge, Check.Way, Check.another_step, Check.at_start, Check.inverse_key, Check.guess_derived, Check.inverse_derived, Check.way_of, Check.Target, Check.the_guess, Check.its_inverse, Check.Claims, Check.verifier, Check.derived, Check.claims, Check.knowledge_step, Check.rows1to5}
use Rattle.derivation.specs.Step.{rule, first_premise, second_premise, concluded, Premise, StepFits, Known, rows6and7}
use Rattle.program.specs.Program.{program_length}

-- "a submission is well formed when it passes checks 1 to 5 and every step passes check 6"
pub record WellFormed (s : List ℕ) : Type 0 where
  pub read : Clear (rows1to5 s)
  pub shaped : (i : ℕ) → i < steps s → StepFits s i

-- 1. "Every step is founded."
abbrev pub EachFounded : List ℕ → Type 0
EachFounded s = (i : ℕ) → i < steps s → Known s i (first_premise s i) × Known s i (second_premise s i)

-- 4. "Way a: the companion is a step that also concludes v, with another rule or another premise set.
-- Way b: v is in the knowledge or is the guess; companion 0.
-- Way c: v is a key and the companion is the term number of its inverse, known after the last step." Ways k and j have none, and are not asked.
abbrev pub SecondWay : List ℕ → Option Way → Type 0
SecondWay s none = ⊥
SecondWay s (some another_step) =
    (companion s < steps s) × (concluded s (companion s) ≡ concluded s (verifying s))
    × ((rule s (verifying s) ≡ rule s (companion s) → ⊥) ⊎ (((x : Term) → Premise s (verifying s) x ↔ Premise s (companion s) x) → ⊥))
SecondWay s (some at_start) =
    (companion s ≡ 0) × (InKnowledge s (concluded s (verifying s)) ⊎ (concluded s (verifying s) ≡ term s (guess s)))
SecondWay s (some inverse_key) =
    is_key (concluded s (verifying s)) × (term s (companion s) ≡ inverse (concluded s (verifying s))) × Known s (steps s) (term s (companion s))
SecondWay s (some guess_derived) = ⊥
SecondWay s (some inverse_derived) = ⊥

-- step i "is undone by the verifying step" or "in way a by the companion": by step j
abbrev pub Undone : List ℕ → ℕ → Type 0
Undone s i =
    (j : ℕ) × ((j ≡ verifying s) ⊎ ((way_of (way_at s) ≡ some another_step) × (j ≡ companion s)))
    × Undoes (rule s j) (first_premise s j) (concluded s j) (rule s i) (first_premise s i) (concluded s i)

-- conditions 2 to 5
pub record Verified (s : List ℕ) : Type 0 where
  -- 2. "The verifying step is one of the derivation."
  pub present : verifying s < steps s
  -- 3. "Some member of S is not deducible from the knowledge without the guess."
  pub hidden : (x : Term) × Premise s (verifying s) x × (Deducible (InKnowledge s) x → ⊥)
  pub second_way : SecondWay s (way_of (way_at s))
  -- 5. "No step anywhere in the derivation is undone by the verifying step, nor in way a by the companion."
  pub kept : (i : ℕ) → i < steps s → Undone s i → ⊥

-- A5: "the step, or the 255, giving the term claimed": the named step concludes t, or t "is itself in the knowledge"
abbrev pub Given : List ℕ → Term → Type 0
Given s t = ((verifying s < steps s) × (t ≡ concluded s (verifying s))) ⊎ ((verifying s ≡ knowledge_step) × InKnowledge s t)

-- the term claimed: way k, "the guess"; way j, "its inverse"
abbrev pub target : List ℕ → Target → Term
target s the_guess = term s (guess s)
target s its_inverse = inverse (term s (guess s))

-- A5: "Conditions 2 to 5 don't apply; in demands 2 and 3 their place is taken by the step, or the 255, giving the term claimed."
abbrev pub ClaimMet : List ℕ → Claims → Type 0
ClaimMet s verifier = Verified s
ClaimMet s (derived t) = Given s (target s t)

pub record FiveConditions (s : List ℕ) : Type 0 where
  pub founded : EachFounded s
  -- 2 to 5, or what takes their place
  pub met : ClaimMet s (claims s)

-- 8 reachable, 9 no second way, 10 undone are conditions 3, 4, 5 broken; A5: 16 not shown, "a step or a 255 that doesn't give the term claimed"
abbrev pub claim_rows : List ℕ → Claims → List (ℕ → ℕ → Type 0)
claim_rows s verifier =
    numbered 8 (λ p. (p ≡ verifying s) × ((x : Term) → Premise s (verifying s) x → Deducible (InKnowledge s) x))
    ∷ numbered 9 (λ p. (p ≡ verifying s) × (SecondWay s (way_of (way_at s)) → ⊥))
    ∷ numbered 10 (λ i. (i < steps s) × Undone s i)
    ∷ []
claim_rows s (derived t) = numbered 16 (λ p. (p ≡ 0) × (Given s (target s t) → ⊥)) ∷ []

-- "6 and 7 are tried together"
abbrev pub rows1to7 : List ℕ → List (ℕ → ℕ → Type 0)
rows1to7 s = rows1to5 s ++ rows6and7 s ∷ []

-- "Order: as numbered"; A5: 16 comes "after 7 and before 11"; 11 page, "page under 3N+4 bytes", is of a page of room bytes
abbrev pub check_rows : List ℕ → ℕ → List (ℕ → ℕ → Type 0)
check_rows s room = rows1to7 s ++ claim_rows s (claims s) ++ row11 (program_length (steps s)) room ∷ []
