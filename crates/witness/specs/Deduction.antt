-- The deduction that is shown: document 02, A7.
use Rattle.std.specs.Prelude.{◌≡◌, ◌⊎◌, ◌∷◌, ◌++◌, ◌+◌, ◌*◌, ◌<◌}
use Rattle.base.specs.{Words.List, Words.[], Words.ℕ, Words.suc, Words.length, Words.byte, Answer.numbered}
use Rattle.term.specs.{Term.Term, Step.Deducible}
use Rattle.submission.specs.Record.{second_for, term, InKnowledge}
use Rattle.derivation.specs.Step.{RecordFits}
use Rattle.deduction.specs.Deduce.{deducible_rows}

-- "a derivation in step records, written to a page": record i of the bytes l is rule, p, q, conclusion
abbrev pub rule_in : List ℕ → ℕ → ℕ
rule_in l i = byte l (4 * i)

abbrev pub p_in : List ℕ → ℕ → ℕ
p_in l i = byte l (4 * i + 1)

abbrev pub q_in : List ℕ → ℕ → ℕ
q_in l i = byte l (4 * i + 2)

abbrev pub conclusion_in : List ℕ → ℕ → ℕ
conclusion_in l i = byte l (4 * i + 3)

-- the two premises and the conclusion of record i, as terms
abbrev pub first_in : List ℕ → List ℕ → ℕ → Term
first_in s l i = term s (p_in l i)

abbrev pub second_in : List ℕ → List ℕ → ℕ → Term
second_in s l i = term s (second_for (rule_in l i) (p_in l i) (q_in l i))

abbrev pub concluded_in : List ℕ → List ℕ → ℕ → Term
concluded_in s l i = term s (conclusion_in l i)

-- x is in the premise set of record i
abbrev pub PremiseIn : List ℕ → List ℕ → ℕ → Term → Type 0
PremiseIn s l i x = (x ≡ first_in s l i) ⊎ (x ≡ second_in s l i)

-- "founded on the knowledge alone": t is in the knowledge or was concluded by an earlier one of these steps; the guess counts for nothing
abbrev pub KnownBefore : List ℕ → List ℕ → ℕ → Term → Type 0
KnownBefore s l i t = InKnowledge s t ⊎ ((j : ℕ) × (j < i) × (t ≡ concluded_in s l j))

-- the n steps that l is made of show the term t
pub record Deduction (s : List ℕ) (t n : ℕ) (l : List ℕ) : Type 0 where
  -- "the count in the answer is that of the steps written"
  pub long : length l ≡ 4 * n
  -- each is one of the table of steps
  pub fits : (i : ℕ) → i < n → RecordFits s (rule_in l i) (p_in l i) (q_in l i) (conclusion_in l i)
  -- "each step founded on the knowledge alone"
  pub founded : (i : ℕ) → i < n → (x : Term) → PremiseIn s l i x → KnownBefore s l i x
  -- "no conclusion is known beforehand"
  pub new : (i : ℕ) → i < n → KnownBefore s l i (concluded_in s l i) → ⊥
  -- "A term in the knowledge gets no steps": none are written of such a term only
  pub none : n ≡ 0 → InKnowledge s (term s t)
  -- "the last conclusion is the term asked for"
  pub last : (i : ℕ) → n ≡ suc i → conclusion_in l i ≡ t
  -- what the last conclusion does not need is left out: each other conclusion is a premise of a later step
  pub used : (i : ℕ) → suc i < n → (j : ℕ) × (i < j) × (j < n) × PremiseIn s l j (concluded_in s l i)

-- "It refuses with 19 (short sheet) a page under 1,000 bytes, after 12, place 1,000." The page has room bytes.
abbrev pub deduction_rows : List ℕ → ℕ → ℕ → List (ℕ → ℕ → Type 0)
deduction_rows s t room = deducible_rows s t ++ numbered 19 (λ p. (p ≡ 1000) × (room < 1000)) ∷ []

-- a yes carries the count of steps, n here: 1 + n is yes and 0 is no
abbrev pub DeductionValue : List ℕ → ℕ → ℕ → ℕ → Type 0
DeductionValue s t n v =
    ((v ≡ suc n) × Deducible (InKnowledge s) (term s t)) ⊎ ((v ≡ 0) × (Deducible (InKnowledge s) (term s t) → ⊥))
