-- The table of ways, and rows 1 to 5 of the table of verdicts: document 01, 'The submission' and 'Verdicts'.
use Rattle.std.specs.Prelude.{◌≡◌, ◌⊎◌, ◌∷◌, ◌++◌, ◌<◌, ◌≤◌}
use Rattle.base.specs.{Words.Bool, Words.true, Words.false, Words.cond, Words.List, Words.[], Words.Option, Words.none, Words.some, Words.ℕ, Words.eqb, Words.length, Words.take, Answer.numbered}
use Rattle.term.specs.{Term.Kind, Term.asymmetric, Term.Second, Term.absent, Term.anything, Term.key_for, Term.second, Term.Shape, Term.atomic, Term.compound, Term.is_key_for, Term.Relation, Term.equal, Term.inverses, Number.shape_of}
use Rattle.submission.specs.Record.{count, start, least, most, terms, entries, steps, kind_at, x_at, y_at, entry_at, guess, verifying, way_at, companion}
use Rattle.submission.specs.Body.{contents}

-- way a: another step concludes the same term; way b: it is known at the start; way c: its inverse key is known. A5: "Add way k: the named step
-- concludes the guess. Add way j: the guess is a key and the named step concludes its inverse."
pub data Way : Type 0 where
  another_step at_start inverse_key guess_derived inverse_derived : Way

-- A5: what is derived, "the guess, or the inverse"
pub data Target : Type 0 where
  the_guess its_inverse : Target

-- what a way claims. A5: "Newcomb and Lowe count a value as recognisable if it is deducible or verifier-producing."
pub data Claims : Type 0 where
  verifier : Claims
  derived : Target → Claims

-- what a number of the claim may be: a step's, a term's, or 0 only; A5: a step's or 255
pub data Range : Type 0 where
  step_number term_number zero_only step_or_knowledge : Range

-- A5: "Step number 255 means that the guess, or the inverse, is itself in the knowledge"
abbrev pub knowledge_step : ℕ
knowledge_step = 255

-- a register that the test names: of the verifying step or of the companion step, or the lowest that holds v or the companion; A5: the
-- guess's, or that of what gives the term claimed
pub data Operand : Type 0 where
  verifying_result companion_result lowest_conclusion lowest_companion guess_register : Operand
  given_register : Target → Operand

pub record Row : Type 0 where
  -- "way (letter a, b or c)"; A5: "Add way k", "Add way j"
  pub letter : ℕ
  -- A5: in ways k and j "the guess doesn't count as known" and "Conditions 2 to 5 don't apply"
  pub claims : Claims
  -- "step or companion out of range (a: N, c: T, b: not 0)"; A5: "The companion is 0 in both."
  pub step : Range
  pub companion : Range
  -- condition 5: "nor in way a by the companion"
  pub companion_kept : Bool
  -- "The test names the verifying step's register first, then: way a, the companion step's; b, the lowest register holding v;
  -- c, the lowest holding the inverse, with `i`." A5: "The test names the guess register first, then the step's (with 255, the entry's), by `=`
  -- for k and `i` for j."
  pub relation : Relation
  pub tested : Operand
  pub against : Operand

abbrev pub row : Way → Row
row another_step =
    record { letter = 0x61; claims = verifier; step = step_number; companion = step_number; companion_kept = true; relation = equal; tested = verifying_result; against = companion_result }
row at_start =
    record { letter = 0x62; claims = verifier; step = step_number; companion = zero_only; companion_kept = false; relation = equal; tested = verifying_result; against = lowest_conclusion }
row inverse_key =
    record { letter = 0x63; claims = verifier; step = step_number; companion = term_number; companion_kept = false; relation = inverses; tested = verifying_result; against = lowest_companion }
row guess_derived =
    record { letter = 0x6B; claims = derived the_guess; step = step_or_knowledge; companion = zero_only; companion_kept = false; relation = equal; tested = guess_register; against = given_register the_guess }
row inverse_derived =
    record { letter = 0x6A; claims = derived its_inverse; step = step_or_knowledge; companion = zero_only; companion_kept = false; relation = inverses; tested = guess_register; against = given_register its_inverse }

-- the way of a letter
unfoldable pub way_of : ℕ → Option Way
way_of l =
    cond (eqb l (row another_step).letter) (some another_step)
    (cond (eqb l (row at_start).letter) (some at_start)
    (cond (eqb l (row inverse_key).letter) (some inverse_key)
    (cond (eqb l (row guess_derived).letter) (some guess_derived) (cond (eqb l (row inverse_derived).letter) (some inverse_derived) none))))

-- what a submission claims; a way that is none, which check 5 refuses, reads as claiming a verifier
abbrev pub claims_in : Option Way → Claims
claims_in none = verifier
claims_in (some w) = (row w).claims

abbrev pub claims : List ℕ → Claims
claims s = claims_in (way_of (way_at s))

abbrev pub InRange : List ℕ → Range → ℕ → Type 0
InRange s step_number n = n < steps s
InRange s term_number n = n < terms s
InRange s zero_only n = n ≡ 0
InRange s step_or_knowledge n = (n < steps s) ⊎ (n ≡ knowledge_step)

-- A5: "Add way j: the guess is a key"; "A way j on a guess that is no key is number 5."
abbrev pub GuessFits : List ℕ → Claims → Type 0
GuessFits s verifier = Unit {0}
GuessFits s (derived the_guess) = Unit {0}
GuessFits s (derived its_inverse) = is_key_for asymmetric (shape_of (kind_at s (guess s))) ≡ true

-- not "under 16 bytes; a letter, start or the length wrong": the first 16 bytes are the contents of the counts that stand in them, and the
-- last body ends the submission
abbrev pub ContentsFit : List ℕ → Type 0
ContentsFit s = (take 16 s ≡ contents (count s)) × (length s ≡ start s 4)

-- "y a plain atom", "y a key of kind 2 or 3", as the second operand of record i; A2: "with y = 0", where there is none
abbrev pub HasSecond : List ℕ → ℕ → Second → Type 0
HasSecond s i absent = y_at s i ≡ 0
HasSecond s i anything = y_at s i < i
HasSecond s i (key_for c) = (y_at s i < i) × (is_key_for c (shape_of (kind_at s (y_at s i))) ≡ true)

-- "In 4 to 6, x and y number earlier terms"; A2: "x an earlier term"
abbrev pub Shaped : List ℕ → ℕ → Shape → Type 0
Shaped s i (atomic κ) = Unit {0}
Shaped s i (compound f) = (x_at s i < i) × HasSecond s i (second f)

-- "bad or equals an earlier one": no kind's shape fits, or an earlier record has the same bytes
abbrev pub BadTerm : List ℕ → ℕ → Type 0
BadTerm s i =
    (((z : Shape) × (shape_of (kind_at s i) ≡ some z) × Shaped s i z) → ⊥)
    ⊎ ((j : ℕ) × (j < i) × ((kind_at s j ≡ kind_at s i) × ((x_at s j ≡ x_at s i) × (y_at s j ≡ y_at s i))))

-- the guess, the step and the companion are as the way asks
abbrev pub FitsWay : List ℕ → Way → Type 0
FitsWay s w = GuessFits s (row w).claims × (InRange s (row w).step (verifying s) × InRange s (row w).companion (companion s))

-- not "guess not below T or no atom; step or companion out of range ..; way"
abbrev pub ClaimFits : List ℕ → Type 0
ClaimFits s =
    (guess s < terms s) × (((κ : Kind) × (shape_of (kind_at s (guess s)) ≡ some (atomic κ)))
    × ((w : Way) × (way_of (way_at s) ≡ some w) × FitsWay s w))

-- 2 count, "T, K, D, V outside its limits", of any four counts
abbrev pub row2 : (ℕ → ℕ) → ℕ → ℕ → Type 0
row2 n = numbered 2 (λ i. (i < 4) × ((n i < least i) ⊎ (most i < n i)))

-- 1 contents; 2 count
abbrev pub rows1and2 : List ℕ → List (ℕ → ℕ → Type 0)
rows1and2 s = numbered 1 (λ p. (p ≡ 0) × (ContentsFit s → ⊥)) ∷ row2 (count s) ∷ []

-- 3 term; 4 knowledge, "entry not below T, or equal to an earlier one"
abbrev pub rows1to4 : List ℕ → List (ℕ → ℕ → Type 0)
rows1to4 s =
    rows1and2 s
    ++ numbered 3 (λ i. (i < terms s) × BadTerm s i)
    ∷ numbered 4 (λ i. (i < entries s) × ((terms s ≤ entry_at s i) ⊎ ((j : ℕ) × (j < i) × (entry_at s j ≡ entry_at s i))))
    ∷ []

-- 5 claim
abbrev pub rows1to5 : List ℕ → List (ℕ → ℕ → Type 0)
rows1to5 s = rows1to4 s ++ numbered 5 (λ p. (p ≡ 0) × (ClaimFits s → ⊥)) ∷ []
