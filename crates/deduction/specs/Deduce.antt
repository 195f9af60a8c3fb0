-- What deducible answers: document 01, 'Dolev-Yao steps' and 'Verdicts'.
use Rattle.std.specs.Prelude.{◌≡◌, ◌⊎◌, ◌∷◌, ◌++◌, ◌≤◌}
use Rattle.base.specs.{Words.List, Words.[], Words.ℕ, Answer.numbered}
use Rattle.term.specs.Step.{Deducible}
use Rattle.submission.specs.{Record.terms, Record.term, Record.InKnowledge, Check.rows1to4}

-- "Deducible makes checks 1 to 4, then 12": 12 no such term, "deducible asked for a number not below T"
abbrev pub deducible_rows : List ℕ → ℕ → List (ℕ → ℕ → Type 0)
deducible_rows s n = rows1to4 s ++ numbered 12 (λ p. (p ≡ 0) × (terms s ≤ n)) ∷ []

-- 1 is yes and 0 is no
abbrev pub DeducibleValue : List ℕ → ℕ → ℕ → Type 0
DeducibleValue s n v = ((v ≡ 1) × Deducible (InKnowledge s) (term s n)) ⊎ ((v ≡ 0) × (Deducible (InKnowledge s) (term s n) → ⊥))
