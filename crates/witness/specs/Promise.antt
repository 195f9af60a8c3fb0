-- What is promised of every deduction that is shown: document 02, A7.
use Rattle.std.specs.Prelude.{◌≡◌, ◌≤◌}
use Rattle.base.specs.Words.{List, ℕ}
use Rattle.term.specs.Step.{Deducible}
use Rattle.submission.specs.Record.{terms, term, InKnowledge}
use Rattle.witness.specs.Deduction.{Deduction}

pub record DeductionPromise : Type 0 where
  -- "a finite list of such steps reaches it from the knowledge alone": the steps shown are such a list
  pub deducible : (s : List ℕ) (t n : ℕ) (l : List ℕ) → Deduction s t n l → Deducible (InKnowledge s) (term s t)
  -- "There are never more steps than listed terms"
  pub few : (s : List ℕ) (t n : ℕ) (l : List ℕ) → Deduction s t n l → n ≤ terms s
  -- "A term in the knowledge gets no steps"
  pub steps_none : (s : List ℕ) (t n : ℕ) (l : List ℕ) → Deduction s t n l → InKnowledge s (term s t) → n ≡ 0
