-- What the call `deduction` promises: its answer, and the steps on the page.
use Rattle.std.specs.Prelude.{◌≡◌}
use Rattle.base.specs.{Words.List, Words.[], Words.ℕ, Words.suc, Words.length, Answer.Answer, Answer.done, Answer.Writes}
use Rattle.witness.specs.{Deduction.Deduction, Computed.deduction_answer}

-- "Where several such derivations exist, which one is given is free": all that holds of it is `Deduction`
pub record DeductionWritten (Says : Answer → Type 0) (s : List ℕ) (t : ℕ) (page page' : List ℕ) : Type 0 where
  pub steps : ℕ
  pub written : List ℕ
  pub writes : Writes Says (deduction_answer s t (length page) steps) written page page'
  -- a yes shows the term
  pub shown : deduction_answer s t (length page) steps ≡ done (suc steps) → Deduction s t steps written
  -- "a "no" writes nothing"
  pub nothing : deduction_answer s t (length page) steps ≡ done 0 → written ≡ []
