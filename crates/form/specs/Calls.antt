-- What the call `write` promises: its answer, and the submission on the page.
use Rattle.std.specs.Prelude.{◌≡◌, Result}
use Rattle.base.specs.{declared.refusal.Refusal.Refusal, Words.List, Words.ℕ, Words.length, Answer.answer_of, Answer.Writes}
use Rattle.submission.specs.Body.{Bodies, submission_of}
use Rattle.form.specs.Computed.{write_answer}

-- the result r and the page afterwards: the answer of writing, and where it is done the submission of the bodies
abbrev pub FormWritten : Bodies → List ℕ → Result ℕ Refusal → List ℕ → Type 0
FormWritten b page r page' = Writes (λ a. answer_of r ≡ a) (write_answer b (length page)) (submission_of b) page page'
