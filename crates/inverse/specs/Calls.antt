-- What the call `inverses` promises: its answer, and the inverses on the page.
use Rattle.std.specs.Prelude.{◌≡◌, Result}
use Rattle.base.specs.{declared.refusal.Refusal.Refusal, Words.List, Words.ℕ, Words.length, Answer.answer_of, Answer.Writes}
use Rattle.inverse.specs.Computed.{inverses_of, inverses_answer}

-- the answer r and the page afterwards: the answer of the call, and where it is done a byte for each term
abbrev pub InversesWritten : List ℕ → List ℕ → Result ℕ Refusal → List ℕ → Type 0
InversesWritten s page r page' = Writes (λ a. answer_of r ≡ a) (inverses_answer s (length page)) (inverses_of s) page page'
