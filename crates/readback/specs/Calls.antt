-- What the call `read_back` promises: its answer, and the two bodies on the page.
use Rattle.std.specs.Prelude.{◌≡◌, Result}
use Rattle.base.specs.{declared.refusal.Refusal.Refusal, Words.List, Words.ℕ, Words.length, Answer.answer_of, Answer.Writes}
use Rattle.readback.specs.{ReadBack.bodies_read, Computed.read_back_answer}

-- the answer r and the page afterwards: the answer of reading back, and where it is done the derivation and the claim
abbrev pub BodiesWritten : List ℕ → List ℕ → List ℕ → Result ℕ Refusal → List ℕ → Type 0
BodiesWritten s P page r page' = Writes (λ a. answer_of r ≡ a) (read_back_answer s P (length page)) (bodies_read s P) page page'
