-- What the calls promise that stand in this crate: those for C, and `write_verdict`.
use Rattle.std.specs.Prelude.{◌≡◌, ◌+◌, ◌*◌, ◌≤◌}
use Rattle.base.specs.{Words.List, Words.ℕ, Words.length, Words.take, Words.replicate, Answer.Answer, Answer.done, Answer.refused, Answer.Writes, Answer.Puts, Answer.page_after}
use Rattle.submission.specs.{Record.entries, Body.Bodies, Body.submission_of}
use Rattle.form.specs.Computed.{write_answer}
use Rattle.inverse.specs.Computed.{inverses_of, inverses_answer}
use Rattle.pool.specs.{Pool.joined, Computed.join_answer}
use Rattle.readback.specs.{ReadBack.bodies_read, Computed.read_back_answer}
use Rattle.text.specs.Text.{answer_text}
use Rattle.program.specs.Program.{bytes_of}
use Rattle.conditions.specs.{Calls.program, Computed.check_answer}

-- an answer as one number for C: a refusal is its number and its place, 16 bits wide; what is done is its value
abbrev pub encoded : Answer → ℕ
encoded (done n) = n
encoded (refused number place) = number * 65536 + place

-- `checker_check`: the number r is the answer, and the page is that of checking
abbrev pub Encoded : List ℕ → List ℕ → ℕ → List ℕ → Type 0
Encoded s page r page' = Writes (λ a. r ≡ encoded a) (check_answer s (length page)) (bytes_of (program s)) page page'

-- `checker_write`: the number r is the answer, and the page is that of writing
abbrev pub EncodedForm : Bodies → List ℕ → ℕ → List ℕ → Type 0
EncodedForm b page r page' = Writes (λ a. r ≡ encoded a) (write_answer b (length page)) (submission_of b) page page'

-- `checker_inverses`: the number r is the answer, and the page is that of the inverses
abbrev pub EncodedInverses : List ℕ → List ℕ → ℕ → List ℕ → Type 0
EncodedInverses s page r page' = Writes (λ a. r ≡ encoded a) (inverses_answer s (length page)) (inverses_of s) page page'

-- `checker_join`: the number r is the answer, and the page is that of joining
abbrev pub EncodedPool : List ℕ → List ℕ → List ℕ → ℕ → List ℕ → Type 0
EncodedPool a b page r page' = Writes (λ c. r ≡ encoded c) (join_answer a b (length page)) (joined a b) page page'

-- `checker_read_back`: the number r is the answer, and the page is that of reading back
abbrev pub EncodedBodies : List ℕ → List ℕ → List ℕ → ℕ → List ℕ → Type 0
EncodedBodies s P page r page' = Writes (λ a. r ≡ encoded a) (read_back_answer s P (length page)) (bodies_read s P) page page'

-- what the program `verdict` prints of a submission, "with a page of 388 bytes": document 01, after 'Marked examples'
unfoldable pub verdict_text : List ℕ → List ℕ
verdict_text s = answer_text (entries s) (check_answer s 388) (page_after (check_answer s 388) (bytes_of (program s)) (replicate 388 0))

-- `write_verdict`: the text is in the buffer, as far as that reaches, and whole in one of 4,096 bytes
pub record Printed (s out : List ℕ) (r : ℕ) (out' : List ℕ) : Type 0 where
  pub puts : Puts out 0 (verdict_text s) out' r
  pub whole : 4096 ≤ length out → (r ≡ length (verdict_text s)) × (take r out' ≡ verdict_text s)
