-- What the call `join` promises: its answer, and the pool on the page.
use Rattle.std.specs.Prelude.{◌≡◌, Result}
use Rattle.base.specs.{declared.refusal.Refusal.Refusal, Words.List, Words.ℕ, Words.length, Answer.answer_of, Answer.Writes}
use Rattle.pool.specs.{Pool.joined, Computed.join_answer}

-- the answer r and the page afterwards: the answer of joining a and b, and where it is done the submission of the pool
abbrev pub PoolWritten : List ℕ → List ℕ → List ℕ → Result ℕ Refusal → List ℕ → Type 0
PoolWritten a b page r page' = Writes (λ c. answer_of r ≡ c) (join_answer a b (length page)) (joined a b) page page'
