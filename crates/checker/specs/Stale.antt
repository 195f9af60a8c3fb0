-- What is promised of stale names: document 02, A3, "Stale wrong guesses".
use Rattle.std.specs.Prelude.{◌≡◌, ◌↔◌}
use Rattle.base.specs.{Words.List, Words.ℕ, Words.Bytes, Answer.Answer, Answer.done, Answer.refused, Answer.Clear, Answer.Answers}
use Rattle.submission.specs.Record.{guess, name_at}
use Rattle.machine.specs.{Run.StaleName, Run.signal, Run.program_rows, Computed.run_answer}
use Rattle.conditions.specs.Demand.{WrongGuess, Demand3Taken}

pub record StalePromise : Type 0 where
  -- "It refuses with 15 (stale) a name whose atom of the guess's kind, or that atom's inverse, is part of the knowledge, tried last": exactly then
  pub refuses : (s P : List ℕ) → Bytes s → (name p : ℕ) →
      (run_answer s name P ≡ refused 15 p) ↔ ((p ≡ 0) × Clear (program_rows s P) × StaleName s name)
  -- "The guess's own name stays allowed", even where it is part of the knowledge
  pub own : (s P : List ℕ) → Bytes s → Clear (program_rows s P) → run_answer s (name_at s (guess s)) P ≡ done (signal s (name_at s (guess s)) P)
  -- "Until now callers had to pick a fresh name": the names that run takes, other than the guess's own, are those of wrong guesses
  pub taken : (s P : List ℕ) → Bytes s → Clear (program_rows s P) → (name : ℕ) → (name ≡ name_at s (guess s) → ⊥) →
      ((v : ℕ) × (run_answer s name P ≡ done v)) ↔ WrongGuess s name
  -- everything else that run answered, by rows 1 to 5, row 13 and the signal, it answers
  pub others : (s P : List ℕ) → Bytes s → (name : ℕ) (a : Answer) → Answers (program_rows s P) (λ v. v ≡ signal s name P) a →
      (run_answer s name P ≡ refused 15 0 → ⊥) → run_answer s name P ≡ a
  -- demand 3 of the names that run takes
  pub signals : Demand3Taken
