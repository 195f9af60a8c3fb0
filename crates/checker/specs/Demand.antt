-- Demand 1, of every call. Demands 2 and 3 are stated with the conditions.
use Rattle.std.specs.Prelude.{◌≡◌, ◌↔◌}
use Rattle.base.specs.{Words.List, Words.ℕ, Words.length, Words.byte, Words.Bytes, Answer.Answer, Answer.Answers}
use Rattle.submission.specs.{Record.terms, Record.steps, Body.Bodies, Body.submission_of}
use Rattle.form.specs.{Write.write_rows, Computed.write_answer}
use Rattle.inverse.specs.{Inverse.inverses_rows, Computed.inverses_answer}
use Rattle.deduction.specs.{Deduce.deducible_rows, Deduce.DeducibleValue, Computed.deducible_answer}
use Rattle.machine.specs.{Run.signal, Run.run_rows, Computed.run_answer}
use Rattle.witness.specs.{Deduction.deduction_rows, Deduction.DeductionValue, Computed.deduction_answer}
use Rattle.pool.specs.{Pool.joined, Pool.join_rows, Computed.join_answer}
use Rattle.readback.specs.{ReadBack.bodies_length, ReadBack.read_back_rows, Computed.read_back_answer}
use Rattle.conditions.specs.{Condition.check_rows, Computed.check_answer}

-- "each fault is refused by its number". What each call answers, for every answer: the refusal that the rows and their order give, or else
-- the count of steps, whether the term is deducible, and by how many steps, the signal, the count of bytes written, the count of terms.
pub record Demand1 : Type 0 where
  pub check : (s : List ℕ) → Bytes s → (room : ℕ) (a : Answer) → (check_answer s room ≡ a) ↔ Answers (check_rows s room) (λ n. n ≡ steps s) a
  pub deducible : (s : List ℕ) → Bytes s → (n : ℕ) (a : Answer) → (deducible_answer s n ≡ a) ↔ Answers (deducible_rows s n) (DeducibleValue s n) a
  -- n is the count of the steps that are shown, which is free
  pub deduction : (s : List ℕ) → Bytes s → (t room n : ℕ) (a : Answer) → (deduction_answer s t room n ≡ a) ↔ Answers (deduction_rows s t room) (DeductionValue s t n) a
  pub run : (s P : List ℕ) → Bytes s → (name : ℕ) (a : Answer) → (run_answer s name P ≡ a) ↔ Answers (run_rows s name P) (λ v. v ≡ signal s name P) a
  pub write : (b : Bodies) (room : ℕ) (a : Answer) → (write_answer b room ≡ a) ↔ Answers (write_rows b room) (λ n. n ≡ length (submission_of b)) a
  pub join : (a b : List ℕ) → Bytes a → Bytes b → (room : ℕ) (c : Answer) → (join_answer a b room ≡ c) ↔ Answers (join_rows a b room) (λ n. n ≡ length (joined a b)) c
  pub inverses : (s : List ℕ) → Bytes s → (room : ℕ) (a : Answer) → (inverses_answer s room ≡ a) ↔ Answers (inverses_rows s room) (λ n. n ≡ terms s) a
  pub read_back : (s P : List ℕ) → Bytes s → (room : ℕ) (a : Answer) → (read_back_answer s P room ≡ a) ↔ Answers (read_back_rows s P room) (λ n. n ≡ bodies_length (byte P 0)) a
