-- What is promised of reading back: document 02, A6.
use Rattle.std.specs.Prelude.{◌≡◌, ◌≤◌, ◌<◌}
use Rattle.base.specs.{Words.List, Words.ℕ, Words.length, Words.byte, Words.Bytes, Answer.done, Answer.Clear}
use Rattle.submission.specs.{Record.steps, Record.rule_at, Record.guess, Body.bodies, Body.body_at, Body.submission_of, Check.rows1to4, Check.rows1to5}
use Rattle.derivation.specs.Step.{first_premise, second_premise, concluded, StepFits, written}
use Rattle.program.specs.Program.{instruction_at, operand, bytes_of}
use Rattle.machine.specs.Run.{held}
use Rattle.conditions.specs.{Calls.program, Computed.check_answer}
use Rattle.readback.specs.{ReadBack.derivation_read, ReadBack.claim_read, ReadBack.bodies_read, ReadBack.bodies_length, Computed.read_back_answer}

-- the submission with the bodies read back in the place of its own
abbrev pub replaced : List ℕ → List ℕ → List ℕ
replaced s P = submission_of (bodies (body_at s 0) (body_at s 1) (derivation_read s P) (claim_read s P))

-- "a program over its terms, knowledge and guess": of two submissions these are the same
pub record SameStart (s s' : List ℕ) : Type 0 where
  pub terms : body_at s 0 ≡ body_at s' 0
  pub knowledge : body_at s 1 ≡ body_at s' 1
  pub guess : guess s ≡ guess s'

-- step i of r is instruction i of P, over the terms that the registers hold with the right guess
pub record StepRight (r s P : List ℕ) (i : ℕ) : Type 0 where
  -- it is right in rule, numbers and shape: check 6
  pub fits : StepFits r i
  pub rule : rule_at r i ≡ (instruction_at P i).rule
  pub first : first_premise r i ≡ held s P (instruction_at P i).left
  pub second : second_premise r i ≡ held s P (operand (instruction_at P i))
  pub result : concluded r i ≡ held s P (written s i)

-- A6's promises about every submission s and every program P
pub record ReadBackPromise : Type 0 where
  -- "4n+4 bytes for a program of n steps"
  pub long : (s P : List ℕ) → length (bodies_read s P) ≡ bodies_length (byte P 0)
  -- "For an accepted submission, its page must give back its own derivation and claim"
  pub own : (s : List ℕ) → Bytes s → (room n : ℕ) → check_answer s room ≡ done n →
      (derivation_read s (bytes_of (program s)) ≡ body_at s 2) × (claim_read s (bytes_of (program s)) ≡ body_at s 3)
  -- it is not refused, with page enough;
  pub taken : (s : List ℕ) → Bytes s → (room n : ℕ) → check_answer s room ≡ done n → (sheet : ℕ) → bodies_length n ≤ sheet →
      read_back_answer s (bytes_of (program s)) sheet ≡ done (bodies_length n)
  -- and the same with any other submission over the same terms, knowledge and guess
  pub others : (s s' : List ℕ) → Bytes s → Bytes s' → (room n : ℕ) → check_answer s room ≡ done n → Clear (rows1to5 s') → SameStart s' s →
      (sheet : ℕ) → bodies_length n ≤ sheet →
      (read_back_answer s' (bytes_of (program s)) sheet ≡ done (bodies_length n)) × (replaced s' (bytes_of (program s)) ≡ s)
  -- "two bodies read back from an accepted page, checked again, must yield that page"
  pub again : (s s' : List ℕ) → Bytes s → Bytes s' → (room n : ℕ) → check_answer s room ≡ done n → Clear (rows1to5 s') → SameStart s' s →
      (check_answer (replaced s' (bytes_of (program s))) room ≡ done n) × (program (replaced s' (bytes_of (program s))) ≡ program s)
  -- whatever program it takes, the bodies read back make a submission over the same terms, knowledge and guess, which passes checks 1 to 4,
  -- with a step for each instruction;
  pub reads : (s P : List ℕ) → Bytes s → (room n : ℕ) → read_back_answer s P room ≡ done n →
      Clear (rows1to4 (replaced s P)) × SameStart (replaced s P) s × (steps (replaced s P) ≡ byte P 0)
  -- each step is one of the table of steps, from and to "what the machine holds with the right guess"
  pub right : (s P : List ℕ) → Bytes s → (room n : ℕ) → read_back_answer s P room ≡ done n → (i : ℕ) → i < byte P 0 → StepRight (replaced s P) s P i
