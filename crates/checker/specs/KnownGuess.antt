-- What is promised of guesses that are already known: document 02, A5.
use Rattle.std.specs.Prelude.{◌≡◌, ◌↔◌, ◌≤◌, ◌<◌}
use Rattle.base.specs.{Words.List, Words.ℕ, Words.get_or, Words.Bytes, Answer.done, Answer.refused}
use Rattle.term.specs.{Term.is_key, Term.inverse, Term.void, Step.Deducible}
use Rattle.submission.specs.{Record.entries, Record.steps, Record.guess, Record.way_at, Record.term, Record.InKnowledge, Check.Target, Check.verifier, Check.derived, Check.claims}
use Rattle.derivation.specs.Step.{concluded, written}
use Rattle.program.specs.Program.{bytes_of, program_length, operand}
use Rattle.machine.specs.Run.{registers}
use Rattle.conditions.specs.{Condition.WellFormed, Condition.Given, Condition.target, Condition.EachFounded, Calls.instruction, Calls.program, Computed.check_answer}

pub record KnownGuessPromise : Type 0 where
  -- "recognisable if it is deducible or verifier-producing": an acceptance in way k, 6B, says that some finite list of steps reaches the guess
  -- from the knowledge;
  pub guess_deducible : (s : List ℕ) → Bytes s → (room n : ℕ) → check_answer s room ≡ done n → way_at s ≡ 0x6B → Deducible (InKnowledge s) (term s (guess s))
  -- one in way j, 6A, that the guess is a key, and that some list reaches its inverse;
  pub inverse_deducible : (s : List ℕ) → Bytes s → (room n : ℕ) → check_answer s room ≡ done n → way_at s ≡ 0x6A →
      is_key (term s (guess s)) × Deducible (InKnowledge s) (inverse (term s (guess s)))
  -- and one in ways a to c that no list reaches the guess
  pub not_deducible : (s : List ℕ) → Bytes s → (room n : ℕ) → check_answer s room ≡ done n → claims s ≡ verifier → Deducible (InKnowledge s) (term s (guess s)) → ⊥
  -- "Conditions 2 to 5 don't apply; in demands 2 and 3 their place is taken by the step, or the 255, giving the term claimed": accepted exactly then;
  pub accepts : (s : List ℕ) → Bytes s → (t : Target) → claims s ≡ derived t → (room n : ℕ) →
      (check_answer s room ≡ done n) ↔ ((n ≡ steps s) × WellFormed s × EachFounded s × Given s (target s t) × (program_length (steps s) ≤ room))
  -- "It refuses with 16 (not shown) a step or a 255 that doesn't give the term claimed, after 7 and before 11": exactly then
  pub refuses : (s : List ℕ) → Bytes s → (t : Target) → claims s ≡ derived t → (room p : ℕ) →
      (check_answer s room ≡ refused 16 p) ↔ ((p ≡ 0) × WellFormed s × EachFounded s × (Given s (target s t) → ⊥))
  -- "its register serves no premise": of an acceptance's program no instruction reads the guess's register,
  pub unread : (s : List ℕ) → Bytes s → (t : Target) → claims s ≡ derived t → (room n : ℕ) → check_answer s room ≡ done n → (i : ℕ) → i < steps s →
      ((instruction s i).left ≡ entries s → ⊥) × (operand (instruction s i) ≡ entries s → ⊥)
  -- and whatever name is tried, each step's register holds what the step concludes
  pub unmoved : (s : List ℕ) → Bytes s → (t : Target) → claims s ≡ derived t → (room n : ℕ) → check_answer s room ≡ done n → (name i : ℕ) → i < steps s →
      get_or (registers s name (bytes_of (program s)) (steps s)) (written s i) void ≡ concluded s i
