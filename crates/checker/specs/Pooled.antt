-- What is promised of a pool where the checker reads it: document 02, A8.
use Rattle.std.specs.Prelude.{◌≡◌, ◌⊎◌, ◌↔◌, ◌≤◌}
use Rattle.base.specs.{Words.List, Words.ℕ, Words.Bytes, Answer.done, Answer.refused}
use Rattle.term.specs.{Term.Term, Step.Deducible}
use Rattle.submission.specs.{Record.verifying, Record.InKnowledge, Check.Target, Check.verifier, Check.derived, Check.claims}
use Rattle.derivation.specs.Step.{Premise}
use Rattle.deduction.specs.Computed.{deducible_answer}
use Rattle.program.specs.Program.{program_length}
use Rattle.conditions.specs.Computed.{check_answer}
use Rattle.pool.specs.{Pool.joined, Pool.pool_number, Computed.join_answer}

-- what holds of the pool p of the submissions a and b
pub record PoolKeeps (a b p : List ℕ) : Type 0 where
  -- "A term deducible from either must be deducible from the pool": every term, listed or not,
  pub deducible : (t : Term) → Deducible (InKnowledge a) t ⊎ Deducible (InKnowledge b) t → Deducible (InKnowledge p) t
  -- and so the call says yes again, of the first's terms under their numbers, and of the second's under the pool's
  pub first_yes : (t : ℕ) → deducible_answer a t ≡ done 1 → deducible_answer p t ≡ done 1
  pub second_yes : (t : ℕ) → deducible_answer b t ≡ done 1 → deducible_answer p (pool_number a b t) ≡ done 1
  -- "An accepted submission may become "reachable" in the pool", and nothing else: of an accepted first one the pool, with page enough, is accepted,
  -- or refused with 8 at the verifying step;
  pub accepted : (sheet n : ℕ) → check_answer a sheet ≡ done n → (room : ℕ) → program_length n ≤ room →
      (check_answer p room ≡ done n) ⊎ (check_answer p room ≡ refused 8 (verifying a))
  -- it is refused so exactly where it claims a verifier, and the pool's knowledge reaches every premise of its verifying step;
  pub reachable : (sheet n : ℕ) → check_answer a sheet ≡ done n → (room : ℕ) → program_length n ≤ room →
      (check_answer p room ≡ refused 8 (verifying a)) ↔ ((claims a ≡ verifier) × ((x : Term) → Premise a (verifying a) x → Deducible (InKnowledge p) x))
  -- what is accepted in way k or j stays accepted
  pub derived_stays : (t : Target) → claims a ≡ derived t → (sheet n : ℕ) → check_answer a sheet ≡ done n → (room : ℕ) → program_length n ≤ room → check_answer p room ≡ done n

-- A8's promise of every two submissions that are joined
abbrev pub PooledPromise : Type 0
PooledPromise = (a b : List ℕ) → Bytes a → Bytes b → (room n : ℕ) → join_answer a b room ≡ done n → PoolKeeps a b (joined a b)
