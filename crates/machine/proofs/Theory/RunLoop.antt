-- The instructions of a program that passes check 13, one after the other: what the state holds after each.
use mathlib.Core.Path.{◌≡◌, refl, ap₂, ◌∙◌}
use mathlib.Core.Bool.{false}
use mathlib.Core.List.{List, [], ◌∷◌, ◌++◌}
use Prim.Native.Nat.{ℕ, zero, suc, ◌+◌, ◌≤◌, ◌<◌}
use native.Mathlib.Numerals.{add-one}
use native.Mathlib.Omega.{arith}
use lib.ListN.{length, length-set}
use Rattle.base.specs.Words.{grow, byte}
use Rattle.submission.proofs.Theory.ListedTerms.{claim_facts}
use Rattle.submission.specs.Code.{SubmissionRead}
use Rattle.program.specs.Program.{Instruction, instruction_at}
use Rattle.program.specs.Computed.{bad_program}
use Rattle.program.proofs.Theory.Check13.{operand_fits, program_iff}
use Rattle.machine.specs.Run.{executed, registers}
use Rattle.machine.specs.declared.Machine.{Machine}
use Rattle.machine.specs.declared.Node.{Node}
use Rattle.std.specs.Prelude.{Option as Maybe}
use Rattle.machine.specs.Code.{guess_node, Started, Executable, Executed, Ran, Runnable}
use Rattle.machine.proofs.Theory.StateMeaning.{values, Gives, Applies, HasTerms, Running}
use Rattle.machine.proofs.Theory.StartState.{start_running, start_terms, start_long, terms_stay}
use Rattle.machine.proofs.Theory.InstructionResult.{applies_executable, executed_gives}

-- ---- one instruction
module _ {s P : List ℕ} {name i : ℕ} {m : Machine} {x : Instruction} (w : SubmissionRead s) (g : bad_program s P ≡ false) (h : Running s name P i m) (l : i < byte P 0) (e : x ≡ instruction_at P i) where
  instruction_applies : Applies m x
  instruction_applies =
      let z = (program_iff s P).0 g in
      let r = z.rules_right i (omega arith) in
      let a = (z.registers_right i (omega arith)).0 in
      let b = operand_fits _ (instruction_at P i) (z.registers_right i (omega arith)) in
      record {
        sound = h.holds.sound;
        rule = rw e r;
        left = rw (e, h.used) a;
        right = rw (e, h.used) b;
        room = omega (arith, h.few, z.few);
        space = omega (arith, h.used, z.few, (claim_facts w).read.entries_most);
      }

  running_more : {r : Machine} → Gives m (executed (values m) x) r → Running s name P (i + 1) r
  unfolding registers grow
  running_more d = record {
    holds = record {
      sound = d.holds.sound;
      is = d.holds.is ∙ rw (add-one i) (ap₂ (λ vs j. vs ++ executed vs j ∷ []) h.holds.is e);
    };
    used = omega (arith, d.used, h.used);
    few = omega (arith, d.few, h.few);
  }

-- ---- the loop of `after`: its invariant at the start and after a turn
pub ran_none : (m : Machine) (P : List ℕ) → Ran m P 0 m
unfolding Ran
ran_none m P = refl

module _ (m : Machine) (P : List ℕ) {i n : ℕ} (q : Machine) {x : Instruction} (d : Ran m P i q) (l : i < n) (f : n ≡ byte P 0) (e : x ≡ instruction_at P i) where
  pub ran_executable : Runnable m P → Executable q x
  ran_executable h = rw e (h.is i (omega arith) q d)

  pub ran_more : {r : Machine} → Executed q x r → Ran m P (i + 1) r
  unfolding Ran
  ran_more z = rw (add-one i) (q, d, rw e at z)

-- ---- the run of a program that passes check 13
-- the state m after i of the instructions
pub record RunSoFar (s : List ℕ) (name : ℕ) (P : List ℕ) (i : ℕ) (m : Machine) : Type 0 where
  pub read : SubmissionRead s
  pub good : bad_program s P ≡ false
  pub running : Running s name P i m
  pub listed : HasTerms s m
  pub long : length m.registers ≡ 256

module _ {s P : List ℕ} {name i : ℕ} {m : Machine} (h : RunSoFar s name P i m) (l : i < byte P 0) {x : Instruction} (e : x ≡ instruction_at P i) where
  applies : Applies m x
  applies = instruction_applies h.read h.good h.running l e

  run_executable : Executable m x
  run_executable = applies_executable applies

  run_more : {r : Machine} → Executed m x r → RunSoFar s name P (i + 1) r
  run_more d = record {
    read = h.read;
    good = h.good;
    running = running_more h.read h.good h.running l e (executed_gives applies d);
    listed = terms_stay h.listed d.placed;
    long = rw d.placed.is (simp length-set h.long);
  }

module _ {s P : List ℕ} {name : ℕ} {v : Node} {o : Maybe ℕ} {m : Machine} (w : SubmissionRead s) (g : bad_program s P ≡ false) (z : Started s v o m) (q : v ≡ guess_node s name) where
  run_none : RunSoFar s name P 0 m
  run_none = record { read = w; good = g; running = start_running z w P name q; listed = start_terms z; long = start_long z }

  run_after : (i : ℕ) → i ≤ byte P 0 → (r : Machine) → Ran m P i r → RunSoFar s name P i r
  unfolding Ran
  run_after zero l r e = rw e run_none
  run_after (suc i) l r (p, d, e) = rw (← (add-one i)) (run_more (run_after i (omega arith) p d) (omega arith) refl e)

  pub run_executable_each : Runnable m P
  run_executable_each = record { is = λ i l r d. run_executable (run_after i (omega arith) r d) l refl }

  pub run_all : {n : ℕ} (r : Machine) → n ≡ byte P 0 → Ran m P n r → RunSoFar s name P (byte P 0) r
  run_all r e d = run_after (byte P 0) (omega arith) r (rw e at d)
