-- One instruction over the registers: the nodes that it reads, and the term that goes to the next register.
use mathlib.Core.Path.{◌≡◌, ap₂}
use Prim.Native.Nat.{ℕ, ◌<◌}
use lib.ListN.{get_or}
use Rattle.base.proofs.Grow.{listed_at}
use Rattle.term.specs.Term.{void}
use Rattle.term.specs.Reduce.{op}
use Rattle.term.specs.Number.{head_of}
use Rattle.program.specs.Program.{Instruction, operand}
use Rattle.machine.specs.declared.Machine.{Machine}
use Rattle.machine.specs.declared.Operands.{Operands}
use Rattle.std.specs.Prelude.{Option as Maybe}
use Rattle.machine.specs.Run.{executed}
use Rattle.machine.specs.Code.{reduced, Valued, Placed, Executable, Executed}
use Rattle.machine.proofs.Theory.StateMeaning.{operands_in, node_in, term_at, register, values, Gives, Applies}
use Rattle.machine.proofs.Theory.NodeReductions.{Ready, form, right_part_in, result_gives, reduct}

-- the value of a register
pub value_at : (m : Machine) (r : ℕ) → r < m.used → get_or (values m) r void ≡ term_at m (register m r)
unfolding values
value_at m r l = listed_at (λ r. term_at m (register m r)) r m.used void l

-- ---- what the code reads and writes
module _ {m : Machine} {i : Instruction} {p q t : ℕ} (w : Executable m i) (e : p ≡ i.left) (f : q ≡ t) (g : t ≡ operand i) where
  pub left_in : get_or m.registers p 0 < m.nodes.used
  left_in = rw e w.left

  pub right_in : get_or m.registers q 0 < m.nodes.used
  right_in = rw (f, g) w.right

  pub key_in : (node_in m (get_or m.registers p 0)).right < 384
  key_in = rw e w.key

  pub executed_so : {o : Operands} {x y : Maybe ℕ} {r : Machine} →
      o ≡ operands_in m (get_or m.registers p 0) (get_or m.registers q 0) → x ≡ reduced (head_of i.rule) o (get_or m.registers q 0) →
      Valued m.nodes (form i.rule (get_or m.registers p 0) (get_or m.registers q 0)) x y →
      Placed m (form i.rule (get_or m.registers p 0) (get_or m.registers q 0)) y r → Executed m i r
  executed_so {y = y} c d h z = record { found = y; value = rw (e, f, g) at (rw (d, c) at h); placed = rw (e, f, g) at z }

-- ---- what it gives
module _ {m : Machine} {i : Instruction} (w : Applies m i) where
  ready : Ready m (register m i.left) (register m (operand i))
  ready = record { sound = w.sound; left = w.sound.written _ w.left; right = w.sound.written _ w.right }

  pub applies_executable : Executable m i
  applies_executable = record {
    rule = w.rule;
    left = ready.left;
    right = ready.right;
    key = right_part_in m (register m i.left) w.sound ready.left w.room;
    room = w.room;
    space = w.space;
  }

  executed_is : executed (values m) i ≡ op (head_of i.rule) (term_at m (register m i.left)) (term_at m (register m (operand i)))
  unfolding executed
  executed_is = ap₂ (op (head_of i.rule)) (value_at m i.left w.left) (value_at m (operand i) w.right)

  pub executed_gives : {r : Machine} → Executed m i r → Gives m (executed (values m) i) r
  executed_gives p = rw executed_is (result_gives ready w.rule _ p.found (reduct (head_of i.rule) ready) p.value p.placed)
