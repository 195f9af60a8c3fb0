-- `Worklist::new` has room for every term.
use mathlib.Core.Path.{refl}
use Prim.Native.Nat.{ℕ}
use lib.ListN.{length-replicate}
use Rattle.std.specs.Prelude.{Option, None}
use Rattle.deduction.specs.declared.worklist.Origin.{Origin}
use Rattle.deduction.proofs.MarkOrder.{room_none}
use Rattle.deduction.proofs.worklist.Worklist.new.Goals as goal

pub invariant_of-result : goal.invariant_of-result
invariant_of-result c = record { room = room_none (length-replicate {A = Option Origin} 256 None) (length-replicate {A = ℕ} 256 0) refl }
