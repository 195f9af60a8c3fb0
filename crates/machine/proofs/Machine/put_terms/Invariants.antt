-- `put_terms` meets its contract: the first t terms are in the array.
use mathlib.Core.Path.{◌≡◌}
use Prim.Native.Nat.{◌-◌, ◌≤◌}
use lib.ListN.{length}
use Rattle.machine.proofs.Theory.StartState.{Filled}
use Rattle.machine.proofs.Machine.put_terms.Given as goal

abbrev pub invariant-loop-t : goal.invariant-loop-t
invariant-loop-t l = (l.t ≤ l.n) × Filled l.submission.bytes.now l.self.nodes.items l.t × (length l.self.registers ≡ 256)

abbrev pub decreases-loop-t : goal.decreases-loop-t
decreases-loop-t l = l.n - l.t
