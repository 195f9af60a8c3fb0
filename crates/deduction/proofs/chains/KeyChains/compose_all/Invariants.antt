-- `compose_all` meets its contract: what is built of the terms before `head` is marked.
use Prim.Native.Nat.{◌-◌}
use Rattle.deduction.proofs.Firing.{ComposeLoop}
use Rattle.deduction.proofs.chains.KeyChains.compose_all.Given as goal

abbrev pub invariant-loop-head : goal.invariant-loop-head
invariant-loop-head l = ComposeLoop l.fn.self.openings.now.table.bytes.now l.initial.work.marks l.initial.work.order l.initial.work.end l.work.marks l.work.order l.work.end l.head

abbrev pub decreases-loop-head : goal.decreases-loop-head
decreases-loop-head l = 256 - l.head
