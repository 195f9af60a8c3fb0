-- `open_all` meets its contract: the terms before `head` are taken apart.
use Prim.Native.Nat.{◌-◌}
use Rattle.deduction.proofs.Firing.{OpenLoop}
use Rattle.deduction.proofs.chains.KeyChains.open_all.Given as goal

abbrev pub invariant-loop-head : goal.invariant-loop-head
invariant-loop-head l = OpenLoop l.self.openings.now.table.bytes.now l.initial.work.marks l.initial.work.order l.initial.work.end l.work.marks l.work.order l.work.end l.head

abbrev pub decreases-loop-head : goal.decreases-loop-head
decreases-loop-head l = 256 - l.head
