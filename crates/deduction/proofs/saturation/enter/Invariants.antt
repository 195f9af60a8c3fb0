-- `enter` meets its contract: the terms before i that the start marks are entered.
use Rattle.deduction.proofs.Working.{Entering}
use Rattle.deduction.proofs.saturation.enter.Given as goal

abbrev pub invariant-loop-t : goal.invariant-loop-t
invariant-loop-t l = Entering l.table.bytes.now l.start l.t l.work.marks l.work.order l.work.end
