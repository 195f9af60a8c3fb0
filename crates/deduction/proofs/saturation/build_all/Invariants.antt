-- `build_all` meets its contract: the terms before i are marked where their parts are.
use Rattle.deduction.proofs.Working.{Building}
use Rattle.deduction.proofs.saturation.build_all.Given as goal

abbrev pub invariant-loop-i : goal.invariant-loop-i
invariant-loop-i l = Building l.table.bytes.now l.initial.work.marks l.initial.work.order l.initial.work.end l.work.marks l.work.order l.work.end l.i
