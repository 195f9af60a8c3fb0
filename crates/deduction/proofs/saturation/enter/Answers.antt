-- `enter` meets its contract: the terms before t that the start marks are entered.
use Rattle.deduction.proofs.Working.{entering_none, entering_skip, entering_more, entering_all}
use Rattle.std.proofs.Common.{rules}
use Rattle.deduction.proofs.saturation.enter.Goals as goal
use Rattle.deduction.proofs.saturation.enter.Goals.{then-start-from, else-start-from}

pub loop-t-init : goal.loop-t-init
loop-t-init c = search (entering_none, rules)

pub loop-t-preserved : goal.loop-t-preserved
loop-t-preserved c =
    elim c.if-start-from.branch [
      | then-start-from w ↦ rw w.work-is (search (entering_more, rules))
      | else-start-from w ↦ rw w.work-is (search (entering_skip, rules))
    ]

pub returns : goal.returns
returns c = record { queue = search rules; entered = search (entering_all, rules) }
