-- `build_all` meets its contract: the terms before i are marked where their parts are.
use Rattle.deduction.proofs.Working.{building_none, building_more, building_end}
use Rattle.std.proofs.Common.{rules}
use Rattle.deduction.proofs.saturation.build_all.Goals as goal

pub loop-i-init : goal.loop-i-init
loop-i-init c = search (building_none, rules)

pub loop-i-preserved : goal.loop-i-preserved
loop-i-preserved c = search (building_more, rules)

pub returns : goal.returns
returns c = search (building_end, rules)
