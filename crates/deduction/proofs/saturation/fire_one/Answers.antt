-- `fire_one` meets its contract: no clause, and one.
use Rattle.deduction.proofs.Firing.{fired_absent, fired_from}
use Rattle.std.proofs.Common.{rules}
use Rattle.deduction.proofs.saturation.fire_one.Goals as goal

pub returns-in_default : goal.returns-in_default
returns-in_default c = search (fired_absent, rules)

pub returns : goal.returns
returns c = search (fired_from, rules)
