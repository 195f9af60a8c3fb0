-- `take_apart` meets its contract: one law for each opening.
use Rattle.deduction.proofs.Firing.{taken_freely, taken_with, taken_none}
use Rattle.std.proofs.Common.{rules}
use Rattle.deduction.proofs.saturation.take_apart.Goals as goal

pub returns-in-Freely : goal.returns-in-Freely
returns-in-Freely c = search (taken_freely, rules)

pub returns-in-With : goal.returns-in-With
returns-in-With c = search (taken_with, rules)

pub returns-in_default : goal.returns-in_default
returns-in_default c = search (taken_none, rules)
