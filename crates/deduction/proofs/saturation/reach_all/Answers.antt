-- `reach_all` meets its contract: the working, then every term that can be built.
use Rattle.deduction.proofs.Working.{all_reached}
use Rattle.std.proofs.Common.{rules}
use Rattle.deduction.proofs.saturation.reach_all.Goals as goal

pub returns : goal.returns
returns c = search (all_reached, rules)
