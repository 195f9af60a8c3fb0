-- `build_one` meets its contract: an atom, a first part that is not marked, and the second.
use Rattle.deduction.proofs.MarkArrays.{told_not_none}
use Rattle.deduction.proofs.Working.{built_atom, built_now}
use Rattle.std.proofs.Common.{rules}
use Rattle.deduction.proofs.saturation.build_one.Goals as goal

pub returns-in_default : goal.returns-in_default
returns-in_default c = search (built_atom, rules)

pub returns : goal.returns
returns c = search (built_now, told_not_none, rules)
