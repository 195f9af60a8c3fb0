-- `is_under_hash` meets its contract: the kind, then that of the key.
use Rattle.deduction.proofs.Working.{under_other, under_told}
use Rattle.std.proofs.Common.{rules}
use Rattle.deduction.proofs.saturation.is_under_hash.Goals as goal

pub returns-then-ne : goal.returns-then-ne
returns-then-ne c = search (under_other, rules)

pub returns : goal.returns
returns c = search (under_told, rules)
