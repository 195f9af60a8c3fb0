-- `saturate` meets its contract: the start is entered, all is taken apart, and where a compound term is a key, all is composed.
use Rattle.deduction.proofs.Working.{open_none, saturated_atoms, saturated_composed}
use Rattle.std.proofs.Common.{rules}
use Rattle.deduction.proofs.saturation.saturate.Goals as goal

pub open_all-requires : goal.open_all-requires
open_all-requires c = record { queue = search rules; from_le_end = search rules; open_to = open_none }

pub returns-then-has_compound_key : goal.returns-then-has_compound_key
returns-then-has_compound_key c = search (saturated_composed, rules)

pub returns-else-has_compound_key : goal.returns-else-has_compound_key
returns-else-has_compound_key c = search (saturated_atoms, rules)
