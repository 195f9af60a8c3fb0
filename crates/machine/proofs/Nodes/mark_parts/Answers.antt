-- `mark_parts` meets its contract: one law for each return.
use Rattle.machine.proofs.Theory.MarkedParts.{treated_atom, treated_parts, left_marks, right_marks}
use Rattle.std.proofs.Common.{rules}
use Rattle.machine.proofs.Nodes.mark_parts.Goals as goal

pub bounds-marks-from-2 : goal.bounds-marks-from-2
bounds-marks-from-2 c = search (left_marks, rules)

pub bounds-marks-from-3 : goal.bounds-marks-from-3
bounds-marks-from-3 c = search (right_marks, left_marks, rules)

pub returns : goal.returns
returns c = search (treated_parts, rules)

pub returns-in_default : goal.returns-in_default
returns-in_default c = search (treated_atom, rules)
