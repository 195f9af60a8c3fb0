-- `opening_of` meets its contract: nothing opens a record of any other kind. That it is of a kind has to be listed, so `using` doesn't serve here.
use Rattle.deduction.proofs.RecordOpening.{opens_other}
use Rattle.std.proofs.Common.{rules}
use Rattle.deduction.proofs.opening.Openings.opening_of.Goals as goal

pub returns-in_default : goal.returns-in_default
returns-in_default c = search (opens_other, c.in_ok-kind.was, rules)
