-- `is_deducible` meets its contract: the one term as both.
use Rattle.deduction.proofs.CallReturns.{said_known}
use Rattle.std.proofs.Common.{rules}
use Rattle.deduction.proofs.is_deducible.Goals as goal

pub returns : goal.returns
returns c = search (said_known, rules)
