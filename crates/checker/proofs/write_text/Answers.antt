use Rattle.base.proofs.StageLaws.{bytes}
use Rattle.checker.proofs.PrintingReturns.{printed_accepted, printed_refused}
use Rattle.std.proofs.Common.{rules}
use Rattle.checker.proofs.write_text.Goals as goal

pub returns-in-Accepted : goal.returns-in-Accepted
returns-in-Accepted c = search (printed_accepted, bytes, rules)

pub returns-in-Refused : goal.returns-in-Refused
returns-in-Refused c = search (printed_refused, rules)
