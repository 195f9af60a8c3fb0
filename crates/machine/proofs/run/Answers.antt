-- `run` answers what checks 1 to 5, 13 and 15 and the machine give.
use Rattle.std.proofs.Common.{rules}
use Rattle.machine.proofs.Theory.RunAnswer.{run_refused, run_tried}
use Rattle.machine.proofs.run.Goals as goal

pub returns-in_err-read : goal.returns-in_err-read
returns-in_err-read c = run_refused _ _ _ c.read.ensures.answer _ c.in_err-read.was (search rules)

pub returns : goal.returns
returns c = run_tried _ _ _ c.read.ensures.answer _ c.in_ok-read.was (rw (c.in_ok-read.ensures.submission, c.in_ok-read.ensures.program) at c.tried.ensures)
