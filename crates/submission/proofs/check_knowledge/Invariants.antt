-- `check_knowledge` meets its contract: the entries before i are good, and noted.
use Rattle.base.specs.Code.{Flagged}
use Rattle.base.proofs.First.{Passed}
use Rattle.submission.specs.{Record.entry_at, Computed.bad_knowledge}
use Rattle.submission.proofs.check_knowledge.Given as goal

abbrev pub invariant-loop-i : goal.invariant-loop-i
invariant-loop-i l = Passed (bad_knowledge l.s) l.n l.i × Flagged (entry_at l.s) l.i l.seen
