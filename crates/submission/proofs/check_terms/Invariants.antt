-- `check_terms` meets its contract: the records before i are good, and chained.
use Rattle.base.proofs.First.{Passed}
use Rattle.submission.specs.Computed.{bad_term}
use Rattle.submission.specs.Code.{RecordsChained}
use Rattle.submission.proofs.check_terms.Given as goal

abbrev pub invariant-loop-i : goal.invariant-loop-i
invariant-loop-i l = Passed (bad_term l.s) l.n l.i × RecordsChained l.s l.i l.chains
