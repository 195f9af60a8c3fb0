-- `check_limits` meets its contract: the counts before this one are within their limits.
use lib.ListN.{get_or, length}
use Rattle.base.proofs.First.{Passed}
use Rattle.submission.specs.Computed.{bad_count}
use Rattle.submission.proofs.check_limits.Given as goal

abbrev pub invariant-loop-i : goal.invariant-loop-i
invariant-loop-i l = Passed (bad_count (λ k. get_or l.fn.counts k 0)) 4 (length l.yielded)
