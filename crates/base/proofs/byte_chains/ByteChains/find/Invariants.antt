-- `find` meets its contract: the walk along the chain of y.
use Rattle.base.proofs.Chains.{Searched, bound_of}
use Rattle.base.proofs.byte_chains.ByteChains.find.Given as goal

abbrev pub invariant-loop-next : goal.invariant-loop-next
invariant-loop-next g l = Searched l.self.before l.self.latest l.y (goal.F-post g l.test) l.next

abbrev pub decreases-loop-next : goal.decreases-loop-next
decreases-loop-next g l = bound_of l.next
