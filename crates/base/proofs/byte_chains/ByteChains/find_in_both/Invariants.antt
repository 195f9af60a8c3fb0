-- `find_in_both` meets its contract: the walks along the chain of y here and along that of z there.
use Rattle.base.proofs.Chains.{Searched, bound_of}
use Rattle.base.proofs.byte_chains.ByteChains.find_in_both.Given as goal

abbrev pub invariant-loop-here : goal.invariant-loop-here
invariant-loop-here g l =
    Searched l.self.before l.self.latest l.y (goal.F-post g l.test) l.here × Searched l.there.before l.there.latest l.z (goal.F-post g l.test) l.other

abbrev pub decreases-loop-here : goal.decreases-loop-here
decreases-loop-here g l = bound_of l.here
