-- `find` meets its contract: the inverses among the first k terms are noted, and their keys are chained.
use Rattle.std.proofs.Common.{rules}
use Rattle.base.proofs.Chains.{chaining_none}
use Rattle.inverse.proofs.NotedInverses.{found_none, found_all}
use Rattle.inverse.proofs.find.Goals as goal

pub loop-k-init : goal.loop-k-init
loop-k-init c = (search (found_none, rules), rw (c.new-chains.ensures.before, c.new-chains.ensures.latest) chaining_none)

pub returns : goal.returns
returns c = search (found_all, rules)
