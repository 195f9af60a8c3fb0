-- `find` meets its contract: the walk along the chain of y.
use Rattle.std.proofs.Common.{rules}
use Rattle.base.proofs.Chains.{searched_start, searched_more, searched_less, searched_hit, searched_end}
use Rattle.base.proofs.byte_chains.ByteChains.find.Goals as goal

pub loop-next-init : goal.loop-next-init
loop-next-init g c = search (searched_start, rules)

pub returns-then-test : goal.returns-then-test
returns-then-test g c = search (searched_hit, c.if-test.ensures, rules)

pub loop-next-smaller : goal.loop-next-smaller
loop-next-smaller g c = search (searched_less, rules)

pub loop-next-preserved : goal.loop-next-preserved
loop-next-preserved g c = search (searched_more, c.if-test.ensures, rules)

pub returns : goal.returns
returns g c = search (searched_end, rules)
