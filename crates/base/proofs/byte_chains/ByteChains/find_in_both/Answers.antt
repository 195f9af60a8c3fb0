-- `find_in_both` meets its contract: the walks along the chain of y here and along that of z there.
use Rattle.std.proofs.Common.{rules}
use Rattle.base.proofs.Chains.{searched_more, searched_less, here_hit, there_hit, here_end, there_end}
use Rattle.base.proofs.byte_chains.ByteChains.find_in_both.Goals as goal

pub returns-in_default-other : goal.returns-in_default-other
returns-in_default-other g c = there_end c.loop-here.invariant.0 c.loop-here.invariant.1 c.in_default-other.is

pub returns-then-test : goal.returns-then-test
returns-then-test g c = here_hit c.loop-here.invariant.0 c.loop-here.invariant.1 c.in-Some.is (search (c.if-test.ensures, rules))

pub returns-then-test-2 : goal.returns-then-test-2
returns-then-test-2 g c = there_hit c.loop-here.invariant.0 c.loop-here.invariant.1 c.in-Some-other.is (search (c.if-test-2.ensures, rules))

pub loop-here-smaller : goal.loop-here-smaller
loop-here-smaller g c = let (e, f, i, h, k) = c.requires.chaining in searched_less c.loop-here.invariant.0 c.in-Some.is c.before-here.ensures (e, i, h)

pub loop-here-preserved : goal.loop-here-preserved
loop-here-preserved g c = (
  searched_more c.loop-here.invariant.0 c.in-Some.is c.before-here.ensures (search (c.if-test.ensures, rules)),
  searched_more c.loop-here.invariant.1 c.in-Some-other.is c.before-other.ensures (search (c.if-test-2.ensures, rules)),
)

pub returns : goal.returns
returns g c = here_end c.loop-here.invariant.0 c.loop-here.invariant.1 c.in_default.is
