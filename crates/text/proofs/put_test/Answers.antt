-- The pieces of the test's line, in the order of the calls.
use Rattle.text.proofs.LineReturns.{test_put}
use Rattle.text.proofs.put_test.Goals as goal

pub returns : goal.returns
returns c = test_put _ c.put_all.ensures c.from.ensures c.put_register.ensures c.put.ensures c.put_relation.ensures c.put-2.ensures c.from-2.ensures c.put_register-2.ensures c.put-3.ensures
