-- The pieces of an acceptance, in the order of the calls.
use Rattle.std.proofs.Common.{rules}
use Rattle.base.proofs.PutLaws.{wrote_out}
use Rattle.text.proofs.LineReturns.{accepted_put}
use Rattle.text.proofs.write_accepted.Goals as goal

pub returns : goal.returns
returns c =
    let p = accepted_put _ _ _ c.put_all.ensures c.from.ensures c.put_number.ensures c.put.ensures c.from-2.ensures c.put_steps.ensures c.test_at.ensures c.put_test.ensures in
    wrote_out p c.new-text.ensures.now c.new-text.ensures.at (search rules)
