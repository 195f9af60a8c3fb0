-- The pieces of a refusal, in the order of the calls.
use Rattle.std.proofs.Common.{rules}
use Rattle.base.proofs.PutLaws.{wrote_out}
use Rattle.text.proofs.LineReturns.{refused_put}
use Rattle.text.proofs.write_refused.Goals as goal

pub returns : goal.returns
returns c =
    let p = refused_put _ _ c.put_all.ensures c.from.ensures c.put_number.ensures c.put.ensures c.put_number-2.ensures c.put-2.ensures in
    wrote_out p c.new-text.ensures.now c.new-text.ensures.at (search rules)
