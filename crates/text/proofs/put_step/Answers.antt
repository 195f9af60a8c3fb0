-- The pieces of an instruction's line, in the order of the calls.
use Rattle.text.proofs.LineReturns.{step_put}
use Rattle.text.proofs.put_step.Goals as goal

pub returns : goal.returns
returns c = step_put _ _ c.put_register.ensures c.put_all.ensures (rw c.word_of.ensures at c.put_all-2.ensures) c.put.ensures c.from.ensures c.put_register-2.ensures c.put_second.ensures c.put-2.ensures
