-- `put_steps` meets its contract: the records of the steps passed are written.
use Rattle.std.proofs.Common.{refl, rules}
use Rattle.base.proofs.PutLaws.{wrote_none, next_put, all_put}
use Rattle.base.specs.Words.{fours}
use Rattle.readback.specs.ReadBack.{step_read}
use Rattle.readback.proofs.readable.Readable.put_steps.Goals as goal

pub loop-i-init : goal.loop-i-init
unfolding fours
loop-i-init c = (search rules, wrote_none)

pub loop-i-preserved : goal.loop-i-preserved
unfolding fours
loop-i-preserved c = (search rules, next_put (fours _) (step_read _ _) refl c.loop-i.invariant.1 c.put_step.ensures)

pub returns : goal.returns
returns c = rw (← c.byte-n.ensures) (all_put (fours _) c.loop-i.invariant.0 c.loop-i-test.false c.loop-i.invariant.1)
