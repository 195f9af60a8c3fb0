-- `Acceptable::write_program`: the instructions and the test are written.
use Rattle.std.proofs.Common.{refl}
use Rattle.conditions.proofs.ProgramValue.{value_written}
use Rattle.conditions.proofs.page.Acceptable.write_program.Goals as goal

pub returns : goal.returns
returns c =
    value_written c.args.self.acceptable c.loop-i.invariant c.loop-i.auto.i-end c.loop-i-test.false c.steps-count.ensures c.from-2.ensures c.claim_test.ensures _ _ refl c.write.ensures
