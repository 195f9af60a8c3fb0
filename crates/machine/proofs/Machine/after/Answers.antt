-- `after` meets its contract: the first i instructions are executed.
use Rattle.machine.proofs.Theory.RunLoop.{ran_none, ran_more, ran_executable}
use Rattle.std.proofs.Common.{rules}
use Rattle.machine.proofs.Machine.after.Goals as goal

pub loop-i-init : goal.loop-i-init
loop-i-init c = (search rules, search ran_none)

pub step-self-requires : goal.step-self-requires
step-self-requires c = search ran_executable

pub loop-i-preserved : goal.loop-i-preserved
loop-i-preserved c = (search rules, search ran_more)
