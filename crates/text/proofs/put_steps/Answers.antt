-- The lines of the instructions passed are written.
use Rattle.std.proofs.Common.{◌+◌, refl, arith}
use Rattle.base.proofs.PutLaws.{wrote_none, next_put, all_put}
use Rattle.program.specs.Program.{instruction_at}
use Rattle.text.specs.Text.{step_line, step_lines}
use Rattle.text.proofs.put_steps.Goals as goal

pub loop-i-init : goal.loop-i-init
unfolding step_lines
loop-i-init c = wrote_none

pub loop-i-preserved : goal.loop-i-preserved
unfolding step_lines
loop-i-preserved c =
    next_put (step_lines c.args.r c.args.page.now) (λ n. step_line (c.args.r + n) (instruction_at c.args.page.now n)) refl c.loop-i.invariant
    (rw (c.from.ensures, c.instruction_at.ensures) at c.put_step.ensures)

pub returns : goal.returns
returns c = all_put (step_lines _ _) (omega arith) (omega arith) c.loop-i.invariant
