-- The lines of the instructions passed are written.
use Rattle.text.specs.Text.{step_lines}
use Rattle.base.specs.Code.{Wrote}
use Rattle.text.proofs.put_steps.Given as goal

abbrev pub invariant-loop-i : goal.invariant-loop-i
invariant-loop-i l = Wrote l.initial.out (step_lines l.r l.page l.i) l.out
