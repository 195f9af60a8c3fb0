-- `Derivation::check_steps` is checks 6 and 7, step by step.
use Rattle.derivation.proofs.RegistersHeld.{result_written}
use Rattle.derivation.proofs.StepReturns.{steps_go_on, steps_stop, steps_end}
use Rattle.std.proofs.Common.{rules}
use Rattle.derivation.proofs.steps.Derivation.check_steps.Goals as goal

pub returns-in_default : goal.returns-in_default
returns-in_default c = steps_stop _ c.loop-i.invariant.0 c.steps-i-end.ensures c.loop-i-test.true c.check_step-checked.ensures c.unwrap_err.ensures

pub loop-i-preserved : goal.loop-i-preserved
loop-i-preserved c = (search (steps_go_on, rules), search (result_written, rules))

pub returns : goal.returns
returns c = steps_end _ c.loop-i.invariant.0 c.steps-i-end.ensures c.loop-i-test.false c.loop-i.invariant.1
