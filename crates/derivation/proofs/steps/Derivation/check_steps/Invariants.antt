-- `Derivation::check_steps` is checks 6 and 7. The loop's invariant: the steps before i pass, and their results are in the registers.
use Rattle.base.proofs.First.{Passed}
use Rattle.submission.specs.Record.{steps}
use Rattle.derivation.specs.Step.{written}
use Rattle.derivation.specs.Code.{Registered}
use Rattle.derivation.proofs.StepReturns.{faulty}
use Rattle.derivation.proofs.steps.Derivation.check_steps.Given as goal

abbrev pub invariant-loop-i : goal.invariant-loop-i
invariant-loop-i l = Passed (faulty l.self.bytes.now) (steps l.self.bytes.now) l.i × Registered l.self.bytes.now (written l.self.bytes.now l.i) l.registers
