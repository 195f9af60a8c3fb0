-- `Derivation::registers` writes the knowledge's registers in order. The loop's invariant: the first i registers are written.
use Rattle.derivation.specs.Code.{Registered}
use Rattle.derivation.proofs.steps.Derivation.registers.Given as goal

abbrev pub invariant-loop-i : goal.invariant-loop-i
invariant-loop-i l = Registered l.self.bytes.now l.i l.registers
