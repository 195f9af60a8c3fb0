-- `Acceptable::write_program`: the array holds the first i instructions.
use Rattle.program.proofs.Theory.Value.{Holds}
use Rattle.conditions.specs.Calls.{instruction}
use Rattle.conditions.proofs.page.Acceptable.write_program.Given as goal

abbrev pub invariant-loop-i : goal.invariant-loop-i
invariant-loop-i l = Holds (instruction l.self.founded.derivation.bytes.now) l.i l.instructions
