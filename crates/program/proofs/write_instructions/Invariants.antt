-- `write_instructions` meets its contract: the bytes of the instructions before this one are written.
use Rattle.base.specs.Code.{Wrote}
use Rattle.program.proofs.Theory.Writing.{code}
use Rattle.program.proofs.write_instructions.Given as goal

abbrev pub invariant-loop-x : goal.invariant-loop-x
invariant-loop-x l = Wrote l.initial.writer (code l.instructions l.x-index) l.writer
