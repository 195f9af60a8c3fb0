-- The records of the steps before this one are written.
use Rattle.witness.proofs.ShownSteps.{Putting}
use Rattle.witness.proofs.marked.Marked.put_steps.Given as goal

abbrev pub invariant-loop-n : goal.invariant-loop-n
invariant-loop-n l = Putting l.self.openings.now.table.bytes.now l.self.work.now.marks l.chosen l.initial.writer l.n-index l.writer
