-- What is left of the order is not treated yet.
use Rattle.witness.proofs.ChoiceLaws.{Leaving}
use Rattle.witness.proofs.marked.Marked.choose.Given as goal

abbrev pub invariant-loop-n : goal.invariant-loop-n
invariant-loop-n l = Leaving l.self.openings.now.table.bytes.now l.self.work.now.marks l.self.work.now.order l.self.work.now.end l.t l.choice l.n-iterator.iter.rest.now
