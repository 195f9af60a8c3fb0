-- `knowledge_marks` meets its contract: the terms of the first i entries are marked.
use Prim.Native.Nat.{◌-◌, ◌≤◌}
use Rattle.base.specs.Code.{Flagged}
use Rattle.submission.specs.Record.{entries, entry_at}
use Rattle.deduction.proofs.knowledge_marks.Given as goal

abbrev pub invariant-loop-i : goal.invariant-loop-i
invariant-loop-i l = (l.i ≤ entries l.s) × Flagged (entry_at l.s) l.i l.marks

abbrev pub decreases-loop-i : goal.decreases-loop-i
decreases-loop-i l = l.n - l.i
