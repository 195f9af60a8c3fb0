-- `known_parts` meets its contract: the terms from i on are treated.
use Prim.Native.Nat.{◌≤◌}
use Rattle.submission.specs.Record.{terms}
use Rattle.machine.proofs.Theory.MarkedParts.{PartsFrom}
use Rattle.machine.proofs.stale.ListedTerms.known_parts.Given as goal

abbrev pub invariant-loop-i : goal.invariant-loop-i
invariant-loop-i l = (l.i ≤ terms l.self.submission.bytes.now) × PartsFrom l.self.submission.bytes.now l.i l.marks

abbrev pub decreases-loop-i : goal.decreases-loop-i
decreases-loop-i l = l.i
