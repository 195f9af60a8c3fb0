-- `put_knowledge` meets its contract: the first i entries are in the registers.
use Prim.Native.Nat.{◌-◌, ◌≤◌}
use Rattle.machine.proofs.Theory.StartState.{EntriesPut}
use Rattle.machine.specs.Code.{TermsPut}
use Rattle.machine.proofs.Machine.put_knowledge.Given as goal

abbrev pub invariant-loop-i : goal.invariant-loop-i
invariant-loop-i l = (l.i ≤ l.n) × EntriesPut l.submission.bytes.now l.self.registers l.i × TermsPut l.submission.bytes.now l.self

abbrev pub decreases-loop-i : goal.decreases-loop-i
decreases-loop-i l = l.n - l.i
