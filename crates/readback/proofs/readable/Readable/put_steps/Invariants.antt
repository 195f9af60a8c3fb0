-- `put_steps` meets its contract: the records of the steps passed are written.
use Prim.Native.Nat.{◌-◌, ◌≤◌}
use Rattle.base.specs.{Words.fours, Code.Wrote}
use Rattle.readback.specs.ReadBack.{step_read}
use Rattle.readback.proofs.readable.Readable.put_steps.Given as goal

abbrev pub invariant-loop-i : goal.invariant-loop-i
invariant-loop-i l = (l.i ≤ l.n) × Wrote l.initial.page (fours (step_read l.self.checked.submission.bytes.now l.self.checked.program.now) l.i) l.page

abbrev pub decreases-loop-i : goal.decreases-loop-i
decreases-loop-i l = l.n - l.i
