-- `after` meets its contract: the first i instructions are executed.
use Prim.Native.Nat.{◌-◌, ◌≤◌}
use Rattle.machine.specs.Code.{Ran}
use Rattle.machine.proofs.Machine.after.Given as goal

abbrev pub invariant-loop-i : goal.invariant-loop-i
invariant-loop-i l = (l.i ≤ l.n) × Ran l.fn.self l.program l.i l.self

abbrev pub decreases-loop-i : goal.decreases-loop-i
decreases-loop-i l = l.n - l.i
