-- `chain_records` meets its contract: the records before i are linked.
use Prim.Native.Nat.{◌≤◌}
use Rattle.base.specs.Code.{Chaining}
use Rattle.submission.specs.Record.{terms}
use Rattle.deduction.specs.Code.{linked}
use Rattle.deduction.proofs.chains.chain_records.Given as goal

abbrev pub invariant-loop-i : goal.invariant-loop-i
invariant-loop-i l = (l.i ≤ terms l.openings.table.bytes.now) × Chaining (linked l.openings.table.bytes.now l.role) l.i l.chains.before l.chains.latest
