-- Of the second's entries before r those that are new are put, and the pool has room for them.
use Rattle.std.proofs.Common.{◌≤◌}
use Rattle.base.specs.Code.{Wrote}
use Rattle.pool.specs.Pool.{new_entries}
use Rattle.pool.specs.Code.{entries_to}
use Rattle.pool.proofs.put_new_entries.Given as goal

abbrev pub invariant-loop-r : goal.invariant-loop-r
invariant-loop-r l =
    (entries_to l.first.bytes.now l.second.bytes.now l.r ≤ 64)
    × Wrote l.initial.page (new_entries l.first.bytes.now l.second.bytes.now l.r) l.page
