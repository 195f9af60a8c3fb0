-- The second's terms before j have their numbers, and those of them that are missing are put.
use Rattle.base.specs.Code.{Wrote}
use Rattle.pool.specs.Code.{missing_records, Noted}
use Rattle.pool.proofs.put_missing.Given as goal

abbrev pub invariant-loop-j : goal.invariant-loop-j
invariant-loop-j l =
    Noted l.first.table.bytes.now l.second.bytes.now l.j l.numbers
    × Wrote l.initial.page (missing_records l.first.table.bytes.now l.second.bytes.now l.j) l.page
