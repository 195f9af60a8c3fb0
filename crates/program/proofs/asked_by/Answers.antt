-- `asked_by` meets its contract, a law for each return.
use Rattle.std.proofs.Common.{rules}
use Rattle.program.proofs.Theory.Check13.{left_unwritten, right_unwritten, both_written}
use Rattle.program.proofs.asked_by.Goals.{then-not-is_written-via-then-not-is_written, then-not-is_written-via-else-not-is_written+then-not-is_written-2}
use Rattle.program.proofs.asked_by.Goals as goal

pub returns-then-not-is_written : goal.returns-then-not-is_written
returns-then-not-is_written c =
    elim c.then-not-is_written.branch [
      | then-not-is_written-via-then-not-is_written w ↦ search (left_unwritten, rules)
      | then-not-is_written-via-else-not-is_written+then-not-is_written-2 w ↦ search (right_unwritten, rules)
    ]

pub returns : goal.returns
returns c = search (both_written, rules)
