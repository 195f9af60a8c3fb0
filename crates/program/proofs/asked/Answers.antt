-- `asked` meets its contract, a law for each return.
use Rattle.std.proofs.Common.{arith}
use Rattle.program.proofs.Theory.Check13.{long_program, odd_program, bad_steps, program_test}
use Rattle.program.proofs.asked.Goals.{then-n-gt128-via-then-n-gt128, then-n-gt128-via-else-n-gt128+then-program-from}
use Rattle.program.proofs.asked.Goals as goal

pub returns-then-n-gt128 : goal.returns-then-n-gt128
returns-then-n-gt128 c =
    elim c.then-n-gt128.branch [
      | then-n-gt128-via-then-n-gt128 w ↦ long_program _ _ c.byte-n.ensures w.if-n-gt128.true
      | then-n-gt128-via-else-n-gt128+then-program-from w ↦ odd_program _ _ c.byte-n.ensures (omega arith)
    ]

pub returns-then-has_bad_instruction : goal.returns-then-has_bad_instruction
returns-then-has_bad_instruction c =
    bad_steps _ _ c.byte-n.ensures c.if-n-gt128.false (omega arith) c.entries-known.ensures c.has_bad_instruction.ensures c.if-has_bad_instruction.true

pub returns : goal.returns
returns c =
    program_test _ _ c.byte-n.ensures c.if-n-gt128.false (omega arith) c.entries-known.ensures c.has_bad_instruction.ensures c.if-has_bad_instruction.false c.from-2.ensures c.from-3.ensures c.test_at.ensures c.asked_by.ensures
