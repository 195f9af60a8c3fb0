-- Check 13 as a test; what it says is proved: `program_iff`.
use Rattle.std.specs.Prelude.{◌&&◌, ◌||◌, ◌+◌}
use Rattle.base.specs.{Words.Bool, Words.true, Words.not, Words.cond, Words.List, Words.none, Words.some, Words.ℕ, Words.eqb, Words.ltb, Words.length, Words.byte, Computed.any}
use Rattle.term.specs.{Number.has_one, Computed.is_rule}
use Rattle.submission.specs.Record.{entries}
use Rattle.program.specs.Program.{row_of, relation_of, Instruction, program_length, instruction_at, test_at}

-- the registers named are among the n that are written, and an unused byte is 0
abbrev pub good_registers : ℕ → Bool → ℕ → ℕ → Bool
good_registers n one left right = ltb left n && cond one (eqb right 0) (ltb right n)

-- an instruction before which n registers are written: "rule; register not yet written; unused byte not 0"
unfoldable pub bad_instruction : ℕ → Instruction → Bool
bad_instruction n i = not (is_rule i.rule && good_registers n (has_one i.rule) i.left i.right)

-- a test over n registers: "register not yet written; unused byte not 0; test letter"
unfoldable pub bad_test : ℕ → Instruction → Bool
bad_test n t =
    elim (relation_of t.rule) [ none ↦ true | some r ↦ not (good_registers n (eqb (row_of r).registers 1) t.left t.right) ]

-- 13 program: "empty; length not 3n+4 or n over 128, n the first byte; rule; register not yet written; unused byte not 0; test letter"
unfoldable pub bad_program : List ℕ → List ℕ → Bool
bad_program s P =
    eqb (length P) 0
    || (ltb 128 (byte P 0)
    || (not (eqb (length P) (program_length (byte P 0)))
    || (any (λ i. bad_instruction (entries s + 1 + i) (instruction_at P i)) (byte P 0)
    || bad_test (entries s + 1 + byte P 0) (test_at P))))
