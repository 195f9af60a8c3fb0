-- The answer of reading back, computed; that it is as the rows say is proved: `read_back_exact`.
use Rattle.std.specs.Prelude.{◌&&◌, ◌||◌}
use Rattle.base.specs.{Words.Bool, Words.List, Words.ℕ, Words.eqb, Words.ltb, Words.first, Words.byte, Answer.Answer, Answer.done, Computed.Check, Computed.fails_at, Computed.fails_if, Computed.check_room, Computed.and_then, Computed.answered}
use Rattle.submission.specs.{Record.entries, Record.is_unlisted, Computed.checks1to5}
use Rattle.derivation.specs.Step.{written}
use Rattle.program.specs.{Program.Instruction, Program.test_at, Computed.bad_program}
use Rattle.machine.specs.Run.{held}
use Rattle.readback.specs.ReadBack.{bodies_length}

-- the term of register r isn't listed
unfoldable pub off_table : List ℕ → List ℕ → ℕ → Bool
off_table s P r = is_unlisted s (held s P r)

-- the test's first register is a knowledge register, or both are the guess's
abbrev pub no_claim : List ℕ → Instruction → Bool
no_claim s t = ltb t.left (entries s) || (eqb t.left (entries s) && eqb t.right (entries s))

-- 17, then 18, then 11, with a page of this length
abbrev pub checks_after13 : List ℕ → List ℕ → ℕ → Check
checks_after13 s P room =
    and_then (fails_at 17 (first (off_table s P) (written s (byte P 0))))
    (and_then (fails_if (no_claim s (test_at P)) 18 0) (check_room (bodies_length (byte P 0)) room))

-- "a submission that passes checks 1 to 5"; "both come after 13, and 11 comes last"
unfoldable pub read_back_answer : List ℕ → List ℕ → ℕ → Answer
read_back_answer s P room =
    answered (and_then (and_then (checks1to5 s) (fails_if (bad_program s P) 13 0)) (checks_after13 s P room)) (done (bodies_length (byte P 0)))
