-- The answer of writing; that it is as the rows say is proved: `write_exact`.
use Rattle.std.specs.Prelude.{◌%◌}
use Rattle.base.specs.{Words.Bool, Words.not, Words.ℕ, Words.eqb, Words.length, Answer.Answer, Answer.done, Computed.any, Computed.fails_if, Computed.check_room, Computed.and_then, Computed.answered}
use Rattle.submission.specs.{Record.width, Body.Bodies, Body.body, Body.records, Body.submission_of, Computed.check_limits}

-- 14 ragged: "a body that isn't whole records"
abbrev pub ragged : Bodies → ℕ → Bool
ragged b i = not (eqb (length (body b i) % width i) 0)

-- the answer of writing to a page of this length: "tried first, then with 2 and 11"
unfoldable pub write_answer : Bodies → ℕ → Answer
write_answer b room =
    answered
    (and_then (fails_if (any (ragged b) 4) 14 0)
    (and_then (check_limits (records b)) (check_room (length (submission_of b)) room)))
    (done (length (submission_of b)))
