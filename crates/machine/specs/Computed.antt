-- What run answers, computed: that it answers as the rows and the signal say is proved, `run_exact`.
use Rattle.std.specs.Prelude.{◌&&◌}
use Rattle.base.specs.{Words.Bool, Words.not, Words.List, Words.ℕ, Words.eqb, Answer.Answer, Answer.done, Computed.fails_if, Computed.and_then, Computed.answered}
use Rattle.submission.specs.{Record.guess, Record.name_at, Record.guessed, Computed.is_stale, Computed.checks1to5}
use Rattle.program.specs.Computed.{bad_program}
use Rattle.machine.specs.Run.{signal}

-- 15 stale, of a name (`says_stale_name`)
unfoldable pub is_stale_name : List ℕ → ℕ → Bool
is_stale_name s name = not (eqb name (name_at s (guess s))) && is_stale s (guessed s name)

-- "run makes 1 to 5, then 13"; A3: 15 "tried last"
unfoldable pub run_answer : List ℕ → ℕ → List ℕ → Answer
run_answer s name P =
    answered (and_then (and_then (checks1to5 s) (fails_if (bad_program s P) 13 0)) (fails_if (is_stale_name s name) 15 0)) (done (signal s name P))
