-- The answer of joining, computed; that it is as the rows say is proved: `join_exact`.
use Rattle.std.specs.Prelude.{◌||◌}
use Rattle.base.specs.{Words.Bool, Words.List, Words.ℕ, Words.ltb, Words.length, Answer.Answer, Answer.done, Computed.Check, Computed.fails_if, Computed.check_room, Computed.and_then, Computed.answered}
use Rattle.submission.specs.{Record.most, Body.records, Computed.checks1to5}
use Rattle.pool.specs.Pool.{pool, joined}

-- "a pool above the limits for T or K"
abbrev pub overfull : List ℕ → List ℕ → Bool
overfull a b = ltb (most 0) (records (pool a b) 0) || ltb (most 1) (records (pool a b) 1)

-- "Each input passes checks 1 to 5, the first one first", then 20, then 11, with a page of this length
abbrev pub checks_of_pool : List ℕ → List ℕ → ℕ → Check
checks_of_pool a b room = and_then (fails_if (overfull a b) 20 0) (check_room (length (joined a b)) room)

unfoldable pub join_answer : List ℕ → List ℕ → ℕ → Answer
join_answer a b room =
    answered (and_then (checks1to5 a) (and_then (checks1to5 b) (checks_of_pool a b room))) (done (length (joined a b)))
