-- The inverses computed, and the call's answer; what they say is proved: `inverses_promise`, `inverses_exact`.
use Rattle.base.specs.{Words.List, Words.ℕ, Words.first, Words.listed, Answer.Answer, Answer.done, Computed.or_none, Computed.check_room, Computed.and_then, Computed.answered}
use Rattle.submission.specs.{Record.terms, Computed.are_inverse, Computed.checks1to4}

-- "the number of its inverse, or 255 where none is listed"
abbrev pub inverse_of : List ℕ → ℕ → ℕ
inverse_of s n = or_none (first (are_inverse s n) (terms s))

-- "one byte for each term"
unfoldable pub inverses_of : List ℕ → List ℕ
inverses_of s = listed (inverse_of s) (terms s)

-- "The call makes checks 1 to 4, then 11, place T", with a page of this length
unfoldable pub inverses_answer : List ℕ → ℕ → Answer
inverses_answer s room = answered (and_then (checks1to4 s) (check_room (terms s) room)) (done (terms s))
