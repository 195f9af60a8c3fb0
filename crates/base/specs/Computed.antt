-- Checks and their order, computed: that a call's checks answer as the rows of the table of verdicts say is a theorem for each call
-- (`check_exact`, `deducible_exact`, `deduction_exact`, `run_exact`, `write_exact`, `join_exact`, `inverses_exact`, `read_back_exact`).
use Rattle.base.specs.{Words.Bool, Words.true, Words.false, Words.Option, Words.none, Words.some, Words.ℕ, Words.ltb, Words.first, Answer.Answer, Answer.refused}

-- whether p holds at some number below n
unfoldable pub any : (ℕ → Bool) → ℕ → Bool
any p n = elim (first p n) [ none ↦ false | some i ↦ true ]

-- a number that was found, or 255
abbrev pub or_none : Option ℕ → ℕ
or_none none = 255
or_none (some n) = n

-- what one check says: nothing, or the number and the place of a refusal
pub data Check : Type 0 where
  passes : Check
  fails : ℕ → ℕ → Check

-- the check of this number fails at the first place found
abbrev pub fails_at : ℕ → Option ℕ → Check
fails_at number none = passes
fails_at number (some place) = fails number place

abbrev pub fails_if : Bool → ℕ → ℕ → Check
fails_if true number place = fails number place
fails_if false number place = passes

-- 11 page, where needed bytes are written to a page of room bytes
abbrev pub check_room : ℕ → ℕ → Check
check_room needed room = fails_if (ltb room needed) 11 needed

-- the earlier check, and the later one where it passes
abbrev pub and_then : Check → Check → Check
and_then passes d = d
and_then (fails number place) d = fails number place

-- the refusal of the checks, or the answer where all pass
abbrev pub answered : Check → Answer → Answer
answered passes a = a
answered (fails number place) a = refused number place
