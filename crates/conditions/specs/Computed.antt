-- Conditions 3 to 5, and what takes their place, as tests of term numbers, and the answer of checking. What each test says of terms is a theorem
-- (`says_reachable`, `second_way_iff`, `says_undone`, `says_given`), and that the answer is as the rows say is another (`check_exact`).
use mathlib.Core.{Bool.Bool, Bool.false, Bool.◌&&◌, Bool.◌||◌, Bool.not, Bool.cond, List.List, Option.Option, Option.none, Option.some}
use Rattle.std.specs.Prelude.{ℕ, eqb}
use Rattle.term.specs.Computed.{rule_takes_apart}
use Rattle.submission.specs.{Record.entries, Record.steps, Record.entry_at, Record.rule_at, Record.p_at, Record.conclusion_at, Record.verifying, Record.way_at, Record.companion, Computed.are_inverse, Check.Way, Check.another_step, Check.at_start, Check.inverse_key, Check.guess_derived, Check.inverse_derived, Check.way_of, Check.Target, Check.the_guess, Check.its_inverse, Check.Claims, Check.verifier, Check.derived, Check.claims, Check.knowledge_step, Check.row, Record.second_at, Record.guess, Record.name_at, Record.guessed, Computed.checks1to5}
use Rattle.derivation.specs.Computed.{is_known, check_steps}
use Rattle.deduction.specs.Computed.{entry_marks, is_deducible}
use Rattle.program.specs.Program.{program_length}
use Rattle.submission.specs.Computed.{is_stale}
use Rattle.base.specs.{Words.first, Answer.Answer, Answer.done, Code.is_some, Computed.Check, Computed.fails_at, Computed.fails_if, Computed.check_room, Computed.and_then, Computed.answered}

-- condition 3 is broken: every premise of the verifying step is deducible from the knowledge, in which the guess does not count
unfoldable pub reachable : List ℕ → Bool
reachable s =
    is_deducible s (entry_marks s) (p_at s (verifying s)) && is_deducible s (entry_marks s) (second_at s (verifying s))

-- the premise sets of two steps are equal: each holds the other's members
abbrev pub is_premise : List ℕ → ℕ → ℕ → Bool
is_premise s i t = eqb t (p_at s i) || eqb t (second_at s i)

unfoldable pub same_premises : List ℕ → ℕ → ℕ → Bool
same_premises s i j =
    (is_premise s j (p_at s i) && is_premise s j (second_at s i)) && (is_premise s i (p_at s j) && is_premise s i (second_at s j))

-- condition 4 holds. Before step 0 the knowledge and the guess are known.
abbrev pub has_second_way : List ℕ → Option Way → Bool
has_second_way s none = false
has_second_way s (some another_step) =
    eqb (conclusion_at s (companion s)) (conclusion_at s (verifying s))
    && (not (eqb (rule_at s (verifying s)) (rule_at s (companion s))) || not (same_premises s (verifying s) (companion s)))
has_second_way s (some at_start) = is_known s 0 (conclusion_at s (verifying s))
has_second_way s (some inverse_key) = are_inverse s (conclusion_at s (verifying s)) (companion s) && is_known s (steps s) (companion s)
has_second_way s (some guess_derived) = false
has_second_way s (some inverse_derived) = false

-- a step of the rule r on the first premise p takes apart the very term t that a step of the rule b concludes
abbrev pub dismantles : ℕ → ℕ → ℕ → ℕ → Bool
dismantles r p b t = rule_takes_apart r b && eqb p t

-- step j undoes step i
unfoldable pub undoes_step : List ℕ → ℕ → ℕ → Bool
undoes_step s j i =
    dismantles (rule_at s j) (p_at s j) (rule_at s i) (conclusion_at s i) || dismantles (rule_at s i) (p_at s i) (rule_at s j) (conclusion_at s j)

-- in way a the companion must undo nothing either
abbrev pub companion_undoes : List ℕ → Option Way → ℕ → Bool
companion_undoes s none i = false
companion_undoes s (some w) i = (row w).companion_kept && undoes_step s (companion s) i

-- step i is undone: condition 5 is broken
unfoldable pub undone : List ℕ → ℕ → Bool
undone s i = undoes_step s (verifying s) i || companion_undoes s (way_of (way_at s)) i

-- 8 reachable: "condition 3 broken", place "verifying step"; 9 no second way: "condition 4 broken", place "verifying step";
-- 10 undone: "condition 5 broken", place "lowest undone step"
abbrev pub checks8to10 : List ℕ → Check
checks8to10 s =
    and_then (fails_if (reachable s) 8 (verifying s))
    (and_then (fails_if (not (has_second_way s (way_of (way_at s)))) 9 (verifying s)) (fails_at 10 (first (undone s) (steps s))))

-- A5: term n is the one claimed, "the guess, or the inverse"
abbrev pub is_target : List ℕ → Target → ℕ → Bool
is_target s the_guess n = eqb n (guess s)
is_target s its_inverse n = are_inverse s (guess s) n

-- the entry of the knowledge that is the term claimed
unfoldable pub entry_found : List ℕ → Target → Option ℕ
entry_found s t = first (λ r. is_target s t (entry_at s r)) (entries s)

-- the named step, or with 255 an entry of the knowledge, gives the term claimed
unfoldable pub is_given : List ℕ → Target → Bool
is_given s t = cond (eqb (verifying s) knowledge_step) (is_some (entry_found s t)) (is_target s t (conclusion_at s (verifying s)))

-- what is claimed: checks 8 to 10, or 16 not shown: "a step or a 255 that doesn't give the term claimed"
abbrev pub check_met : List ℕ → Claims → Check
check_met s verifier = checks8to10 s
check_met s (derived t) = fails_if (not (is_given s t)) 16 0

-- "Order: as numbered, but 6 and 7 are tried together"; 16 comes "after 7 and before 11"
unfoldable pub checks_before_page : List ℕ → Check
checks_before_page s = and_then (checks1to5 s) (and_then (check_steps s) (check_met s (claims s)))

-- the answer of checking a submission with a page of this length; 11 page: "page under 3N+4 bytes", place "length needed"
unfoldable pub check_answer : List ℕ → ℕ → Answer
check_answer s room =
    answered (and_then (checks_before_page s) (check_room (program_length (steps s)) room)) (done (steps s))

-- a wrong guess, as a test (`says_wrong`)
unfoldable pub is_wrong_guess : List ℕ → ℕ → Bool
is_wrong_guess s name = not (eqb name (name_at s (guess s))) && not (is_stale s (guessed s name))
