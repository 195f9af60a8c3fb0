-- The answer of the call, computed; that it is as the rows say is proved: `deduction_exact`.
use Rattle.base.specs.{Words.not, Words.cond, Words.List, Words.ℕ, Words.suc, Words.ltb, Answer.Answer, Answer.done, Computed.fails_if, Computed.and_then, Computed.answered}
use Rattle.submission.specs.{Record.terms, Computed.checks1to4}
use Rattle.deduction.specs.Computed.{entry_marks, is_deducible}

-- the answer where a deduction of n steps is shown, with a page of room bytes
unfoldable pub deduction_answer : List ℕ → ℕ → ℕ → ℕ → Answer
deduction_answer s t room n =
    answered (and_then (and_then (checks1to4 s) (fails_if (not (ltb t (terms s))) 12 0)) (fails_if (ltb room 1000) 19 1000))
    (done (cond (is_deducible s (entry_marks s) t) (suc n) 0))
