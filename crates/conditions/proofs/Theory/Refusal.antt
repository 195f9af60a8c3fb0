-- Checking answers as the rows of the table of verdicts and their order say.
use mathlib.Core.Path.{◌≡◌, refl, sym}
use mathlib.Core.Logic.{◌↔◌}
use mathlib.Core.Bool.{not}
use mathlib.Core.List.{List, [], ◌∷◌}
use Prim.Native.Nat.{ℕ, ◌<◌}
use Rattle.base.specs.Words.{Bytes, first}
use Rattle.base.specs.Answer.{Answer, Clear, Answers}
use Rattle.base.specs.Computed.{fails_if, fails_at, check_room, and_then}
use Rattle.base.proofs.Says.{says_not}
use Rattle.base.proofs.RefusalLaws.{Tells, passes_iff, tells_if, tells_at, tells_room, tells_then, answers_iff}
use Rattle.submission.specs.{Record.steps, Record.verifying, Record.way_at, Check.way_of, Check.Claims, Check.verifier, Check.derived, Check.claims, Computed.checks1to5}
use Rattle.submission.proofs.Theory.{ListedTerms.Claimed, ReadingRows.tells_1_to_5, ReadingRows.claimed_clear}
use Rattle.derivation.specs.{Computed.check_steps, Step.StepFits, Step.rows6and7}
use Rattle.derivation.proofs.Theory.StepMeaning.{fits_iff, steps_pass, tells_6_and_7}
use Rattle.program.specs.Program.{program_length}
use Rattle.conditions.specs.Computed.{reachable, has_second_way, undone, is_given, check_met, checks_before_page, check_answer}
use Rattle.conditions.specs.{Condition.claim_rows, Condition.check_rows}
use Rattle.conditions.proofs.Theory.ConditionsMeant.{says_given, says_reachable, second_way_iff, says_undone}

-- where neither row 6 nor row 7 holds, every step is right
pub all_fit : (s : List ℕ) (c : Claimed s) → Clear (rows6and7 s ∷ []) → (i : ℕ) → i < steps s → StepFits s i
all_fit s c k i l = (fits_iff c.read i).0 ((steps_pass s).0 ((passes_iff (tells_6_and_7 c)).1 k) i l).0

module _ (s : List ℕ) (b : Bytes s) where
  -- checks 8 to 10, or 16, of a claim and of steps that are right
  tells_claim : (c : Claimed s) → ((i : ℕ) → i < steps s → StepFits s i) → (k : Claims) → claims s ≡ k → Tells (check_met s k) (claim_rows s k)
  tells_claim c sound verifier v =
      tells_then (fails_if (reachable s) 8 (verifying s)) _ (tells_if (reachable s) 8 (verifying s) (says_reachable c sound v)) (λ _.
      tells_then (fails_if (not (has_second_way s (way_of (way_at s)))) 9 (verifying s)) (fails_at 10 (first (undone s) (steps s)))
      (tells_if (not (has_second_way s (way_of (way_at s)))) 9 (verifying s) (says_not _ (second_way_iff c sound v))) (λ _.
      tells_at 10 (undone s) (steps s) (says_undone c sound v)))
  tells_claim c sound (derived t) v = tells_if (not (is_given s t)) 16 0 (says_not _ (says_given c sound t v))

  tells_check : (room : ℕ) → Tells (and_then (checks_before_page s) (check_room (program_length (steps s)) room)) (check_rows s room)
  unfolding checks_before_page
  tells_check room =
      tells_then (checks_before_page s) (check_room (program_length (steps s)) room)
      (tells_then (checks1to5 s) (and_then (check_steps s) (check_met s (claims s))) (tells_1_to_5 s b) (λ k. let c = claimed_clear s b k in
      tells_then (check_steps s) (check_met s (claims s)) (tells_6_and_7 c) (λ m. tells_claim c (all_fit s c m) (claims s) refl)))
      (λ _. tells_room (program_length (steps s)) room)

-- Checking refuses with n at p exactly when row n holds at p and no row holds that the order puts before it; else it is done with N.
pub check_exact : (s : List ℕ) → Bytes s → (room : ℕ) (a : Answer) → (check_answer s room ≡ a) ↔ Answers (check_rows s room) (λ n. n ≡ steps s) a
unfolding check_answer
check_exact s b room = answers_iff (tells_check s b room) (steps s) (λ n. n ≡ steps s) (λ _ n. (sym, sym))
