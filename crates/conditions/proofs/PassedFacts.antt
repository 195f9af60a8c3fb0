-- What holds of a submission that passed checks 1 to 7, of one that passed all checks before 11, and of its records as the code reads them.
use mathlib.Core.Path.{◌≡◌, subst}
use mathlib.Core.Bool.{Bool, true, ◌&&◌, not}
use mathlib.Core.List.{List}
use Prim.Native.Nat.{ℕ, ◌<◌}
use Rattle.submission.specs.declared.Claim.{Claim}
use Rattle.base.specs.Computed.{passes, fails_if, fails_at}
use Rattle.submission.specs.Code.{Limited, IsClaim}
use Rattle.submission.specs.Record.{terms, steps, verifying, way_at, second_for, second_at}
use Rattle.submission.specs.Check.{way_of, Target, Claims, verifier, derived, claims}
use Rattle.submission.specs.Computed.{checks1to5}
use Rattle.base.proofs.AnswerLaws.{if_passes, then_passes}
use Rattle.base.proofs.Says.{not_not_false}
use Rattle.submission.proofs.PassedChecks.{limited, body_passes, table_passed}
use Rattle.submission.proofs.Theory.ListedTerms.{Claimed, claimed, verifying_below}
use Rattle.derivation.specs.declared.Step.{Step}
use Rattle.derivation.specs.Step.{StepFits}
use Rattle.derivation.specs.Code.{IsStep}
use Rattle.derivation.proofs.Theory.StepMeaning.{second_listed, fits_iff, steps_pass}
use Rattle.deduction.specs.Computed.{entry_marks, is_deducible}
use Rattle.submission.specs.Code.{TableRead}
use Rattle.conditions.specs.Computed.{reachable, has_second_way, undone, is_given, check_met, checks_before_page}
use Rattle.derivation.specs.Computed.{check_steps}
use Rattle.conditions.specs.Code.{Founded, Acceptable}
use Rattle.base.specs.Words.{first}

-- the second premise of step i, read off its record
pub second_is : {s : List ℕ} {i r : ℕ} {a : Step} → IsStep s i a → r ≡ second_for a.rule a.p a.q → r ≡ second_at s i
second_is h e = cc (e, h.rule, h.first, h.second)

-- ---- checks 1 to 7
module _ {s : List ℕ} (h : Founded s) where
  pub founded_claimed : Claimed s
  founded_claimed = claimed s h.bytes h.read

  pub founded_read : TableRead s
  founded_read = table_passed s h.bytes h.read

  pub founded_limited : Limited s
  founded_limited = limited s (body_passes s h.read)

  -- the premises of the verifying step
  module _ {c : Claim} {a : Step} (v : claims s ≡ verifier) (k : IsClaim s c) (x : IsStep s c.step a) where
    verifying_sound : StepFits s c.step
    verifying_sound =
        let l : c.step < steps s = rw k.step (verifying_below founded_claimed v) in
        (fits_iff founded_claimed.read c.step).0 ((steps_pass s).0 h.founded c.step l).0

    pub first_below : a.p < terms s
    first_below = rw x.first verifying_sound.p_below

    pub second_below : {u : ℕ} → u ≡ second_for a.rule a.p a.q → u < terms s
    second_below e = rw (second_is x e) (second_listed verifying_sound)

-- ---- check 8
pub reachable_is : {s : List ℕ} {c : Claim} {a : Step} {u : ℕ} {r : Bool} → IsClaim s c → IsStep s c.step a → u ≡ second_for a.rule a.p a.q →
    r ≡ (is_deducible s (entry_marks s) a.p && is_deducible s (entry_marks s) u) → r ≡ reachable s
unfolding reachable
reachable_is k x e f = rw (← k.step, ← (second_is x e), ← x.first) f

pub ruleset founded = (founded_read, founded_limited, first_below, second_below, reachable_is)

-- ---- the checks before 11
module _ {s : List ℕ} (h : Acceptable s) where
  pub acceptable_founded : Founded s
  unfolding checks_before_page
  acceptable_founded =
      let (r, t) = (then_passes (checks1to5 s) _).0 h.passed in
      record { bytes = h.bytes; read = r; founded = ((then_passes (check_steps s) _).0 t).0 }

  pub acceptable_limited : Limited s
  acceptable_limited = founded_limited acceptable_founded

  claim_passes : (k : Claims) → claims s ≡ k → check_met s k ≡ passes
  unfolding checks_before_page
  claim_passes k e =
      let (r, t) = (then_passes (checks1to5 s) _).0 h.passed in
      subst (λ k. check_met s k ≡ passes) e ((then_passes (check_steps s) _).0 t).1

  pub second_way_lem : claims s ≡ verifier → has_second_way s (way_of (way_at s)) ≡ true
  second_way_lem v =
      let (r, t) = (then_passes (fails_if (reachable s) 8 (verifying s)) _).0 (claim_passes verifier v) in
      let (r, t) = (then_passes (fails_if (not (has_second_way s (way_of (way_at s)))) 9 (verifying s)) (fails_at 10 (first (undone s) (steps s)))).0 t in
      (not_not_false _).0 ((if_passes _ 9 (verifying s)).0 r)

  pub target_given : (t : Target) → claims s ≡ derived t → is_given s t ≡ true
  target_given t v = (not_not_false _).0 ((if_passes _ 16 0).0 (claim_passes (derived t) v))
