-- Checking accepts exactly the well-formed submissions that meet the five conditions and have page enough, and the acceptance carries N:
-- that no row of the table of verdicts holds is that.
use mathlib.Core.Path.{◌≡◌, refl}
use mathlib.Core.Logic.Iff
use mathlib.Core.Logic.{◌↔◌, inl, inr, ⊎_elim}
use mathlib.Core.List.{List, [], ◌∷◌, ◌++◌}
use Prim.Native.Nat.{ℕ, ◌≤◌, ◌<◌}
use native.Mathlib.Omega.{arith}
use Rattle.base.specs.{Words.Bytes, Answer.done, Answer.Clear, Answer.row11}
use Rattle.base.proofs.{Order.lt_or_ge, RefusalLaws.both_clear, RefusalLaws.clear_split, Says.says_not, Says.denies, Says.not_not_false}
use Rattle.submission.specs.{Record.steps, Record.verifying, Check.Claims, Check.verifier, Check.derived, Check.claims, Check.rows1to5}
use Rattle.submission.proofs.Theory.{ListedTerms.Claimed, ListedTerms.verifying_below, ReadingRows.claimed_clear}
use Rattle.derivation.specs.Step.{StepFits, rows6and7}
use Rattle.derivation.proofs.Theory.StepMeaning.{says_unfounded}
use Rattle.program.specs.Program.{program_length}
use Rattle.conditions.specs.{Condition.WellFormed, Condition.ClaimMet, Condition.EachFounded, Condition.FiveConditions, Condition.rows1to7, Condition.claim_rows, Condition.check_rows, Demand.Demand2}
use Rattle.conditions.proofs.Theory.ConditionsMeant.{founded_at, says_given, says_reachable, reachable_iff, second_way_iff}
use Rattle.conditions.proofs.Theory.Refusal.{all_fit, check_exact}

-- rows 1 to 7: a well-formed submission whose steps are founded
module _ (s : List ℕ) (b : Bytes s) where
  steps_clear : WellFormed s → EachFounded s → (m q : ℕ) → rows6and7 s m q → ⊥
  steps_clear w f m q (inl (e, (l, u))) = u (w.shaped q l)
  steps_clear w f m q (inr (e, (l, (x, p, u)))) = let (a, c) = f q l in ⊎_elim (λ h. u (rw h a)) (λ h. u (rw h c)) p

  pub begun_iff : Clear (rows1to7 s) ↔ (WellFormed s × EachFounded s)
  begun_iff = (up, λ (w, f). both_clear (rows1to5 s) (rows6and7 s ∷ []) w.read (steps_clear w f, tt))
    where
      up : Clear (rows1to7 s) → WellFormed s × EachFounded s
      up k =
          let (r, (x67, _)) = clear_split (rows1to5 s) (rows6and7 s ∷ []) k in
          let c = claimed_clear s b r in
          let sound = all_fit s c (x67, tt) in (
            record { read = r; shaped = sound },
            λ i l. (founded_at c sound i l).0 ((denies _ (says_unfounded c i (λ j k. sound j (omega arith)) (sound i l))).1 (λ u. x67 7 i (inr (refl, (l, u))))),
          )

module _ (s : List ℕ) (b : Bytes s) (room : ℕ) where
  -- what is claimed, by its rows
  claim_met : (c : Claimed s) → ((i : ℕ) → i < steps s → StepFits s i) → (k : Claims) → claims s ≡ k → Clear (claim_rows s k) → ClaimMet s k
  claim_met c sound verifier v (x8, (x9, (x10, _))) =
      record {
        present = verifying_below c v;
        hidden = (reachable_iff c sound v).0 ((denies _ (says_reachable c sound v)).1 (λ u. x8 8 (verifying s) (refl, (refl, u))));
        second_way = (second_way_iff c sound v).0 ((not_not_false _).0 ((denies _ (says_not _ (second_way_iff c sound v))).1 (λ u. x9 9 (verifying s) (refl, (refl, u)))));
        kept = λ i l u. x10 10 i (refl, (l, u));
      }
  claim_met c sound (derived t) v (x16, _) =
      (says_given c sound t v).0 ((not_not_false _).0 ((denies _ (says_not _ (says_given c sound t v))).1 (λ u. x16 16 0 (refl, (refl, u)))))

  met : Clear (check_rows s room) → WellFormed s × FiveConditions s × (program_length (steps s) ≤ room)
  met k =
      let (begun, later) = clear_split (rows1to7 s) (claim_rows s (claims s) ++ row11 (program_length (steps s)) room ∷ []) k in
      let (w, f) = (begun_iff s b).0 begun in
      let (y, (x11, _)) = clear_split (claim_rows s (claims s)) (row11 (program_length (steps s)) room ∷ []) later in (
        w,
        record { founded = f; met = claim_met (claimed_clear s b w.read) w.shaped (claims s) refl y },
        ⊎_elim (λ l. absurd (x11 11 (program_length (steps s)) (refl, (refl, l)))) (λ l. l) (lt_or_ge room (program_length (steps s))),
      )

  -- rows 8 to 10, or 16
  claim_clear : (k : Claims) → ClaimMet s k → Clear (claim_rows s k)
  claim_clear verifier f =
      let (x, p, d) = f.hidden in
      (λ m q (_, (_, u)). d (u x p), (λ m q (_, (_, u)). u f.second_way, (λ m q (_, (k, u)). f.kept q k u, tt)))
  claim_clear (derived t) g = (λ m q (_, (_, u)). u g, tt)

  clear : WellFormed s × FiveConditions s × (program_length (steps s) ≤ room) → Clear (check_rows s room)
  clear (w, f, l) =
      let y = both_clear (claim_rows s (claims s)) (row11 (program_length (steps s)) room ∷ []) (claim_clear (claims s) f.met) (λ m q (_, (_, u)). omega arith, tt) in
      both_clear (rows1to7 s) (claim_rows s (claims s) ++ row11 (program_length (steps s)) room ∷ []) ((begun_iff s b).1 (w, f.founded)) y

-- ---- Demand 2, acceptance
-- "a submission is well formed when it passes checks 1 to 5 and every step passes check 6; it has page enough when row 11 doesn't
-- hold. An acceptance carries N": checking accepts with n exactly when n is the count of steps, the submission is well formed and
-- meets the five conditions, and the page has 3N+4 bytes.
pub accepted_iff : Demand2
accepted_iff s b room n =
    Iff.trans (check_exact s b room (done n))
    (λ (k, e). let (w, f, l) = met s b room k in (e, w, f, l), λ (e, w, f, l). (clear s b room (w, f, l), e))
