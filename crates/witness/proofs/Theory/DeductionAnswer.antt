-- The call answers as its rows and their order say: a yes carries the count of steps, a no is 0.
use mathlib.Core.Path.{◌≡◌, refl}
use mathlib.Core.Logic.{◌↔◌, inl, inr, ⊎_elim}
use mathlib.Core.Bool.{not, cond}
use mathlib.Core.List.{List, [], ◌∷◌}
use Prim.Native.Nat.{ℕ, suc, ◌≤◌, ◌<◌}
use native.Mathlib.Omega.{arith}
use lib.Dec.{ltb}
use borrow.Author.Tests.{lt-ltb, le-ltb}
use Rattle.base.specs.{Words.Bytes, Answer.Answer, Answer.done, Answer.refused, Answer.numbered, Answer.Clear, Answer.Answers, Computed.passes, Computed.fails, Computed.fails_if, Computed.and_then}
use Rattle.base.proofs.{Says.says_ltb, RefusalLaws.answers_iff, RefusalLaws.tells_if, RefusalLaws.tells_then, RefusalLaws.clear_split}
use Rattle.term.specs.Step.{Deducible}
use Rattle.submission.specs.{Record.terms, Record.term, Record.InKnowledge, Computed.checks1to4}
use Rattle.deduction.specs.{Deduce.deducible_rows, Computed.entry_marks, Computed.is_deducible}
use Rattle.deduction.proofs.Theory.DeducibleAnswer.{says_value, tells_asked, says_deducible}
use Rattle.witness.specs.{Deduction.deduction_rows, Deduction.DeductionValue, Computed.deduction_answer}

-- The call refuses with n at p exactly when row n holds at p and no row holds that the order puts before it; else a yes carries the count of
-- steps, and a no is 0.
pub deduction_exact : (s : List ℕ) → Bytes s → (t room n : ℕ) (a : Answer) →
    (deduction_answer s t room n ≡ a) ↔ Answers (deduction_rows s t room) (DeductionValue s t n) a
unfolding deduction_answer
deduction_exact s b t room n =
    answers_iff
    (tells_then (and_then (checks1to4 s) (fails_if (not (ltb t (terms s))) 12 0)) (fails_if (ltb room 1000) 19 1000) (tells_asked s b t)
    (λ _. tells_if (ltb room 1000) 19 1000 (says_ltb room 1000)))
    (cond (is_deducible s (entry_marks s) t) (suc n) 0) (DeductionValue s t n)
    (λ c. says_value (suc n) _ (says_deducible s b t (clear_split (deducible_rows s t) (numbered 19 (λ p. (p ≡ 1000) × (room < 1000)) ∷ []) c).0))

-- ---- yes and no
module _ (s : List ℕ) (b : Bytes s) (t room n : ℕ) where
  -- a yes carries the count of steps and no other
  pub shown_yes : (m : ℕ) → deduction_answer s t room n ≡ done (suc m) →
      (m ≡ n) × Clear (deduction_rows s t room) × Deducible (InKnowledge s) (term s t)
  shown_yes m e =
      let (c, v) = (deduction_exact s b t room n (done (suc m))).0 e in
      ⊎_elim (λ (q, d). (omega (arith, q), c, d)) (λ (q, d). absurd (omega (arith, q))) v

  pub yes_exact : (deduction_answer s t room n ≡ done (suc n)) ↔ (Clear (deduction_rows s t room) × Deducible (InKnowledge s) (term s t))
  yes_exact = (λ e. let (_, c, d) = shown_yes n e in (c, d), λ (c, d). (deduction_exact s b t room n (done (suc n))).1 (c, inl (refl, d)))

  pub no_exact : (deduction_answer s t room n ≡ done 0) ↔ (Clear (deduction_rows s t room) × (Deducible (InKnowledge s) (term s t) → ⊥))
  no_exact =
      let (f, g) = deduction_exact s b t room n (done 0) in
      (λ e. let (c, v) = f e in (c, ⊎_elim (λ u. absurd (omega (arith, u.0))) (λ u. u.1) v), λ (c, d). g (c, inr (refl, d)))

-- ---- as the code goes on: each stage's refusal, whatever the count would be, and the value after the last
module _ (s : List ℕ) (t room n : ℕ) where
  pub refused_reading : (number place : ℕ) → checks1to4 s ≡ fails number place → deduction_answer s t room n ≡ refused number place
  unfolding deduction_answer
  refused_reading number place e = rw e

  module _ (e : checks1to4 s ≡ passes) where
    module _ (number place : ℕ) where
      pub refused_term : fails_if (not (ltb t (terms s))) 12 0 ≡ fails number place → deduction_answer s t room n ≡ refused number place
      unfolding deduction_answer
      refused_term f = rw (e, f)

      pub refused_sheet : fails_if (not (ltb t (terms s))) 12 0 ≡ passes → fails_if (ltb room 1000) 19 1000 ≡ fails number place → deduction_answer s t room n ≡ refused number place
      unfolding deduction_answer
      refused_sheet f g = rw (e, f, g)

    pub answered_value : t < terms s → 1000 ≤ room → deduction_answer s t room n ≡ done (cond (is_deducible s (entry_marks s) t) (suc n) 0)
    unfolding deduction_answer
    answered_value l m = rw (e, lt-ltb t (terms s) l, le-ltb room 1000 m)
