-- What holds of every deduction: it reaches its term, it has no more steps than listed terms, and none for a term in the knowledge.
use mathlib.Core.Path.{◌≡◌, refl, sym, ap, subst}
use mathlib.Core.Logic.{inl, inr, ⊎_elim}
use mathlib.Core.List.{List}
use Prim.Native.Nat.{ℕ, zero, suc, ◌<◌, ◌≤◌}
use native.Mathlib.Omega.{arith}
use Rattle.base.proofs.Pigeonhole.{pigeonhole}
use Rattle.term.specs.{Term.Term, Step.Deducible, Number.head_of}
use Rattle.term.proofs.Reach.{Reach, known, stepped, reach_iff}
use Rattle.submission.specs.Record.{terms, term, InKnowledge}
use Rattle.witness.specs.Deduction.{rule_in, conclusion_in, first_in, second_in, concluded_in, KnownBefore, Deduction}
use Rattle.witness.specs.Promise.{DeductionPromise}

module _ {s : List ℕ} {t n : ℕ} {l : List ℕ} (d : Deduction s t n l) where
  -- each conclusion is reached, those before it first
  known_reach : (i : ℕ) → ((j : ℕ) → j < i → Reach (InKnowledge s) (concluded_in s l j)) → (x : Term) → KnownBefore s l i x → Reach (InKnowledge s) x
  known_reach i before x k = ⊎_elim (λ w. known w) (λ (j, b, e). subst (Reach (InKnowledge s)) (sym e) (before j b)) k

  reached_below : (k i : ℕ) → i < k → i < n → Reach (InKnowledge s) (concluded_in s l i)
  reached_below zero i b m = absurd (omega arith)
  reached_below (suc k) i b m =
      let before : (j : ℕ) → j < i → Reach (InKnowledge s) (concluded_in s l j) = λ j c. reached_below k j (omega arith) (omega arith) in
      stepped (head_of (rule_in l i)) (first_in s l i) (second_in s l i) (d.fits i m).step
      (known_reach i before _ (d.founded i m _ (inl refl))) (known_reach i before _ (d.founded i m _ (inr refl)))

  pub each_reached : (i : ℕ) → i < n → Reach (InKnowledge s) (concluded_in s l i)
  each_reached i m = reached_below (suc i) i (omega arith) m

  -- the conclusions are different terms, and so different numbers
  pub conclusions_apart : (i j : ℕ) → i < j → j < n → conclusion_in l i ≡ conclusion_in l j → ⊥
  conclusions_apart i j b m e = d.new j m (inr (i, b, ap (term s) (sym e)))

  pub few_steps : n ≤ terms s
  few_steps = pigeonhole n (terms s) (conclusion_in l) (λ i m. (d.fits i m).conclusion_below) conclusions_apart

  reached : (k : ℕ) → n ≡ k → Reach (InKnowledge s) (term s t)
  reached zero e = known (d.none e)
  reached (suc i) e = subst (λ c. Reach (InKnowledge s) (term s c)) (d.last i e) (each_reached i (omega arith))

  pub shows_deducible : Deducible (InKnowledge s) (term s t)
  shows_deducible = (reach_iff (InKnowledge s) (term s t)).0 (reached n refl)

  no_steps : (k : ℕ) → n ≡ k → InKnowledge s (term s t) → n ≡ 0
  no_steps zero e w = e
  no_steps (suc i) e w = absurd (d.new i (omega arith) (inl (subst (λ c. InKnowledge s (term s c)) (sym (d.last i e)) w)))

  pub known_no_steps : InKnowledge s (term s t) → n ≡ 0
  known_no_steps = no_steps n refl

pub deduction_promise : DeductionPromise
deduction_promise = record {
  deducible = λ s t n l d. shows_deducible d;
  few = λ s t n l d. few_steps d;
  steps_none = λ s t n l d. known_no_steps d;
}
