-- Each check of the crate, over term numbers, says what its condition says of terms. The numbers of a submission that was read
-- stand for its terms, one for one.
use mathlib.Core.Path.{◌≡◌, refl, sym, ap, subst}
use mathlib.Core.Logic.Iff
use mathlib.Core.Logic.{◌↔◌, ◌⊎◌, inl, inr, ⊎_elim, ite}
use mathlib.Core.Bool.{Bool, true, false, ◌&&◌, ◌||◌, not, cond, false≢true}
use mathlib.Core.List.{List}
use mathlib.Core.Option.{some}
use Prim.Native.Nat.{ℕ, ◌<◌, ◌≤◌}
use native.Mathlib.Omega.{arith}
use lib.Dec.{eqb}
use borrow.Author.Tests.{eqb-true, eqb-false}
use Rattle.base.specs.{Words.first, Computed.any, Code.is_some}
use Rattle.base.proofs.First.{first_equal}
use Rattle.term.specs.Computed.{term?}
use Rattle.term.proofs.Reduce.{says_test}
use Rattle.base.proofs.Says.{Says, same_test, says_eqb, says_and, says_or, says_any, says_not, denies, and-false}
use Rattle.term.specs.Term.{Term, is_key}
use Rattle.term.specs.Number.{head_of}
use Rattle.term.specs.Step.{Deducible, Undoes}
use Rattle.term.proofs.Rule.{head_inj, says_takes_apart}
use Rattle.submission.specs.Record.{terms, entries, steps, entry_at, rule_at, p_at, conclusion_at, guess, verifying, way_at, companion, term, InKnowledge, second_at}
use Rattle.submission.specs.Check.{Way, another_step, at_start, inverse_key, guess_derived, inverse_derived, way_of, Target, the_guess, its_inverse, verifier, derived, claims, knowledge_step, row, InRange, GuessFits}
use Rattle.submission.proofs.Theory.ListedTerms.{Claimed, verifying_below, given_range, claimed_fits, guess_key}
use Rattle.derivation.specs.Computed.{is_known, unfounded}
use Rattle.derivation.proofs.Theory.StepMeaning.{second_listed, says_known_term, founded_terms}
use Rattle.deduction.specs.Computed.{entry_marks, is_deducible}
use Rattle.deduction.proofs.Theory.Exactness.{deducible_iff}
use Rattle.conditions.specs.Computed.{reachable, is_premise, same_premises, has_second_way, undoes_step, companion_undoes, undone, is_target, entry_found, is_given}
use Rattle.derivation.specs.Step.{rule, first_premise, second_premise, concluded, guess_counts, Known, StepFits, Premise}
use Rattle.conditions.specs.Condition.{Given, target, SecondWay, Undone}
use Rattle.conditions.specs.Code.{Differs}

-- before step 0 the knowledge and the guess are known, where a verifier is claimed
known_at_start : (s : List ℕ) → claims s ≡ verifier → (t : Term) → Known s 0 t ↔ (InKnowledge s t ⊎ (t ≡ term s (guess s)))
known_at_start s v t = (up, ⊎_elim (λ k. inl k) (λ e. inr (inl (ap guess_counts v, e))))
  where
    up : Known s 0 t → InKnowledge s t ⊎ (t ≡ term s (guess s))
    up (inl k) = inl k
    up (inr (inl (c, e))) = inr e
    up (inr (inr (j, l, e))) = absurd (omega arith)

module _ {s : List ℕ} (c : Claimed s) (sound : (i : ℕ) → i < steps s → StepFits s i) where
  open c use {read}

  -- numbers and terms
  same_iff : (m n : ℕ) → m < terms s → n < terms s → (m ≡ n) ↔ (term s m ≡ term s n)
  same_iff m n a b = (ap (term s), read.same_number m n a b)

  says_same : (m n : ℕ) → m < terms s → n < terms s → Says (eqb m n) (term s m ≡ term s n)
  says_same m n a b = Iff.trans (says_eqb m n) (same_iff m n a b)

  -- ---- condition 1
  known_term : (i n : ℕ) → i ≤ steps s → n < terms s → Says (is_known s i n) (Known s i (term s n))
  known_term i n l b = says_known_term c i (λ j k. sound j (omega arith)) n b

  pub founded_at : (i : ℕ) → i < steps s → (unfounded s i ≡ false) ↔ (Known s i (first_premise s i) × Known s i (second_premise s i))
  founded_at i l = founded_terms c i (λ j k. sound j (omega arith)) (sound i l)

  -- ---- the term claimed
  pub says_target : (t : Target) → GuessFits s (derived t) → (n : ℕ) → n < terms s → Says (is_target s t n) (target s t ≡ term s n)
  says_target the_guess g n l = Iff.trans (says_same n (guess s) l c.guess_below) (sym, sym)
  says_target its_inverse g n l =
      let k : is_key (term s (guess s)) = guess_key c g in
      Iff.trans (read.inverse_iff (guess s) n c.guess_below l) (λ (_, e). sym e, λ e. (k, sym e))

  -- the entry that is it, by numbers and by terms
  pub same_entry : (t : Target) → claims s ≡ derived t → entry_found s t ≡ first (λ r. ite (term? (target s t) (term s (entry_at s r))) true false) (entries s)
  unfolding entry_found
  same_entry t k =
      first_equal _ _ (entries s) (λ r l. same_test _ _ (says_target t (claimed_fits c (derived t) k) (entry_at s r) (read.entry_below r l)) (says_test (term? (target s t) (term s (entry_at s r)))))

  -- the named step or an entry gives it: row 16 says that it doesn't
  pub says_given : (t : Target) → claims s ≡ derived t → Says (is_given s t) (Given s (target s t))
  unfolding is_given entry_found any
  says_given t k = go (eqb (verifying s) knowledge_step) refl
    where
      fits : GuessFits s (derived t)
      fits = claimed_fits c (derived t) k

      no_step : verifying s < steps s → verifying s ≡ knowledge_step → ⊥
      no_step l e = omega (arith, read.steps_most)

      go : (b : Bool) → eqb (verifying s) knowledge_step ≡ b →
          Says (cond b (is_some (entry_found s t)) (is_target s t (conclusion_at s (verifying s)))) (Given s (target s t))
      go true e =
          let x : verifying s ≡ knowledge_step = eqb-true _ _ e in
          Iff.trans (says_any {P = λ r. target s t ≡ term s (entry_at s r)} (λ r. is_target s t (entry_at s r)) (entries s) (λ r l. says_target t fits (entry_at s r) (read.entry_below r l)))
          (λ k. inr (x, k), ⊎_elim (λ (l, _). absurd (no_step l x)) (λ (_, k). k))
      go false e =
          let x : verifying s ≡ knowledge_step → ⊥ = eqb-false _ _ e in
          let l : verifying s < steps s = ⊎_elim (λ l. l) (λ q. absurd (x q)) (given_range c t k) in
          Iff.trans (says_target t fits (conclusion_at s (verifying s)) (sound _ l).conclusion_below)
          (λ e. inl (l, e), ⊎_elim (λ (_, e). e) (λ (q, _). absurd (x q)))

  -- ---- condition 3
  hidden_iff : (n : ℕ) → n < terms s → (is_deducible s (entry_marks s) n ≡ false) ↔ (Deducible (InKnowledge s) (term s n) → ⊥)
  hidden_iff n b = denies _ (deducible_iff read n b)

  pub reachable_iff : claims s ≡ verifier → (reachable s ≡ false) ↔ ((x : Term) × Premise s (verifying s) x × (Deducible (InKnowledge s) x → ⊥))
  unfolding reachable
  reachable_iff v =
      let v = sound (verifying s) (verifying_below c v) in
      let p = hidden_iff (p_at s (verifying s)) v.p_below in
      let q = hidden_iff (second_at s (verifying s)) (second_listed v) in
      Iff.trans (and-false _ _) (
        ⊎_elim (λ e. (first_premise s (verifying s), inl refl, p.0 e)) (λ e. (second_premise s (verifying s), inr refl, q.0 e)),
        λ (x, m, f). ⊎_elim (λ e. inl (p.1 (λ d. f (rw e d)))) (λ e. inr (q.1 (λ d. f (rw e d)))) m,
      )

  -- row 8
  pub says_reachable : claims s ≡ verifier → Says (reachable s) ((x : Term) → Premise s (verifying s) x → Deducible (InKnowledge s) x)
  unfolding reachable
  says_reachable v =
      let v = sound (verifying s) (verifying_below c v) in
      Iff.trans (says_and _ _ (deducible_iff read (p_at s (verifying s)) v.p_below) (deducible_iff read (second_at s (verifying s)) (second_listed v))) (
        λ (p, q) x. ⊎_elim (λ e. rw e p) (λ e. rw e q),
        λ f. (f (first_premise s (verifying s)) (inl refl), f (second_premise s (verifying s)) (inr refl)),
      )

  -- ---- condition 4
  says_premise : (i n : ℕ) → i < steps s → n < terms s → Says (is_premise s i n) (Premise s i (term s n))
  says_premise i n l b = says_or _ _ (says_same n (p_at s i) b (sound i l).p_below) (says_same n (second_at s i) b (second_listed (sound i l)))

  -- each premise of step i is one of step j
  says_premises : (i j : ℕ) → i < steps s → j < steps s → Says (is_premise s j (p_at s i) && is_premise s j (second_at s i)) ((x : Term) → Premise s i x → Premise s j x)
  says_premises i j l m =
      let w = says_and _ _ (says_premise j (p_at s i) m (sound i l).p_below) (says_premise j (second_at s i) m (second_listed (sound i l))) in
      Iff.trans w (
        λ (p, q) x. ⊎_elim (λ e. subst (Premise s j) (sym e) p) (λ e. subst (Premise s j) (sym e) q),
        λ f. (f (first_premise s i) (inl refl), f (second_premise s i) (inr refl)),
      )

  says_same_premises : (i j : ℕ) → i < steps s → j < steps s → Says (same_premises s i j) ((x : Term) → Premise s i x ↔ Premise s j x)
  unfolding same_premises
  says_same_premises i j l m =
      Iff.trans (says_and _ _ (says_premises i j l m) (says_premises j i m l)) (λ (f, g) x. (f x, g x), λ h. (λ x. (h x).0, λ x. (h x).1))

  says_same_rule : (i j : ℕ) → i < steps s → j < steps s → Says (eqb (rule_at s i) (rule_at s j)) (rule s i ≡ rule s j)
  says_same_rule i j l m = Iff.trans (says_eqb _ _) (ap head_of, head_inj _ _ (sound i l).rule_below (sound j m).rule_below)

  says_differs : (i j : ℕ) → i < steps s → j < steps s → Says (not (eqb (rule_at s i) (rule_at s j)) || not (same_premises s i j)) (Differs s i j)
  says_differs i j l m = says_or _ _ (says_not _ (says_same_rule i j l m)) (says_not _ (says_same_premises i j l m))

  says_way : claims s ≡ verifier → (w : Way) → InRange s (row w).companion (companion s) → Says (has_second_way s (some w)) (SecondWay s (some w))
  says_way v another_step l =
      let b = verifying_below c v in
      let e = says_same (conclusion_at s (companion s)) (conclusion_at s (verifying s)) (sound _ l).conclusion_below (sound _ b).conclusion_below in
      Iff.trans (says_and _ _ e (says_differs (verifying s) (companion s) b l)) (λ (a, d). (l, a, d), λ (_, a, d). (a, d))
  says_way v at_start e =
      Iff.trans (known_term 0 (conclusion_at s (verifying s)) (omega arith) (sound _ (verifying_below c v)).conclusion_below)
      (Iff.trans (known_at_start s v _) (λ k. (e, k), λ (_, k). k))
  says_way v inverse_key l =
      let i = read.inverse_iff (conclusion_at s (verifying s)) (companion s) (sound _ (verifying_below c v)).conclusion_below l in
      Iff.trans (says_and _ _ i (known_term (steps s) (companion s) (omega arith) l))
      (λ ((f, e), k). (f, e, k), λ (f, e, k). ((f, e), k))
  says_way v guess_derived l = (λ e. false≢true e, λ z. absurd z)
  says_way v inverse_derived l = (λ e. false≢true e, λ z. absurd z)

  pub second_way_iff : claims s ≡ verifier → (has_second_way s (way_of (way_at s)) ≡ true) ↔ SecondWay s (way_of (way_at s))
  second_way_iff v = rw c.has_way (says_way v c.way c.in_range_lem)

  -- ---- condition 5
  says_undoes : (j i : ℕ) → j < steps s → i < steps s → Says (undoes_step s j i) (Undoes (rule s j) (first_premise s j) (concluded s j) (rule s i) (first_premise s i) (concluded s i))
  unfolding undoes_step
  says_undoes j i m l =
      let x = sound j m in
      let y = sound i l in
      says_or _ _
      (says_and _ _ (says_takes_apart _ _ x.rule_below y.rule_below) (says_same _ _ x.p_below y.conclusion_below))
      (says_and _ _ (says_takes_apart _ _ y.rule_below x.rule_below) (says_same _ _ y.p_below x.conclusion_below))

  -- the companion counts in way a only
  says_companion : (w : Way) → InRange s (row w).companion (companion s) → (i : ℕ) → i < steps s →
      Says (companion_undoes s (some w) i) ((some w ≡ some another_step) × Undoes (rule s (companion s)) (first_premise s (companion s)) (concluded s (companion s)) (rule s i) (first_premise s i) (concluded s i))
  says_companion another_step l i m = let u = says_undoes (companion s) i l m in (λ e. (refl, u.0 e), λ (_, x). u.1 x)
  says_companion at_start l i m = (λ e. absurd (false≢true e), λ (e, x). absurd (let z : ◌≡◌ {A = ℕ} 0 1 = cc in omega arith))
  says_companion inverse_key l i m = (λ e. absurd (false≢true e), λ (e, x). absurd (let z : ◌≡◌ {A = ℕ} 0 1 = cc in omega arith))
  says_companion guess_derived l i m = (λ e. absurd (false≢true e), λ (e, x). absurd (let z : ◌≡◌ {A = ℕ} 0 1 = cc in omega arith))
  says_companion inverse_derived l i m = (λ e. absurd (false≢true e), λ (e, x). absurd (let z : ◌≡◌ {A = ℕ} 0 1 = cc in omega arith))

  -- row 10
  pub says_undone : claims s ≡ verifier → (i : ℕ) → i < steps s → Says (undone s i) (Undone s i)
  unfolding undone
  says_undone v i l =
      let w : Says (companion_undoes s (way_of (way_at s)) i) ((way_of (way_at s) ≡ some another_step) × Undoes (rule s (companion s)) (first_premise s (companion s)) (concluded s (companion s)) (rule s i) (first_premise s i) (concluded s i)) =
      rw c.has_way (says_companion c.way c.in_range_lem i l) in
      Iff.trans (says_or _ _ (says_undoes (verifying s) i (verifying_below c v) l) w) (
        ⊎_elim (λ u. (verifying s, inl refl, u)) (λ (e, u). (companion s, inr (e, refl), u)),
        λ (j, b, u). ⊎_elim (λ e. inl (rw (← e) u)) (λ (f, e). inr (f, rw (← e) u)) b,
      )
