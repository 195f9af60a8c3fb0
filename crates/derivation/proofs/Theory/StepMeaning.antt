-- Checks 6 and 7: a step that passes check 6 is a Dolev-Yao step of terms, what passing both says of all steps, and that they answer as rows 6 and 7
-- say.
use mathlib.Core.Path.{◌≡◌, refl, sym, ap, ap₂, ◌∙◌, subst}
use mathlib.Core.Logic.Iff
use mathlib.Core.Logic.{◌↔◌, inl, inr, ⊎_elim}
use mathlib.Core.Bool.{Bool, true, false, ◌||◌, cond, false≢true}
use mathlib.Core.List.{List, [], ◌∷◌}
use mathlib.Core.Option.{Option, none, some}
use Prim.Native.Nat.{ℕ, ◌<◌, ◌≤◌}
use native.Mathlib.Omega.{arith}
use Rattle.base.specs.Words.{first}
use Rattle.base.specs.Answer.{First}
use Rattle.base.proofs.First.{first_none, first_some}
use Rattle.base.proofs.Says.{Says, says_true, says_eqb, says_ltb, says_and, says_not_both, refutes, denies, not_not_false, or-false, or_other, none_fails}
use Rattle.base.proofs.RefusalLaws.{Tells, first_of}
use Rattle.term.specs.Term.{Cipher, symmetric, asymmetric, Side, left, right, pair, encryption, unary, Head, make, part, decrypt, Term, node, single, Match, compound, second, Second, absent, anything, key_for, pick}
use Rattle.term.specs.Code.{Message}
use Rattle.term.specs.Computed.{kind_of}
use Rattle.term.specs.Step.{Step}
use Rattle.term.specs.Number.{rules, head_of, has_one}
use Rattle.base.specs.Computed.{passes}
use Rattle.submission.specs.Record.{terms, steps, kind_at, x_at, y_at, rule_at, p_at, q_at, conclusion_at, term, second_for, second_at, entry_at, guess}
use Rattle.base.proofs.AnswerLaws.{fails_not_passes}
use Rattle.submission.specs.Check.{HasSecond}
use Rattle.submission.proofs.Theory.{ListedTerms.Listed, ListedTerms.Claimed, ListedTerms.compound_term, ListedTerms.form_of}
use Rattle.derivation.specs.{Computed.part_at, Computed.opens_with, Computed.follows, Computed.bad_step, Computed.unfounded, Computed.is_known, Computed.step_fault, Computed.check_steps}
use Rattle.derivation.proofs.Theory.RegisterTerms.{KnownNumber, says_known}
use Rattle.derivation.specs.Step.{first_premise, second_premise, Premise, RecordFits, StepFits, Known, rows6and7}

-- ---- check 6
-- what the test of a step says, by its head
abbrev pub Followed : List ℕ → Head → ℕ → ℕ → ℕ → Type 0
Followed s (make f) p q c = (kind_at s c ≡ kind_of (compound f)) × ((x_at s c ≡ p) × (y_at s c ≡ q))
Followed s (part i) p q c = (kind_at s p ≡ kind_of (compound pair)) × ((part_at i s p ≡ c) × (q ≡ 0))
Followed s (decrypt k) p q c = (kind_at s p ≡ kind_of (compound (encryption k))) × ((x_at s p ≡ c) × (opens_with k s (y_at s p) q ≡ true))

pub says_follows : (s : List ℕ) (h : Head) (p q c : ℕ) → Says (follows s h p q c) (Followed s h p q c)
says_follows s (make f) p q c = says_and _ _ (says_eqb _ _) (says_and _ _ (says_eqb _ _) (says_eqb _ _))
says_follows s (part i) p q c = says_and _ _ (says_eqb _ _) (says_and _ _ (says_eqb (part_at i s p) c) (says_eqb _ _))
says_follows s (decrypt k) p q c = says_and _ _ (says_eqb _ _) (says_and _ _ (says_eqb _ _) (says_true (opens_with k s (y_at s p) q)))

module _ {s : List ℕ} (z : Listed s) where
  says_opens : (k : Cipher) (n q : ℕ) → n < terms s → q < terms s → Says (opens_with k s n q) (Match k (term s n) (term s q))
  says_opens symmetric n q l m = (λ e. ap (term s) (sym ((says_eqb n q).0 e)), λ e. (says_eqb n q).1 (z.same_number n q l m (sym e)))
  says_opens asymmetric n q l m = z.inverse_iff n q l m

  part_term : (i : Side) (n : ℕ) → term s (part_at i s n) ≡ pick i (term s (x_at s n)) (term s (y_at s n))
  part_term left n = refl
  part_term right n = refl

  followed_step : (h : Head) (p q c : ℕ) → p < terms s → q < terms s → c < terms s → Followed s h p q c →
      Step h (term s p) (term s (cond (single h) p q)) (term s c)
  followed_step (make f) p q c lp lq lc (k, (x, y)) =
      let w : term s c ≡ node (make f) (term s p) (term s (cond (unary (second f)) p q)) =
      (compound_term z c f lc k).2 ∙ ap₂ (λ a b. node (make f) (term s a) (term s (cond (unary (second f)) a b))) x y in
      ((subst Message w (z.messages c lc)).0, w)
  followed_step (part i) p q c lp lq lc (k, (x, y)) =
      ((term s (x_at s p), term s (y_at s p), (compound_term z p pair lp k).2, ap (term s) (sym x) ∙ part_term i p), refl)
  followed_step (decrypt d) p q c lp lq lc (k, (x, y)) =
      let w = compound_term z p (encryption d) lp k in
      (term s (y_at s p), w.2 ∙ ap (λ t. node (make (encryption d)) (term s t) (term s (y_at s p))) x, (says_opens d (y_at s p) q w.1 lq).0 y)

  -- and back: the numbers, from the terms
  picked_part : (i : Side) (n c : ℕ) → x_at s n < terms s → y_at s n < terms s → c < terms s →
      term s c ≡ pick i (term s (x_at s n)) (term s (y_at s n)) → part_at i s n ≡ c
  picked_part left n c lx ly lc e = z.same_number _ _ lx lc (sym e)
  picked_part right n c lx ly lc e = z.same_number _ _ ly lc (sym e)

  step_followed : (h : Head) (p q c : ℕ) → p < terms s → q < terms s → c < terms s → (single h ≡ true → q ≡ 0) →
      Step h (term s p) (term s (cond (single h) p q)) (term s c) → Followed s h p q c
  step_followed (make f) p q c lp lq lc u (o, e) =
      let (k, h) = form_of z c f _ _ lc e in
      let (lx, ly, w) = compound_term z c f lc k in
      let g = sym w ∙ e in
      let x : x_at s c ≡ p = z.same_number _ _ lx lp cc in
      (k, (x, second_is (second f) h u cc))
    where
      second_is : (o : Second) → HasSecond s c o → (unary o ≡ true → q ≡ 0) →
          term s (cond (unary o) (x_at s c) (y_at s c)) ≡ term s (cond (unary o) p q) → y_at s c ≡ q
      second_is absent h u e = h ∙ sym (u refl)
      second_is anything h u e = z.same_number _ _ (omega arith) lq e
      second_is (key_for d) h u e = z.same_number _ _ (let l = h.0 in omega arith) lq e
  step_followed (part i) p q c lp lq lc u ((x, y, e, f), g) =
      let k = (form_of z p pair x y lp e).0 in
      let (lx, ly, w) = compound_term z p pair lp k in
      let v = sym w ∙ e in
      let a : x ≡ term s (x_at s p) = cc in
      let b : y ≡ term s (y_at s p) = cc in
      (k, (picked_part i p c lx ly lc (f ∙ ap₂ (pick i) a b), u refl))
  step_followed (decrypt d) p q c lp lq lc u (k, e, m) =
      let n = (form_of z p (encryption d) _ k lp e).0 in
      let (lx, ly, w) = compound_term z p (encryption d) lp n in
      let v = sym w ∙ e in
      let x : x_at s p ≡ c = z.same_number _ _ lx lc cc in
      let y : k ≡ term s (y_at s p) = cc in
      (n, (x, (says_opens d (y_at s p) q ly lq).1 (subst (λ t. Match d t (term s q)) y m)))

  -- a rule with one premise has q = 0
  unused_zero : (h : Head) (p q c : ℕ) → c < terms s → Followed s h p q c → single h ≡ true → q ≡ 0
  unused_zero (make f) p q c lc (k, (x, y)) u = sym y ∙ zero_second (second f) (form_of z c f _ _ lc (compound_term z c f lc k).2).1 u
    where
      zero_second : (o : Second) → HasSecond s c o → unary o ≡ true → y_at s c ≡ 0
      zero_second absent h u = h
      zero_second anything h u = absurd (false≢true u)
      zero_second (key_for k) h u = absurd (false≢true u)
  unused_zero (part i) p q c lc (k, (x, y)) u = y
  unused_zero (decrypt k) p q c lc e u = absurd (false≢true u)

  -- of any step record: numbers in range that follow by the rule are right in shape
  pub record_fits : (r p q c : ℕ) → r < rules → p < terms s → q < terms s → c < terms s → Followed s (head_of r) p q c → RecordFits s r p q c
  unfolding second_for has_one
  record_fits r p q c lr lp lq lc f = record {
    rule_below = lr;
    p_below = lp;
    q_below = lq;
    conclusion_below = lc;
    unused = unused_zero (head_of r) p q c lc f;
    step = followed_step (head_of r) p q c lp lq lc f;
  }

  pub fits_followed : (r p q c : ℕ) → RecordFits s r p q c → Followed s (head_of r) p q c
  unfolding second_for has_one
  fits_followed r p q c w = step_followed (head_of r) p q c w.p_below w.q_below w.conclusion_below w.unused w.step

-- what check 6 says of the numbers
says_bad : (s : List ℕ) (i : ℕ) → (bad_step s i ≡ false) ↔ ((rule_at s i < rules) × ((p_at s i < terms s) × ((q_at s i < terms s) ×
    ((conclusion_at s i < terms s) × Followed s (head_of (rule_at s i)) (p_at s i) (q_at s i) (conclusion_at s i)))))
unfolding bad_step
says_bad s i =
    Iff.trans (not_not_false _)
    (says_and _ _ (says_ltb (rule_at s i) rules) (says_and _ _ (says_ltb (p_at s i) (terms s)) (says_and _ _ (says_ltb (q_at s i) (terms s))
    (says_and _ _ (says_ltb (conclusion_at s i) (terms s)) (says_follows s (head_of (rule_at s i)) (p_at s i) (q_at s i) (conclusion_at s i))))))

pub fits_iff : {s : List ℕ} → Listed s → (i : ℕ) → (bad_step s i ≡ false) ↔ StepFits s i
fits_iff {s} z i = (
  λ e. let (lr, (lp, (lq, (lc, f)))) = (says_bad s i).0 e in record_fits z _ _ _ _ lr lp lq lc f,
  λ w. (says_bad s i).1 (w.rule_below, (w.p_below, (w.q_below, (w.conclusion_below, fits_followed z _ _ _ _ w)))),
)

picked_below : (b : Bool) (p q n : ℕ) → p < n → q < n → cond b p q < n
picked_below true p q n l m = l
picked_below false p q n l m = m

pub second_listed : {s : List ℕ} {r p q c : ℕ} → RecordFits s r p q c → second_for r p q < terms s
unfolding second_for
second_listed w = picked_below (has_one _) _ _ _ w.p_below w.q_below

-- ---- check 7
-- "A premise is known if it is in the knowledge, is the guess, or was concluded by an earlier step", of numbers and of terms
module _ {s : List ℕ} (c : Claimed s) (i : ℕ) (sound : (j : ℕ) → j < i → StepFits s j) where
  pub known_iff : (n : ℕ) → n < terms s → KnownNumber s i n ↔ Known s i (term s n)
  known_iff n b = (up, down)
    where
      up : KnownNumber s i n → Known s i (term s n)
      up (inl (r, k, e)) = inl (r, k, ap (term s) e)
      up (inr (inl (k, e))) = inr (inl (k, ap (term s) e))
      up (inr (inr (j, k, e))) = inr (inr (j, k, ap (term s) e))

      down : Known s i (term s n) → KnownNumber s i n
      down (inl (r, k, e)) = inl (r, k, c.read.same_number n (entry_at s r) b (c.read.entry_below r k) e)
      down (inr (inl (k, e))) = inr (inl (k, c.read.same_number n (guess s) b c.guess_below e))
      down (inr (inr (j, k, e))) = inr (inr (j, k, c.read.same_number n (conclusion_at s j) b (sound j k).conclusion_below e))

  pub says_known_term : (n : ℕ) → n < terms s → Says (is_known s i n) (Known s i (term s n))
  says_known_term n b = Iff.trans (says_known s i n) (known_iff n b)

  -- row 7: "a premise not known"
  pub says_unfounded : StepFits s i → Says (unfounded s i) ((x : Term) × Premise s i x × (Known s i x → ⊥))
  unfolding unfounded
  says_unfounded f =
      let p = says_known_term (p_at s i) f.p_below in
      let q = says_known_term (second_at s i) (second_listed f) in
      Iff.trans (says_not_both _ _ p q) (
        ⊎_elim (λ u. (first_premise s i, inl refl, u)) (λ u. (second_premise s i, inr refl, u)),
        λ (x, m, u). ⊎_elim (λ e. inl (λ k. u (rw e k))) (λ e. inr (λ k. u (rw e k))) m,
      )

  pub founded_terms : StepFits s i → (unfounded s i ≡ false) ↔ (Known s i (first_premise s i) × Known s i (second_premise s i))
  unfolding unfounded
  founded_terms f = Iff.trans (not_not_false _) (says_and _ _ (says_known_term (p_at s i) f.p_below) (says_known_term (second_at s i) (second_listed f)))

-- ---- checks 6 and 7, step by step
fault_none : (s : List ℕ) (o : Option ℕ) → (step_fault s o ≡ passes) ↔ (o ≡ none)
fault_none s none = (λ e. refl, λ e. refl)
fault_none s (some i) = (fails_not_passes, λ e. absurd (let z : ◌≡◌ {A = ℕ} 0 1 = cc in omega arith))

pub steps_pass : (s : List ℕ) → (check_steps s ≡ passes) ↔ ((i : ℕ) → i < steps s → (bad_step s i ≡ false) × (unfounded s i ≡ false))
unfolding check_steps
steps_pass s =
    let w = Iff.trans (fault_none s _) (none_fails (λ i. bad_step s i || unfounded s i) (steps s)) in
    (λ e i l. (or-false _ _).0 (w.0 e i l), λ f. w.1 (λ i l. (or-false _ _).1 (f i l)))

-- rows 6 and 7, tried together
module _ {s : List ℕ} (c : Claimed s) where
  says_unfit : (i : ℕ) → Says (bad_step s i) (StepFits s i → ⊥)
  says_unfit i = refutes _ (fits_iff c.read i)

  -- where no step before i is bad or unfounded, row 6 or 7 holds at no place before it
  none_before : (i : ℕ) → ((k : ℕ) → k < i → (bad_step s k ≡ false) × (unfounded s k ≡ false)) → (m q : ℕ) → rows6and7 s m q → q < i → ⊥
  none_before i before m q (inl (e, (l, u))) b = (denies _ (says_unfit q)).0 (before q b).0 u
  none_before i before m q (inr (e, (l, u))) b =
      let f : (j : ℕ) → j < i → StepFits s j = λ j k. (fits_iff c.read j).0 (before j k).0 in
      (denies _ (says_unfounded c q (λ j k. f j (omega arith)) (f q b))).0 (before q b).1 u

  -- the first step that is bad or unfounded: 6 where it is bad, else 7
  module _ (i : ℕ) (l : i < steps s) (before : (k : ℕ) → k < i → (bad_step s k ≡ false) × (unfounded s k ≡ false)) where
    fault_at : (b : Bool) → bad_step s i ≡ b → (b ≡ false → unfounded s i ≡ true) → rows6and7 s (cond b 6 7) i
    fault_at true e u = inl (refl, (l, (says_unfit i).0 e))
    fault_at false e u =
        let f : (j : ℕ) → j < i → StepFits s j = λ j k. (fits_iff c.read j).0 (before j k).0 in
        inr (refl, (l, (says_unfounded c i f ((fits_iff c.read i).0 e)).0 (u refl)))

    lowest_number : (b : Bool) → bad_step s i ≡ b → (m : ℕ) → rows6and7 s m i → cond b 6 7 ≤ m
    lowest_number true e m (inl (f, w)) = omega arith
    lowest_number true e m (inr (f, w)) = omega arith
    lowest_number false e m (inl (f, (k, x))) = absurd ((denies _ (says_unfit i)).0 e x)
    lowest_number false e m (inr (f, w)) = omega arith

    first_fault : (bad_step s i ≡ false → unfounded s i ≡ true) → First (rows6and7 s) (cond (bad_step s i) 6 7) i
    first_fault u = first_of (fault_at (bad_step s i) refl u) (none_before i before) (lowest_number (bad_step s i) refl)

  pub tells_6_and_7 : Tells (check_steps s) (rows6and7 s ∷ [])
  unfolding check_steps
  tells_6_and_7 = go (first (λ i. bad_step s i || unfounded s i) (steps s)) refl
    where
      go : (o : Option ℕ) → first (λ i. bad_step s i || unfounded s i) (steps s) ≡ o → Tells (step_fault s o) (rows6and7 s ∷ [])
      go none f = record {
        refuses = λ n p e. fails_not_passes (sym e);
        clear = λ e. (λ m q h. none_before (steps s) (λ k l. (or-false _ _).0 (first_none _ _ f k l)) m q h (below m q h), tt);
      }
        where
          below : (m q : ℕ) → rows6and7 s m q → q < steps s
          below m q (inl (e, (l, u))) = l
          below m q (inr (e, (l, u))) = l
      go (some i) f = record {
        refuses = λ n p e.
            let (l, h, k) = first_some _ _ i f in
            let x : cond (bad_step s i) 6 7 ≡ n = cc in
            let y : i ≡ p = cc in
            inl (subst (λ q. First (rows6and7 s) n q) y (subst (λ m. First (rows6and7 s) m i) x (first_fault i l (λ j b. (or-false _ _).0 (k j b)) (λ z. or_other _ _ h z))));
        clear = fails_not_passes;
      }
