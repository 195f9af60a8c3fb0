-- The steps of the chosen terms: the records on the page, and that they are a deduction.
use mathlib.Core.Path.{◌≡◌, refl, sym, ap, ◌∙◌, subst}
use mathlib.Core.Logic.{◌↔◌, inl, inr, ⊎_elim}
use mathlib.Core.Bool.{Bool}
use mathlib.Core.List.{List}
use Prim.Native.Nat.{ℕ, suc, ◌+◌, ◌-◌, ◌*◌, ◌≤◌, ◌<◌}
use native.Mathlib.Omega.{arith}
use native.Mathlib.Numerals.{add-one}
use lib.ListN.{length, get_or, take, drop, length-drop}
use lib.Seq.{sets, length-take-le}
use Rattle.std.proofs.lemmas.List.{get_or-take, get_or-drop}
use Rattle.base.specs.declared.writer.Writer.{Writer}
use Rattle.base.specs.{Words.fours, Words.byte, Code.Wrote}
use Rattle.base.proofs.{Fours.fours_alike, Fours.fours_length, Fours.fours_at, PutLaws.wrote_none, PutLaws.wrote_then}
use Rattle.term.specs.Term.{Term}
use Rattle.submission.specs.Record.{terms, second_for, term, InKnowledge}
use Rattle.submission.specs.Code.{TableRead}
use Rattle.submission.proofs.Theory.ListedTerms.{facts}
use Rattle.derivation.specs.Step.{RecordFits}
use Rattle.derivation.specs.declared.Step.{Step}
use Rattle.deduction.specs.Computed.{entry_marks}
use Rattle.deduction.specs.Code.{Marks, mark_of, SameMarks}
use Rattle.deduction.specs.Saturation.{start_mark, AllReached}
use Rattle.deduction.proofs.{BuildMemo.same_some, Theory.Exactness.in_knowledge_iff}
use Rattle.std.specs.Prelude.{Some}
use Rattle.witness.proofs.ChoiceLaws.{step_is}
use Rattle.witness.specs.Deduction.{rule_in, p_in, q_in, conclusion_in, PremiseIn, KnownBefore, Deduction}
use Rattle.witness.specs.Code.{concluding_step, concluding_second, step_by, ConcludingPremise, StartedOrHasStep, HaveSteps, ChosenSteps, Chosen, step_bytes, first_steps, steps_bytes}
use Rattle.witness.proofs.StepsFrom.{Infers, infers}

-- ---- the loop of `put_steps`: the records of the first i steps are written
pub record Putting (s : List ℕ) (marks : Marks) (chosen : List ℕ) (w : Writer) (i : ℕ) (v : Writer) : Type 0 where
  pub within : i ≤ length chosen
  pub wrote : Wrote w (first_steps s marks chosen i) v

module _ {s : List ℕ} {marks : Marks} {chosen : List ℕ} where
  pub putting_none : {w : Writer} → Putting s marks chosen w 0 w
  unfolding fours
  putting_none = record { within = omega arith; wrote = wrote_none }

  module _ {w v : Writer} {i : ℕ} (p : Putting s marks chosen w i v) where
    pub putting_more : {u : Writer} {a : Step} → i < length chosen → a ≡ concluding_step s marks (get_or chosen i 0) → Wrote v (step_bytes a) u → Putting s marks chosen w (i + 1) u
    unfolding fours
    putting_more l e x = record { within = omega arith; wrote = rw add-one (wrote_then p.wrote (rw e at x)) }

    -- the buffer is the page p again
    pub putting_end : {d page' : List ℕ} → length chosen ≤ i → w.buffer.now ≡ d → w.at ≡ 0 → page' ≡ v.buffer.now → page' ≡ sets d 0 (steps_bytes s marks chosen)
    putting_end l e f g =
        let z : i ≡ length chosen = omega (arith, p.within) in
        g ∙ p.wrote.puts.stored ∙ rw (e, f, z)

-- each of the terms has a step
module _ {s : List ℕ} {marks : Marks} {chosen : List ℕ} {i : ℕ} (h : HaveSteps s marks chosen) (l : i < length chosen) where
  pub has_step : StartedOrHasStep s marks (get_or chosen i 0)
  has_step = record { is = inr (h.concluded i l) }

  pub the_step : {a : Step} → Some a ≡ step_by s (get_or chosen i 0) (mark_of marks (get_or chosen i 0)) → a ≡ concluding_step s marks (get_or chosen i 0)
  the_step f = same_some (f ∙ step_is (h.concluded i l))

-- each of the chosen terms alone has a step
pub part_steps : {s : List ℕ} {marks : Marks} {chosen : List ℕ} {from : ℕ} → ChosenSteps s marks chosen from → HaveSteps s marks (take (length chosen - from) (drop from chosen))
part_steps {chosen = chosen} {from} c = record {
  concluded = λ i b.
      let n : length (take (length chosen - from) (drop from chosen)) ≡ 256 - from = omega (arith, c.long, length-take-le (length chosen - from) (drop from chosen) (omega (arith, length-drop from chosen))) in
      rw (get_or-take (length chosen - from) (drop from chosen) i 0 (omega (arith, c.long)), get_or-drop) (c.concluded (from + i) (omega arith) (omega arith));
}

-- ---- terms from the start are those of the knowledge
module _ {s : List ℕ} {marks : Marks} {order : List ℕ} {start : List Bool} {end : ℕ} (v : TableRead s) (m : SameMarks s start (entry_marks s)) (w : AllReached s start marks order end) where
  pub started_iff : (n : ℕ) → n < terms s → (mark_of marks n ≡ start_mark) ↔ InKnowledge s (term s n)
  started_iff n l =
      let (f, g) = w.from_start n l in
      let (h, k) = in_knowledge_iff (facts v) (term s n) in (
        λ e. k (n, l, (sym (m.same n l) ∙ f e, refl)),
        λ e.
            let (j, b, (x, y)) = h e in
            let z : n ≡ j = (facts v).same_number n j l b y in
            g (m.same n l ∙ rw z x),
      )

-- ---- the steps are a deduction
module _ {s : List ℕ} {marks : Marks} {chosen : List ℕ} {t from : ℕ} (v : TableRead s) (known : (n : ℕ) → n < terms s → (mark_of marks n ≡ start_mark) ↔ InKnowledge s (term s n)) (lt : t < terms s) (c : Chosen s marks t chosen from) where
  abbrev count : ℕ
  count = 256 - from

  abbrev l : List ℕ
  l = fours (λ i. step_bytes (concluding_step s marks (get_or chosen (from + i) 0))) (256 - from)

  -- the term that step i concludes
  abbrev chosen_at : ℕ → ℕ
  chosen_at i = get_or chosen (from + i) 0

  module _ (i : ℕ) (b : i < 256 - from) where
    low : chosen_at i < terms s
    low = c.below (from + i) (omega arith) (omega arith)

    step : Infers s (λ x. x < terms s) (chosen_at i) (concluding_step s marks (chosen_at i))
    step = infers v (c.steps.concluded (from + i) (omega arith) (omega arith)).step.from low (c.comes (from + i) (omega arith) (omega arith))

    byte_is : (j : ℕ) → j < 4 → byte l (4 * i + j) ≡ byte (step_bytes (concluding_step s marks (chosen_at i))) j
    byte_is j m = fours_at (λ i. step_bytes (concluding_step s marks (get_or chosen (from + i) 0))) (λ i. refl) (256 - from) i j b m

    rule_is : rule_in l i ≡ (concluding_step s marks (chosen_at i)).rule
    rule_is = let e : 4 * i ≡ 4 * i + 0 = omega arith in ap (byte l) e ∙ byte_is 0 (omega arith)

    p_is : p_in l i ≡ (concluding_step s marks (chosen_at i)).p
    p_is = byte_is 1 (omega arith)

    q_is : q_in l i ≡ (concluding_step s marks (chosen_at i)).q
    q_is = byte_is 2 (omega arith)

    conclusion_is : conclusion_in l i ≡ chosen_at i
    conclusion_is = byte_is 3 (omega arith) ∙ step.concludes

    second_is : second_for (rule_in l i) (p_in l i) (q_in l i) ≡ concluding_second s marks (chosen_at i)
    second_is = rw (rule_is, p_is, q_is)

    fits : RecordFits s (rule_in l i) (p_in l i) (q_in l i) (conclusion_in l i)
    fits = rw (rule_is, p_is, q_is, conclusion_is) step.fits

    -- a premise as a term is one as a number
    premise : (x : Term) → PremiseIn s l i x → (n : ℕ) × (n < terms s) × (x ≡ term s n) × ConcludingPremise s marks (chosen_at i) n
    premise x (inl e) = ((concluding_step s marks (chosen_at i)).p, step.first, e ∙ ap (term s) p_is, inl refl)
    premise x (inr e) = (concluding_second s marks (chosen_at i), step.second, e ∙ ap (term s) second_is, inr refl)

    premise_in : (n : ℕ) → ConcludingPremise s marks (chosen_at i) n → PremiseIn s l i (term s n)
    premise_in n (inl e) = inl (ap (term s) (e ∙ sym p_is))
    premise_in n (inr e) = inr (ap (term s) (e ∙ sym second_is))

  -- an earlier place is that of an earlier step
  step_at : (j i : ℕ) → from ≤ j → j < from + i → i < 256 - from → (k : ℕ) × (k < i) × (conclusion_in l k ≡ get_or chosen j 0)
  step_at j i a b d =
      let e : from + (j - from) ≡ j = omega arith in
      (j - from, omega arith, conclusion_is (j - from) (omega arith) ∙ ap (λ k. get_or chosen k 0) e)

  founded : (i : ℕ) → i < 256 - from → (x : Term) → PremiseIn s l i x → KnownBefore s l i x
  founded i b x y =
      let (n, m, e, z) = premise i b x y in
      ⊎_elim (λ f. inl (rw e ((known n m).0 f)))
      (λ (j, a, d, f). let (k, o, g) = step_at j i a d b in inr (k, o, e ∙ ap (term s) (sym f ∙ sym g)))
      (c.founded (from + i) (omega arith) (omega arith) n z)

  new : (i : ℕ) → i < 256 - from → KnownBefore s l i (term s (conclusion_in l i)) → ⊥
  new i b (inl k) =
      c.new (from + i) (omega arith) (omega arith) ((known (chosen_at i) (low i b)).1 (subst (λ n. InKnowledge s (term s n)) (conclusion_is i b) k))
  new i b (inr (j, o, e)) =
      let d : j < 256 - from = omega arith in
      let f : term s (chosen_at i) ≡ term s (chosen_at j) = sym (ap (term s) (conclusion_is i b)) ∙ e ∙ ap (term s) (conclusion_is j d) in
      c.apart (from + j) (from + i) (omega arith) (omega arith) (omega arith) (sym ((facts v).same_number _ _ (low i b) (low j d) f))

  used : (i : ℕ) → suc i < 256 - from → (j : ℕ) × (i < j) × (j < 256 - from) × PremiseIn s l j (term s (conclusion_in l i))
  used i b =
      let (j, a, d, y) = c.used (from + i) (omega arith) (omega arith) in
      let e : from + (j - from) ≡ j = omega arith in
      let o : j - from < 256 - from = omega arith in
      let y' : ConcludingPremise s marks (chosen_at (j - from)) (chosen_at i) = rw e y in
      (j - from, omega arith, o, rw (conclusion_is i (omega arith)) (premise_in (j - from) o (chosen_at i) y'))

  chosen_shown : Deduction s t (256 - from) l
  chosen_shown = record {
    long = fours_length (λ i. step_bytes (concluding_step s marks (get_or chosen (from + i) 0))) (λ i. refl) (256 - from);
    fits = fits;
    founded = founded;
    new = new;
    none = λ e. ⊎_elim (λ (_, f). (known t lt).0 f) (λ (b, _). absurd (omega arith)) c.last;
    last = λ i e. ⊎_elim (λ (f, _). absurd (omega arith))
        (λ (_, f). let z : from + i ≡ 255 = omega arith in conclusion_is i (omega arith) ∙ ap (λ k. get_or chosen k 0) z ∙ f) c.last;
    used = used;
  }

  -- the chosen terms alone
  pub chosen_deduction : (part : List ℕ) → length part ≡ 256 - from → ((i : ℕ) → i < 256 - from → get_or part i 0 ≡ get_or chosen (from + i) 0) → Deduction s t (length part) (steps_bytes s marks part)
  chosen_deduction part e f =
      let g : steps_bytes s marks part ≡ l = ap (first_steps s marks part) e ∙ fours_alike _ _ (256 - from) (λ i b. ap (λ n. step_bytes (concluding_step s marks n)) (f i b)) in
      subst (λ n. Deduction s t n (steps_bytes s marks part)) (sym e) (subst (Deduction s t (256 - from)) (sym g) chosen_shown)
