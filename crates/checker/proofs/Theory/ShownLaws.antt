-- What is promised of a deduction that is shown holds: the checker takes its steps, and condition 3 is what the call answers.
use mathlib.Core.Path.{◌≡◌, refl, sym, ap, ◌∙◌}
use mathlib.Core.Logic.{◌↔◌, ◌⊎◌, inl, inr, ⊎_elim}
use mathlib.Core.List.{List, [], ◌∷◌, ◌++◌}
use Prim.Native.Nat.{ℕ, suc, ◌+◌, ◌*◌, ◌≤◌, ◌<◌}
use native.Mathlib.Omega.{arith}
use Rattle.base.specs.{Words.byte, Words.Bytes, Answer.done, Answer.refused, Answer.numbered, Answer.Clear, Answer.Refuses, Answer.row11}
use Rattle.base.proofs.RefusalLaws.{both_clear, refuses_split, refuses_some, some_number}
use Rattle.term.specs.{Term.Term, Step.Deducible}
use Rattle.submission.specs.{Record.count, Record.start, Record.terms, Record.entry_at, Record.rule_at, Record.p_at, Record.q_at, Record.second_for, Record.second_at, Record.conclusion_at, Record.verifying, Record.term, Record.InKnowledge, Body.body_at, Record.steps, Check.Claims, Check.verifier, Check.derived, Check.claims, Check.rows1and2, Check.rows1to4}
use Rattle.submission.proofs.Theory.{ListedTerms.verifying_below, ReadingRows.claimed_clear, ReadingRows.first_four, ReadingRows.one_claim}
use Rattle.form.proofs.Theory.RoundTrip.{body_length}
use Rattle.derivation.specs.Step.{concluded, Premise, StepFits, Known, rows6and7}
use Rattle.derivation.proofs.Theory.{LargerTables.fits_over, StepMeaning.second_listed}
use Rattle.deduction.proofs.Theory.DeducibleAnswer.{asked_iff}
use Rattle.deduction.specs.Deduce.{deducible_rows}
use Rattle.witness.specs.{Deduction.rule_in, Deduction.p_in, Deduction.q_in, Deduction.conclusion_in, Deduction.PremiseIn, Deduction.KnownBefore, Deduction.Deduction, Deduction.deduction_rows, Computed.deduction_answer}
use Rattle.witness.proofs.Theory.DeductionAnswer.{yes_exact, no_exact}
use Rattle.program.specs.Program.{program_length}
use Rattle.conditions.specs.{Condition.WellFormed, Condition.rows1to7, Condition.claim_rows, Computed.check_answer}
use Rattle.conditions.proofs.Theory.{Acceptance.begun_iff, Refusal.check_exact}
use Rattle.readback.proofs.Theory.{SameSubmissions.term_alike, ReplacedBodies.Replacement, ReplacedBodies.replacement}
use Rattle.checker.specs.Shown.{with_steps, ShownPromise}
use Rattle.checker.proofs.Theory.KnownGuessLaws.{begun_numbers}

-- ---- the steps shown, checked
module _ (s : List ℕ) (b : Bytes s) (clear : Clear (rows1to4 s)) (t n : ℕ) (l : List ℕ) (d : Deduction s t n l) (few : n ≤ 128) where
  abbrev r : List ℕ
  r = with_steps s l

  over : Replacement s l (body_at s 3) r n
  over =
      let two : Clear (rows1and2 s) = (clear.0, (clear.1.0, tt)) in
      replacement s b clear l (body_at s 3) n d.long few (body_length s b two 3 (omega arith) ∙ ap (λ k. 4 * k) (one_claim s two))

  same_term : (k : ℕ) → term r k ≡ term s k
  same_term = term_alike over.same

  module _ (i : ℕ) (m : i < n) where
    rule_is : rule_at r i ≡ rule_in l i
    rule_is =
        let e : start r 2 + 4 * i ≡ start r 2 + (4 * i + 0) = omega arith in
        let f : 4 * i + 0 ≡ 4 * i = omega arith in
        ap (byte r) e ∙ over.field i m 0 (omega arith) ∙ ap (byte l) f

    later_field : (j : ℕ) → j < 4 → byte r (start r 2 + 4 * i + j) ≡ byte l (4 * i + j)
    later_field j k = let e : start r 2 + 4 * i + j ≡ start r 2 + (4 * i + j) = omega arith in ap (byte r) e ∙ over.field i m j k

    p_is : p_at r i ≡ p_in l i
    p_is = later_field 1 (omega arith)

    q_is : q_at r i ≡ q_in l i
    q_is = later_field 2 (omega arith)

    conclusion_is : conclusion_at r i ≡ conclusion_in l i
    conclusion_is = later_field 3 (omega arith)

    concluded_is : concluded r i ≡ term s (conclusion_in l i)
    concluded_is = ap (term r) conclusion_is ∙ same_term (conclusion_in l i)

  step_fits : (i : ℕ) → i < n → StepFits r i
  step_fits i m =
      let larger : (k : ℕ) → k < terms s → (k < terms r) × (term r k ≡ term s k) = λ k o. (omega (arith, over.same.same_terms), same_term k) in
      rw (rule_is i m, p_is i m, q_is i m, conclusion_is i m) (fits_over larger (rule_in l i) (p_in l i) (q_in l i) (conclusion_in l i) (d.fits i m))

  second_alike : (i : ℕ) → i < n → second_at r i ≡ second_for (rule_in l i) (p_in l i) (q_in l i)
  second_alike i m = rw (rule_is i m, p_is i m, q_is i m)

  premise_in : (i : ℕ) → i < n → (x : Term) → Premise r i x → PremiseIn s l i x
  premise_in i m x =
      ⊎_elim
      (λ e. inl (e ∙ ap (term r) (p_is i m) ∙ same_term (p_in l i)))
      (λ e. inr (e ∙ ap (term r) (second_alike i m) ∙ same_term (second_for (rule_in l i) (p_in l i) (q_in l i))))

  entry_over : (x : Term) → InKnowledge s x → InKnowledge r x
  entry_over x (k, m, e) =
      let o : k < count r 1 = omega (arith, over.same.same_entries) in
      (k, o, e ∙ sym (ap (term r) (over.same.knowledge k o) ∙ same_term (entry_at s k)))

  known_over : (i : ℕ) → i < n → (x : Term) → KnownBefore s l i x → Known r i x
  known_over i m x = ⊎_elim (λ k. inl (entry_over x k)) (λ (j, o, e). inr (inr (j, o, e ∙ sym (concluded_is j (omega arith)))))

  -- rows 6 and 7 hold nowhere
  no_fault : (m q : ℕ) → rows6and7 r m q → ⊥
  no_fault m q (inl (e, (o, u))) = u (step_fits q (omega (arith, over.step_count)))
  no_fault m q (inr (e, (o, (x, p, u)))) =
      let k : q < n = omega (arith, over.step_count) in
      u (known_over q k x (d.founded q k x (premise_in q k x p)))

  shown_passes : Clear (rows1to4 r) × ((m q : ℕ) → rows6and7 r m q → ⊥)
  shown_passes = (over.clear, no_fault)

-- ---- condition 3
module _ (s : List ℕ) (b : Bytes s) (w : WellFormed s) (room : ℕ) (enough : 1000 ≤ room) where
  -- no row of the call holds for a listed term
  asked_clear : (t : ℕ) → t < terms s → Clear (deduction_rows s t room)
  asked_clear t l =
      both_clear (deducible_rows s t) (numbered 19 (λ p. (p ≡ 1000) × (room < 1000)) ∷ [])
      ((asked_iff s t).1 (first_four s w.read, l))
      ((λ m q (_, (_, k)). omega arith), tt)

  yes_iff : (t n : ℕ) → t < terms s → Deducible (InKnowledge s) (term s t) ↔ (deduction_answer s t room n ≡ done (suc n))
  yes_iff t n l = let (f, g) = yes_exact s b t room n in (λ d. g (asked_clear t l, d), λ e. (f e).1)

  no_iff : (t n : ℕ) → t < terms s → (Deducible (InKnowledge s) (term s t) → ⊥) ↔ (deduction_answer s t room n ≡ done 0)
  no_iff t n l = let (f, g) = no_exact s b t room n in (λ d. g (asked_clear t l, d), λ e. (f e).1)

  module _ (v : claims s ≡ verifier) (m n : ℕ) where
    step_right : StepFits s (verifying s)
    step_right = w.shaped (verifying s) (verifying_below (claimed_clear s b w.read) v)

    reached_iff : ((x : Term) → Premise s (verifying s) x → Deducible (InKnowledge s) x)
        ↔ ((deduction_answer s (p_at s (verifying s)) room m ≡ done (suc m)) × (deduction_answer s (second_at s (verifying s)) room n ≡ done (suc n)))
    reached_iff =
        let p = yes_iff (p_at s (verifying s)) m step_right.p_below in
        let q = yes_iff (second_at s (verifying s)) n (second_listed step_right) in (
          λ f. (p.0 (f _ (inl refl)), q.0 (f _ (inr refl))),
          λ (e, g) x. ⊎_elim (λ h. rw h (p.1 e)) (λ h. rw h (q.1 g)),
        )

    hidden_iff : ((x : Term) × Premise s (verifying s) x × (Deducible (InKnowledge s) x → ⊥))
        ↔ ((deduction_answer s (p_at s (verifying s)) room m ≡ done 0) ⊎ (deduction_answer s (second_at s (verifying s)) room n ≡ done 0))
    hidden_iff =
        let p = no_iff (p_at s (verifying s)) m step_right.p_below in
        let q = no_iff (second_at s (verifying s)) n (second_listed step_right) in (
          λ (x, k, f). ⊎_elim (λ h. inl (p.0 (λ d. f (rw h d)))) (λ h. inr (q.0 (λ d. f (rw h d)))) k,
          ⊎_elim (λ e. (term s (p_at s (verifying s)), inl refl, p.1 e)) (λ e. (term s (second_at s (verifying s)), inr refl, q.1 e)),
        )

-- ---- an 8
module _ (s : List ℕ) (b : Bytes s) (room p : ℕ) where
  -- the rows after 7 that have the number 8
  reachable_row : (k : Claims) → Refuses (claim_rows s k ++ row11 (program_length (steps s)) room ∷ []) 8 p →
      (k ≡ verifier) × ((x : Term) → Premise s (verifying s) x → Deducible (InKnowledge s) x)
  reachable_row verifier (inl h) = (refl, h.holds.1.1)
  reachable_row verifier (inr (_, inl h)) = absurd (let e = h.holds.0 in omega arith)
  reachable_row verifier (inr (_, inr (_, inl h))) = absurd (let e = h.holds.0 in omega arith)
  reachable_row verifier (inr (_, inr (_, inr (_, inl h)))) = absurd (let e = h.holds.0 in omega arith)
  reachable_row verifier (inr (_, inr (_, inr (_, inr (_, e))))) = absurd e
  reachable_row (derived t) (inl h) = absurd (let e = h.holds.0 in omega arith)
  reachable_row (derived t) (inr (_, inl h)) = absurd (let e = h.holds.0 in omega arith)
  reachable_row (derived t) (inr (_, inr (_, e))) = absurd e

  pub refused_8 : check_answer s room ≡ refused 8 p → WellFormed s × (claims s ≡ verifier) × ((x : Term) → Premise s (verifying s) x → Deducible (InKnowledge s) x)
  refused_8 e = ⊎_elim
      (λ x. absurd (let l = some_number (λ n. n ≤ 7) (rows1to7 s) 8 p (begun_numbers s) (refuses_some (rows1to7 s) 8 p x) in omega arith))
      (λ (c, x). let (w, _) = (begun_iff s b).0 c in let (v, f) = reachable_row (claims s) x in (w, v, f))
      (refuses_split (rows1to7 s) (claim_rows s (claims s) ++ row11 (program_length (steps s)) room ∷ []) 8 p ((check_exact s b room (refused 8 p)).0 e))

pub shown_promise : ShownPromise
shown_promise = record {
  passes = shown_passes;
  reachable = λ s b w v room e m n. reached_iff s b w room e v m n;
  shown = λ s b room p e sheet l m n. let (w, v, f) = refused_8 s b room p e in (reached_iff s b w sheet l v m n).0 f;
  hidden = λ s b w v room e m n. hidden_iff s b w room e v m n;
}
