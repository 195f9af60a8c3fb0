-- What is known before a step is reached from the knowledge alone, where the guess does not count or is reached itself. So an acceptance in ways
-- k and j says that the term claimed is deducible, and one in another way that the guess is not.
use mathlib.Core.Path.{◌≡◌, sym, ap, ◌∙◌, subst}
use mathlib.Core.Logic.{inl, inr, ⊎_elim}
use mathlib.Core.Bool.{true, false≢true}
use mathlib.Core.List.{List}
use Prim.Native.Nat.{ℕ, zero, suc, ◌≤◌, ◌<◌}
use native.Mathlib.Omega.{arith}
use Rattle.base.specs.Words.{Bytes}
use Rattle.term.specs.{Term.Term, Step.Deducible}
use Rattle.term.proofs.Reach.{Reach, known, stepped, reach_iff}
use Rattle.submission.specs.{Record.entries, Record.steps, Record.p_at, Record.second_at, Record.guess, Record.verifying, Record.term, Record.InKnowledge, Check.Target, Check.verifier, Check.derived, Check.claims}
use Rattle.derivation.specs.{Step.first_premise, Step.second_premise, Step.rule, Step.concluded, Step.guess_counts, Step.Known, Step.register_counts, Computed.is_known}
use Rattle.derivation.proofs.Theory.RegisterTerms.{counts_guess}
use Rattle.program.specs.Program.{operand}
use Rattle.conditions.specs.{Condition.WellFormed, Condition.Given, Condition.target, Condition.ClaimMet, Condition.FiveConditions, Calls.lowest, Calls.instruction}
use Rattle.conditions.proofs.Theory.ProgramRun.{lowest_known, operand_of}
use Rattle.conditions.proofs.Theory.Signal.{premises_known}

module _ (s : List ℕ) (w : WellFormed s) (c : FiveConditions s) where
  module _ (free : guess_counts (claims s) ≡ true → Reach (InKnowledge s) (term s (guess s))) where
    known_reached : (i : ℕ) → ((j : ℕ) → j < i → Reach (InKnowledge s) (concluded s j)) → (t : Term) → Known s i t → Reach (InKnowledge s) t
    known_reached i f t (inl k) = known k
    known_reached i f t (inr (inl (k, e))) = subst (Reach (InKnowledge s)) (sym e) (free k)
    known_reached i f t (inr (inr (j, l, e))) = subst (Reach (InKnowledge s)) (sym e) (f j l)

    concluded_reached : (n j : ℕ) → j < n → n ≤ steps s → Reach (InKnowledge s) (concluded s j)
    concluded_reached zero j a b = absurd (omega arith)
    concluded_reached (suc n) j a b =
        let (p, q) = c.founded j (omega arith) in
        let f : (i : ℕ) → i < j → Reach (InKnowledge s) (concluded s i) = λ i l. concluded_reached n i (omega arith) (omega arith) in
        stepped (rule s j) (first_premise s j) (second_premise s j) (w.shaped j (omega arith)).step
        (known_reached j f (first_premise s j) p) (known_reached j f (second_premise s j) q)

    known_deducible : (i : ℕ) → i ≤ steps s → (t : Term) → Known s i t → Deducible (InKnowledge s) t
    known_deducible i b t k = (reach_iff (InKnowledge s) t).0 (known_reached i (λ j l. concluded_reached i j l b) t k)

  -- ways k and j: the term claimed
  given_known : (t : Term) → Given s t → Known s (steps s) t
  given_known t (inl (l, e)) = inr (inr (verifying s, l, e))
  given_known t (inr (_, k)) = inl k

  pub target_deducible : (t : Target) → claims s ≡ derived t → Deducible (InKnowledge s) (target s t)
  target_deducible t k =
      known_deducible (λ z. absurd (false≢true (sym (ap guess_counts k) ∙ z))) (steps s) (omega arith) (target s t)
      (given_known (target s t) (subst (ClaimMet s) k c.met))

  -- the other ways: the guess
  pub guess_hidden : claims s ≡ verifier → Deducible (InKnowledge s) (term s (guess s)) → ⊥
  guess_hidden k d =
      let v = subst (ClaimMet s) k c.met in
      let (x, m, f) = v.hidden in
      let (p, q) = c.founded (verifying s) v.present in
      let free : guess_counts (claims s) ≡ true → Reach (InKnowledge s) (term s (guess s)) = λ _. (reach_iff (InKnowledge s) (term s (guess s))).1 d in
      f (⊎_elim
      (λ e. subst (Deducible (InKnowledge s)) (sym e) (known_deducible free (verifying s) (omega (arith, v.present)) _ p))
      (λ e. subst (Deducible (InKnowledge s)) (sym e) (known_deducible free (verifying s) (omega (arith, v.present)) _ q)) m)

  -- ways k and j: no instruction reads the guess's register
  module _ (b : Bytes s) (t : Target) (k : claims s ≡ derived t) where
    not_guess_register : (i n : ℕ) → i < steps s → is_known s i n ≡ true → lowest s n ≡ entries s → ⊥
    not_guess_register i n l e q =
        false≢true (sym (ap guess_counts k) ∙ sym (counts_guess s) ∙ ap (register_counts s) (sym q) ∙ (lowest_known s i n (omega arith) e).0)

    pub guess_unread : (i : ℕ) → i < steps s → ((instruction s i).left ≡ entries s → ⊥) × (operand (instruction s i) ≡ entries s → ⊥)
    unfolding instruction
    guess_unread i l =
        let (p, q) = premises_known s b w c i l in
        (not_guess_register i (p_at s i) l p, λ e. not_guess_register i (second_at s i) l q (sym (operand_of s i) ∙ e))
