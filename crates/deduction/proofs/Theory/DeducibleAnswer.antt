-- What deducible answers: 1 exactly for the terms that steps reach, and the same for submissions alike in terms and knowledge.
use mathlib.Core.Path.{◌≡◌, refl, ap, sym, ◌∙◌, subst}
use mathlib.Core.Logic.{◌↔◌, ◌⊎◌, inl, inr, ⊎_elim}
use mathlib.Core.Bool.{Bool, true, false, not, cond, false≢true}
use mathlib.Core.List.{List, [], ◌∷◌}
use Prim.Native.Nat.{ℕ, ◌≤◌, ◌<◌}
use native.Mathlib.Omega.{arith}
use lib.Dec.{ltb}
use borrow.Author.Tests.{lt-ltb, le-ltb}
use Rattle.base.proofs.Order.{lt_or_ge}
use Rattle.base.proofs.Says.{Says, says_not_ltb, same_test}
use Rattle.term.specs.Term.{Term}
use Rattle.term.specs.Step.{Deducible}
use Rattle.term.specs.Code.{Table}
use Rattle.term.proofs.Table.{tables_agree}
use Rattle.base.specs.Answer.{Answer, done, refused, numbered, Clear, Answers}
use Rattle.base.specs.Words.{Bytes}
use Rattle.base.specs.Computed.{passes, fails_if, and_then}
use Rattle.submission.specs.Record.{terms, entries, entry_at, record_at, term, InKnowledge}
use Rattle.base.proofs.RefusalLaws.{Tells, passes_iff, answers_iff, tells_if, tells_then, both_clear, clear_split}
use Rattle.submission.specs.Check.{rows1to4}
use Rattle.submission.proofs.Theory.ReadingRows.{tells_1_to_4}
use Rattle.submission.proofs.Theory.ListedTerms.{Listed, listed}
use Rattle.deduction.specs.Computed.{entry_marks, is_deducible}
use Rattle.deduction.specs.{Computed.Marked, Computed.deducible_answer, Deduce.deducible_rows, Deduce.DeducibleValue}
use Rattle.deduction.proofs.Theory.Exactness.{deducible_from_iff, deducible_trans, deducible_iff}
use Rattle.submission.specs.Computed.{checks1to4}

-- two submissions alike in terms and knowledge, whatever their derivations and claims are
pub record Alike (s s' : List ℕ) : Type 0 where
  pub same_terms : terms s ≡ terms s'
  pub same_records : (n : ℕ) → n < terms s → record_at s n ≡ record_at s' n
  pub same_entries : entries s ≡ entries s'
  pub same_knowledge : (i : ℕ) → i < entries s → entry_at s i ≡ entry_at s' i

alike_sym : {s s' : List ℕ} → Alike s s' → Alike s' s
alike_sym a = record {
  same_terms = sym a.same_terms;
  same_records = λ n l. sym (a.same_records n (omega (arith, a.same_terms)));
  same_entries = sym a.same_entries;
  same_knowledge = λ i l. sym (a.same_knowledge i (omega (arith, a.same_entries)));
}

module _ {s s' : List ℕ} (z : Listed s) (z' : Listed s') (a : Alike s s') where
  alike_term : (n : ℕ) → n < terms s → term s n ≡ term s' n
  alike_term = tables_agree z.table (subst (λ k. Table (record_at s') k (term s')) (sym a.same_terms) z'.table) a.same_records

  alike_knowledge : (t : Term) → InKnowledge s t → InKnowledge s' t
  alike_knowledge t (r, l, e) =
      (r, omega (arith, a.same_entries), e ∙ alike_term (entry_at s r) (z.entry_below r l) ∙ ap (term s') (a.same_knowledge r l))

  alike_deducible : (n : ℕ) → n < terms s → Deducible (InKnowledge s) (term s n) → Deducible (InKnowledge s') (term s' n)
  alike_deducible n l d = subst (Deducible (InKnowledge s')) (alike_term n l) (deducible_trans (λ u k. ([], alike_knowledge u k)) d)

same_answer : {s s' : List ℕ} → Listed s → Listed s' → Alike s s' → (n : ℕ) → n < terms s →
    is_deducible s (entry_marks s) n ≡ is_deducible s' (entry_marks s') n
same_answer {s} {s'} z z' a n l =
    let l' : n < terms s' = omega (arith, a.same_terms) in
    let (f, g) = deducible_iff z' n l' in
    same_test _ _ (deducible_iff z n l) (λ e. alike_deducible z' z (alike_sym a) n l' (f e), λ d. g (alike_deducible z z' a n l d))

-- ---- the answer that the call gives
below_answer : (s : List ℕ) (n : ℕ) → checks1to4 s ≡ passes → n < terms s → deducible_answer s n ≡ done (cond (is_deducible s (entry_marks s) n) 1 0)
unfolding deducible_answer
below_answer s n e l = rw (e, lt-ltb n (terms s) l)

above_answer : (s : List ℕ) (n : ℕ) → checks1to4 s ≡ passes → terms s ≤ n → deducible_answer s n ≡ refused 12 0
unfolding deducible_answer
above_answer s n e l = rw (e, le-ltb n (terms s) l)

-- k, which stands for yes, where the test says so, and else 0
pub says_value : {P : Type 0} (k : ℕ) (b : Bool) → Says b P → (v : ℕ) → (cond b k 0 ≡ v) ↔ (((v ≡ k) × P) ⊎ ((v ≡ 0) × (P → ⊥)))
says_value k true s v = (λ e. inl (sym e, s.0 refl), ⊎_elim (λ (e, x). sym e) (λ (e, f). absurd (f (s.0 refl))))
says_value k false s v = (λ e. inr (sym e, λ x. false≢true (s.1 x)), ⊎_elim (λ (e, x). absurd (false≢true (s.1 x))) (λ (e, f). sym e))

-- ---- Demand 1, deducible, and demand 2
-- checks 1 to 4, then 12
pub tells_asked : (s : List ℕ) → Bytes s → (n : ℕ) → Tells (and_then (checks1to4 s) (fails_if (not (ltb n (terms s))) 12 0)) (deducible_rows s n)
tells_asked s b n =
    tells_then (checks1to4 s) (fails_if (not (ltb n (terms s))) 12 0) (tells_1_to_4 s b) (λ _. tells_if _ 12 0 (says_not_ltb n (terms s)))

-- no row holds where checks 1 to 4 pass and the term is listed
pub asked_iff : (s : List ℕ) (n : ℕ) → Clear (deducible_rows s n) ↔ (Clear (rows1to4 s) × (n < terms s))
asked_iff s n =
    let later : List (ℕ → ℕ → Type 0) = numbered 12 (λ p. (p ≡ 0) × (terms s ≤ n)) ∷ [] in (
      λ c. let (x, y) = clear_split (rows1to4 s) later c in (x, ⊎_elim (λ l. l) (λ l. absurd (y.0 12 0 (refl, (refl, l)))) (lt_or_ge n (terms s))),
      λ (x, l). both_clear (rows1to4 s) later x ((λ m q (_, (_, k)). omega arith), tt),
    )

-- where they pass, the test says whether the term is deducible
pub says_deducible : (s : List ℕ) → Bytes s → (n : ℕ) → Clear (deducible_rows s n) → Says (is_deducible s (entry_marks s) n) (Deducible (InKnowledge s) (term s n))
says_deducible s b n c =
    let (x, l) = (asked_iff s n).0 c in
    deducible_iff (listed s b ((passes_iff (tells_1_to_4 s b)).1 x)) n l

-- Deducible answers as rows 1 to 4 and row 12 say, and else 1 exactly where a finite list of steps reaches the term: "A term is deducible if a finite
-- list of such steps reaches it from the knowledge alone, over all terms, not only those listed."
pub deducible_exact : (s : List ℕ) → Bytes s → (n : ℕ) (a : Answer) → (deducible_answer s n ≡ a) ↔ Answers (deducible_rows s n) (DeducibleValue s n) a
unfolding deducible_answer
deducible_exact s b n =
    answers_iff (tells_asked s b n) (cond (is_deducible s (entry_marks s) n) 1 0) (DeducibleValue s n) (λ c. says_value 1 _ (says_deducible s b n c))

-- yes and no
module _ (s : List ℕ) (b : Bytes s) (n : ℕ) where
  pub yes_exact : (deducible_answer s n ≡ done 1) ↔ (Clear (deducible_rows s n) × Deducible (InKnowledge s) (term s n))
  yes_exact =
      let (f, g) = deducible_exact s b n (done 1) in
      (λ e. let (c, v) = f e in (c, ⊎_elim (λ u. u.1) (λ u. absurd (omega (arith, u.0))) v), λ (c, d). g (c, inl (refl, d)))

  pub no_exact : (deducible_answer s n ≡ done 0) ↔ (Clear (deducible_rows s n) × (Deducible (InKnowledge s) (term s n) → ⊥))
  no_exact =
      let (f, g) = deducible_exact s b n (done 0) in
      (λ e. let (c, v) = f e in (c, ⊎_elim (λ u. absurd (omega (arith, u.0))) (λ u. u.1) v), λ (c, d). g (c, inr (refl, d)))

-- From any marked terms, not only from the knowledge: the computed test says whether a finite list of steps reaches the term from those
-- that are marked. Marks of numbers that are not below T count for nothing.
pub from_marks_exact : (s : List ℕ) → Bytes s → Clear (rows1to4 s) → (m : List Bool) (n : ℕ) → n < terms s →
    (is_deducible s m n ≡ true) ↔ Deducible (Marked s m) (term s n)
from_marks_exact s b c m n l = deducible_from_iff (listed s b ((passes_iff (tells_1_to_4 s b)).1 c)) m n l

-- "The answer is the same for two submissions alike in terms and knowledge that both pass checks 1 to 4."
pub same_deducible : (s s' : List ℕ) → Bytes s → Bytes s' → Clear (rows1to4 s) → Clear (rows1to4 s') → Alike s s' →
    (n : ℕ) → deducible_answer s n ≡ deducible_answer s' n
same_deducible s s' b b' c c' a n =
    let e = (passes_iff (tells_1_to_4 s b)).1 c in
    let e' = (passes_iff (tells_1_to_4 s' b')).1 c' in
    ⊎_elim
    (λ l. below_answer s n e l ∙ ap (λ x. done (cond x 1 0)) (same_answer (listed s b e) (listed s' b' e') a n l)
    ∙ sym (below_answer s' n e' (omega (arith, a.same_terms))))
    (λ l. above_answer s n e l ∙ sym (above_answer s' n e' (omega (arith, a.same_terms))))
    (lt_or_ge n (terms s))
