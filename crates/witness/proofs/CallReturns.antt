-- The returns of `show` and `deduction`: a check's refusal, no such term, a short sheet, no, and the steps of a yes.
use mathlib.Core.Path.{◌≡◌, refl, sym, ap, ◌∙◌}
use mathlib.Core.Bool.{Bool, true, false, not, cond}
use mathlib.Core.List.{List}
use Prim.Native.Nat.{ℕ, suc, ◌+◌, ◌-◌, ◌≤◌, ◌<◌}
use native.Mathlib.Nat.{zero-add}
use native.Mathlib.Omega.{arith}
use lib.Dec.{ltb}
use lib.ListN.{length, get_or, take, drop, length-drop}
use lib.Seq.{sets, sets-eq, length-take-le}
use Rattle.std.proofs.lemmas.List.{get_or-take, get_or-drop}
use Rattle.std.specs.Prelude.{Result, Ok, Err, Option as Maybe, Some, is_some}
use Rattle.base.specs.declared.refusal.Refusal.{Refusal}
use Rattle.base.specs.{Answer.done, Answer.answer_of, Code.check_of, Computed.fails_if}
use Rattle.base.proofs.{Says.denies, Says.says_true, StageLaws.stage_passes}
use Rattle.submission.specs.{Record.terms, Computed.checks1to4, Code.TableRead}
use Rattle.submission.proofs.Theory.ListedTerms.{facts}
use Rattle.deduction.specs.Computed.{entry_marks, is_deducible}
use Rattle.deduction.specs.Code.{SameMarks}
use Rattle.deduction.specs.Saturation.{AllReached}
use Rattle.deduction.specs.Code.{Marks, mark_of, Reached}
use Rattle.deduction.proofs.MarkArrays.{not_reached}
use Rattle.deduction.proofs.Theory.Exactness.{same_start}
use Rattle.witness.specs.{Computed.deduction_answer, Calls.DeductionWritten, Code.Chosen, Code.FromKnowledge, Code.answer_shown, Code.steps_bytes}
use Rattle.witness.proofs.Theory.DeductionAnswer.{refused_reading, refused_term, refused_sheet, answered_value}
use Rattle.witness.proofs.Theory.WrittenDeduction.{writes_refusal, writes_no, writes_deduction, sheet_enough, page_shows}
use Rattle.witness.proofs.Theory.DeductionLaws.{few_steps}
use Rattle.witness.proofs.ShownSteps.{started_iff, chosen_deduction}

-- a check that refuses, and the answer q with its refusal
module _ (s : List ℕ) (t : ℕ) (page : List ℕ) {T : Type 0} {r : Result T Refusal} {q : Result ℕ Refusal} {x : Refusal} (e : r ≡ Err x) (f : q ≡ Err x) where
  pub check_refused : check_of r ≡ checks1to4 s → DeductionWritten (λ a. answer_of q ≡ a) s t page page
  check_refused c = writes_refusal (refused_reading s t (length page) 0 _ _ (sym c ∙ ap check_of e)) (ap answer_of f)

  -- the table d has the bytes of s
  module _ {d : List ℕ} (v : TableRead d) (g : d ≡ s) where
    pub no_term : check_of r ≡ fails_if (not (ltb t (terms d))) 12 0 → DeductionWritten (λ a. answer_of q ≡ a) s t page page
    no_term c = rw (← g) (writes_refusal (refused_term d t (length page) 0 v.passed _ _ (sym c ∙ ap check_of e)) (ap answer_of f))

    pub short_sheet : {U : Type 0} {k : Result U Refusal} {y : U} → check_of k ≡ fails_if (not (ltb t (terms d))) 12 0 → k ≡ Ok y →
        check_of r ≡ fails_if (ltb (length page) 1000) 19 1000 → DeductionWritten (λ a. answer_of q ≡ a) s t page page
    short_sheet b h c = rw (← g) (writes_refusal (refused_sheet d t (length page) 0 v.passed _ _ (stage_passes _ b h) (sym c ∙ ap check_of e)) (ap answer_of f))

-- ---- no, or the steps of a yes
pub from_knowledge : {s : List ℕ} {marks : Marks} {order : List ℕ} {start : List Bool} {end : ℕ} → TableRead s → SameMarks s start (entry_marks s) → AllReached s start marks order end → FromKnowledge s marks order end
from_knowledge v m z = record {
  queue = z.queue;
  exact = λ n l. let e = same_start (facts v) m n l in (λ r. sym e ∙ (z.exact n l).0 r, λ d. (z.exact n l).1 (e ∙ d));
  known = started_iff v m z;
}

module _ {s : List ℕ} {t : ℕ} (v : TableRead s) (l : t < terms s) (page : List ℕ) (room : 1000 ≤ length page) where
  answer_is : (n : ℕ) (b : Bool) → is_deducible s (entry_marks s) t ≡ b → deduction_answer s t (length page) n ≡ done (cond b (suc n) 0)
  answer_is n b e = answered_value s t (length page) n v.passed l room ∙ ap (λ b. done (cond b (suc n) 0)) e

  pub no_returned : {marks : Marks} {order : List ℕ} {start : List Bool} {end w : ℕ} {b : Bool} → SameMarks s start (entry_marks s) → AllReached s start marks order end → w ≡ t →
      is_some (mark_of marks w) ≡ not b → b ≡ true → DeductionWritten (λ a. done 0 ≡ a) s t page page
  no_returned {marks} m z e d f =
      let none : is_some (mark_of marks t) ≡ false = rw (← e) (d ∙ ap not f) in
      let no : is_deducible s (entry_marks s) t ≡ false = (denies _ (says_true _)).1 (λ y. not_reached _ none (((from_knowledge v m z).exact t l).1 y)) in
      writes_no (answer_is 0 false no) refl

  pub yes_returned : {marks : Marks} {order chosen page' : List ℕ} {end from c : ℕ} → FromKnowledge s marks order end → Reached marks t → Chosen s marks t chosen from →
      page' ≡ sets page 0 (steps_bytes s marks (take (length chosen - from) (drop from chosen))) → c ≡ length (take (length chosen - from) (drop from chosen)) →
      DeductionWritten (λ a. done (suc c) ≡ a) s t page page'
  yes_returned {marks} {chosen = chosen} {from = from} z d c p f =
      let part = take (length chosen - from) (drop from chosen) in
      let long : length part ≡ 256 - from = omega (arith, c.steps.long, length-take-le (length chosen - from) (drop from chosen) (omega (arith, length-drop from chosen))) in
      let at : (i : ℕ) → i < 256 - from → get_or part i 0 ≡ get_or chosen (from + i) 0 =
      λ i b. get_or-take (length chosen - from) (drop from chosen) i 0 (omega (arith, c.steps.long)) ∙ get_or-drop from chosen i 0 in
      let x = chosen_deduction v z.known l c part long at in
      let written = steps_bytes s marks part in
      let fits : length written ≤ length page = omega (arith, sheet_enough (facts v) x) in
      writes_deduction (length part) written (answer_is (length part) true ((z.exact t l).0 d)) (ap (λ n. done (suc n)) f) x
      (p ∙ sets-eq written page 0 (omega arith) ∙ rw zero-add)

-- the count of the steps and one more is no larger than an answer can be
pub count_fits : {s : List ℕ} {t count : ℕ} {page page' : List ℕ} {o : Maybe ℕ} → TableRead s → DeductionWritten (λ a. answer_shown o ≡ a) s t page page' → o ≡ Some count → 1 + count < 65536
count_fits {count = count} v w e =
    let d = page_shows v.bytes w count (sym w.writes.answer ∙ ap answer_shown e) in
    omega (arith, few_steps d, (facts v).terms_most)
