-- What the call leaves on its page: one law for each way out, and what a caller learns. `Says` is what the answer returned says.
use mathlib.Core.Path.{◌≡◌, refl, sym, ap, ap₂, ◌∙◌, subst}
use mathlib.Core.List.{List, [], ◌++◌}
use Prim.Native.Nat.{ℕ, suc, ◌*◌, ◌≤◌}
use native.Mathlib.Omega.{arith}
use lib.ListN.{length, take, drop}
use lib.Seq.{take-append_seam, drop-append_seam}
use Rattle.base.specs.Words.{Bytes}
use Rattle.base.specs.Answer.{Answer, done, refused, page_after}
use Rattle.base.proofs.AnswerLaws.{refused_page}
use Rattle.submission.proofs.Theory.ListedTerms.{Listed}
use Rattle.witness.specs.{Deduction.Deduction, Computed.deduction_answer, Calls.DeductionWritten}
use Rattle.witness.proofs.Theory.{DeductionAnswer.shown_yes, DeductionLaws.few_steps}

-- a page that isn't refused has room for it
pub sheet_enough : {s : List ℕ} {t n : ℕ} {l : List ℕ} → Listed s → Deduction s t n l → length l ≤ 1000
sheet_enough z d = omega (arith, d.long, few_steps d, z.terms_most)

module _ {Says : Answer → Type 0} {s : List ℕ} {t : ℕ} {page : List ℕ} where
  -- "Every refusal carries number and place, and the page keeps its bytes."
  pub writes_refusal : {number place : ℕ} → deduction_answer s t (length page) 0 ≡ refused number place → Says (refused number place) →
      DeductionWritten Says s t page page
  writes_refusal e h = record {
    steps = 0;
    written = [];
    writes = record { answer = subst Says (sym e) h; bytes = sym (ap (λ a. page_after a [] page) e) };
    shown = λ f. absurd (let z : ◌≡◌ {A = ℕ} 0 1 = cc in omega arith);
    nothing = λ f. absurd (let z : ◌≡◌ {A = ℕ} 0 1 = cc in omega arith);
  }

  -- "a "no" writes nothing"
  pub writes_no : deduction_answer s t (length page) 0 ≡ done 0 → Says (done 0) → DeductionWritten Says s t page page
  writes_no e h = record {
    steps = 0;
    written = [];
    writes = record { answer = subst Says (sym e) h; bytes = sym (ap (λ a. page_after a [] page) e) };
    shown = λ f. absurd (let z : ◌≡◌ {A = ℕ} 0 1 = cc in omega arith);
    nothing = λ f. refl;
  }

  -- a yes writes the deduction
  pub writes_deduction : {page' : List ℕ} (n : ℕ) (l : List ℕ) → deduction_answer s t (length page) n ≡ done (suc n) → Says (done (suc n)) →
      Deduction s t n l → page' ≡ l ++ drop (length l) page → DeductionWritten Says s t page page'
  writes_deduction n l e h d p = record {
    steps = n;
    written = l;
    writes = record { answer = subst Says (sym e) h; bytes = p ∙ sym (ap (λ a. page_after a l page) e) };
    shown = λ f. d;
    nothing = λ f. absurd (let z : ◌≡◌ {A = ℕ} 0 1 = cc in omega arith);
  }

-- the same call, with its answer said in another way
pub said_as : {Says Says' : Answer → Type 0} {s : List ℕ} {t : ℕ} {page page' : List ℕ} → ((a : Answer) → Says a → Says' a) →
    DeductionWritten Says s t page page' → DeductionWritten Says' s t page page'
said_as f w = record {
  steps = w.steps;
  written = w.written;
  writes = record { answer = f _ w.writes.answer; bytes = w.writes.bytes };
  shown = w.shown;
  nothing = w.nothing;
}

-- ---- what a caller learns
module _ {Says : Answer → Type 0} {s : List ℕ} {t : ℕ} {page page' : List ℕ} (b : Bytes s) (w : DeductionWritten Says s t page page') where
  -- a yes: the count is that of the steps that stand at the start of the page, four bytes each
  module _ (k : ℕ) (e : deduction_answer s t (length page) w.steps ≡ done (suc k)) where
    count_is : k ≡ w.steps
    count_is = (shown_yes s b t (length page) w.steps k e).0

    written_shows : Deduction s t w.steps w.written
    written_shows = w.shown (e ∙ ap (λ n. done (suc n)) count_is)

    page_is : page' ≡ w.written ++ drop (length w.written) page
    page_is = w.writes.bytes ∙ ap (λ a. page_after a w.written page) e

    length_is : 4 * k ≡ length w.written
    length_is = ap (λ n. 4 * n) count_is ∙ sym written_shows.long

    pub page_shows : Deduction s t k (take (4 * k) page')
    page_shows =
        let h : take (4 * k) page' ≡ w.written = ap₂ take length_is page_is ∙ take-append_seam w.written (drop (length w.written) page) in
        subst (λ l. Deduction s t k l) (sym h) (subst (λ n. Deduction s t n w.written) (sym count_is) written_shows)

    -- the bytes behind them are as before
    pub page_after_lem : drop (4 * k) page' ≡ drop (4 * k) page
    page_after_lem = ap₂ drop length_is page_is ∙ drop-append_seam w.written (drop (length w.written) page) ∙ ap (λ n. drop n page) (sym length_is)

  -- "a "no" writes nothing"
  pub no_page : deduction_answer s t (length page) w.steps ≡ done 0 → page' ≡ page
  no_page e = w.writes.bytes ∙ ap (λ a. page_after a w.written page) e ∙ ap (λ l. l ++ drop (length l) page) (w.nothing e)

  pub refused_page_kept : {number place : ℕ} → deduction_answer s t (length page) w.steps ≡ refused number place → page' ≡ page
  refused_page_kept e = w.writes.bytes ∙ refused_page w.written page e
