-- The returns of the call: a page that is too short, and the bytes on the page.
use mathlib.Core.Path.{◌≡◌, sym, ap, ◌∙◌, subst}
use mathlib.Core.List.{List, [], ◌∷◌, ◌++◌}
use Prim.Native.Nat.{ℕ, ◌+◌, ◌≤◌, ◌<◌}
use native.Mathlib.Numerals.{add-one}
use native.Mathlib.Omega.{arith}
use lib.ListN.{length, get_or, take, drop}
use lib.Seq.{length-take-le, take_all}
use borrow.Author.Tests.{ltb-false}
use Rattle.std.specs.Prelude.{Option, None, Result, Ok, Err, unwrap_or}
use Rattle.std.proofs.lemmas.List.{get_or-take}
use Rattle.base.specs.{Words.grow, Words.listed, Answer.number_of, Code.Wrote, Code.check_of, Computed.fails, Computed.passes, Computed.check_room}
use Rattle.base.specs.declared.refusal.Refusal.{Refusal}
use Rattle.base.specs.declared.writer.Writer.{Writer}
use Rattle.base.proofs.{Grow.length_listed, PutLaws.wrote_none, PutLaws.wrote_then, PutLaws.wrote_out, PutLaws.puts_front, AnswerLaws.if_passes, StageLaws.stage_passes}
use Rattle.submission.specs.{Record.terms, Code.TableRead}
use Rattle.submission.proofs.Theory.ListedTerms.{facts}
use Rattle.inverse.specs.{Computed.inverse_of, Computed.inverses_of, Computed.inverses_answer, Code.Inverses, Calls.InversesWritten}
use Rattle.inverse.proofs.Theory.InverseKeys.{page_byte}

-- ---- the loop of `write_found`: the bytes of the first i terms are written
pub record Writing (s : List ℕ) (w : Writer) (i : ℕ) (v : Writer) : Type 0 where
  pub within : i ≤ terms s
  pub wrote : Wrote w (listed (inverse_of s) i) v

pub writing_none : {s : List ℕ} {w : Writer} → Writing s w 0 w
unfolding grow
writing_none = record { within = omega arith; wrote = wrote_none }

module _ {s : List ℕ} {l : List (Option ℕ)} {n : ℕ} (t : TableRead s) (e : n ≡ terms s) (i : Inverses s l) where
  pub first_terms : length (take n l) ≡ terms s
  first_terms = length-take-le n l (omega (arith, i.long, (facts t).terms_most)) ∙ e

  pub writing_more : {w v u : Writer} {k b : ℕ} → Writing s w k v → k < length (take n l) → b ≡ unwrap_or (get_or (take n l) k None) 255 → Wrote v (b ∷ []) u → Writing s w (k + 1) u
  unfolding grow
  writing_more {k = k} p m f x =
      let o : k < terms s = omega (arith, first_terms) in
      let h : unwrap_or (get_or (take n l) k None) 255 ≡ inverse_of s k = rw (get_or-take n l k None (omega arith), i.is k o) (page_byte s k) in
      record { within = omega arith; wrote = rw (add-one k) (wrote_then p.wrote (rw (f, h) at x)) }

-- ---- the returns
module _ {s : List ℕ} (page : List ℕ) {T : Type 0} {r : Result T Refusal} {n : ℕ} (t : TableRead s) (e : n ≡ terms s) (f : check_of r ≡ check_room n (length page)) where
  pub page_short : {q : Result ℕ Refusal} {x : Refusal} → r ≡ Err x → q ≡ Err x → InversesWritten s page q page
  unfolding inverses_answer
  page_short {x = x} g h =
      let z : check_room (terms s) (length page) ≡ fails (number_of x.fault) x.place = rw (← e) (sym f ∙ ap check_of g) in
      record { answer = rw (t.passed, z, h); bytes = rw (t.passed, z) }

  pub page_found : {x : T} {w v : Writer} {page' : List ℕ} {k : ℕ} → r ≡ Ok x → w.buffer.now ≡ page → w.at ≡ 0 → Writing s w k v → {j : ℕ} → j ≡ terms s → j ≤ k →
      page' ≡ v.buffer.now → InversesWritten s page (Ok n) page'
  unfolding inverses_answer inverses_of
  page_found {page' = page'} {k = k} g a b p h m c =
      let z : check_room (terms s) (length page) ≡ passes = rw (← e) (stage_passes _ f g) in
      let o : terms s ≤ length page = ltb-false _ _ ((if_passes _ 11 (terms s)).0 z) in
      let d : k ≡ terms s = omega (arith, p.within) in
      let l : length (listed (inverse_of s) k) ≡ k = length_listed (inverse_of s) k in
      let q = puts_front (wrote_out p.wrote a b c) ∙ rw (take_all (length page) (listed (inverse_of s) k) (omega arith)) in
      record { answer = rw (t.passed, z, e); bytes = rw (t.passed, z) (subst (λ j. page' ≡ listed (inverse_of s) j ++ drop (length (listed (inverse_of s) j)) page) d q) }
