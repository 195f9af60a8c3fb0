-- Check 20 and the page: a law for each return of `write_pool`.
use mathlib.Core.Path.{◌≡◌, sym, ap, ◌∙◌}
use mathlib.Core.Bool.{true, false, or-true}
use mathlib.Core.List.{List, ◌++◌}
use Prim.Native.Nat.{ℕ}
use native.Mathlib.Omega.{arith}
use lib.ListN.{length, replicate, length-replicate}
use lib.Dec.{ltb}
use Rattle.std.specs.Prelude.{Result, Ok, Err}
use Rattle.base.specs.declared.refusal.Refusal.{Refusal}
use Rattle.pool.proofs.MostLaws.{most_passed, most_failed}
use Rattle.base.specs.{Answer.refused, Answer.number_of, Answer.answer_of, Code.check_of}
use Rattle.submission.specs.{Record.most, Record.terms, Record.entries, Body.Bodies, Body.bodies, Body.records, Body.body_at, Body.bodies_of, Code.SubmissionRead, Code.TableRead}
use Rattle.form.specs.{Computed.write_answer, Calls.FormWritten}
use Rattle.pool.specs.declared.numbers.Numbers.{Numbers}
use Rattle.pool.specs.{Pool.pool, Pool.new_entries, Computed.overfull, Computed.join_answer, Code.check_most, Code.terms_to, Code.entries_to, Code.missing_records, Code.Noted, Calls.PoolWritten}
use Rattle.pool.proofs.Theory.{PoolBodies.pool_term_count, PoolBodies.pool_entry_count, PoolBodies.pool_writable, PoolNumbers.missing_none}
use Rattle.submission.proofs.Theory.ListedTerms.{facts}

-- before the second's terms are looked up
pub noted_none : {a b : List ℕ} {n : ℕ} {numbers : Numbers} → TableRead a → n ≡ terms a → numbers.of ≡ replicate 256 0 → numbers.next ≡ n → Noted a b 0 numbers
noted_none {a} {b} z e f g = record {
  within = omega arith;
  long = ap length f ∙ length-replicate {A = ℕ} 256 0;
  is = λ j l. absurd (omega arith);
  next = g ∙ e ∙ rw (missing_none a b) (omega arith);
  few = omega (arith, (facts z).terms_most);
}

-- the bodies that are written
pub bodies_are : (a b : List ℕ) {t k : List ℕ} {own : Bodies} → t ≡ body_at a 0 ++ missing_records a b (terms b) → k ≡ body_at a 1 ++ new_entries a b (entries b) → own ≡ bodies_of a →
    bodies t k own.derivation own.claim ≡ pool a b
unfolding pool
bodies_are a b e f g = rw (e, f, g)

module _ (a b page : List ℕ) where
  -- the answer is a refusal, and the page stays
  refused_written : {number place : ℕ} (r : Result ℕ Refusal) → join_answer a b (length page) ≡ refused number place → answer_of r ≡ refused number place → PoolWritten a b page r page
  refused_written r e f = record { answer = f ∙ sym e; bytes = rw e }

-- ---- check 20, of the terms and of the entries
module _ {a b : List ℕ} (y : SubmissionRead a) (z : SubmissionRead b) where
  -- the two tests of check 20
  terms_tested : ltb (most 0) (records (pool a b) 0) ≡ ltb (most 0) (terms_to a b (terms b))
  terms_tested = ap (ltb (most 0)) (pool_term_count b y)

  entries_tested : ltb (most 1) (records (pool a b) 1) ≡ ltb (most 1) (entries_to a b (entries b))
  entries_tested = ap (ltb (most 1)) (pool_entry_count b y)

  module _ (page : List ℕ) where
    overfull_refused : (q : Result ℕ Refusal) (x : Refusal) → overfull a b ≡ true → (number_of x.fault ≡ 20) × (x.place ≡ 0) → answer_of q ≡ refused (number_of x.fault) x.place → PoolWritten a b page q page
    unfolding join_answer
    overfull_refused q x e (f, g) h = refused_written a b page {number = 20} {place = 0} q (rw (y.passed, z.passed, e)) (h ∙ rw (f, g))

    pub terms_refused : {T : Type 0} {r : Result T Refusal} {x : Refusal} (q : Result ℕ Refusal) → check_of r ≡ check_most 0 (terms_to a b (terms b)) → r ≡ Err x →
        answer_of q ≡ refused (number_of x.fault) x.place → PoolWritten a b page q page
    terms_refused {x = x} q e f h = let (t, u, v) = most_failed 0 (terms_to a b (terms b)) e f in overfull_refused q x (rw (terms_tested, t)) (u, v) h

    pub entries_refused : {T : Type 0} {r : Result T Refusal} {x : Refusal} (q : Result ℕ Refusal) → check_of r ≡ check_most 1 (entries_to a b (entries b)) → r ≡ Err x →
        answer_of q ≡ refused (number_of x.fault) x.place → PoolWritten a b page q page
    entries_refused {x = x} q e f h = let (t, u, v) = most_failed 1 (entries_to a b (entries b)) e f in overfull_refused q x (rw (entries_tested, t, or-true)) (u, v) h

    -- ---- the pool is written
    pub pool_written : {T U : Type 0} {r : Result T Refusal} {q : Result U Refusal} {u : T} {v : U} → check_of r ≡ check_most 0 (terms_to a b (terms b)) → r ≡ Ok u →
        check_of q ≡ check_most 1 (entries_to a b (entries b)) → q ≡ Ok v → (w : Result ℕ Refusal) {page' : List ℕ} {B : Bodies} → B ≡ pool a b → FormWritten B page w page' → PoolWritten a b page w page'
    unfolding join_answer write_answer
    pool_written e f g h w i p =
        let o : overfull a b ≡ false = rw (terms_tested, entries_tested, most_passed 0 _ e f, most_passed 1 _ g h) in
        let k = pool_writable (record { first = y; second = z; within = o }) in
        let x : join_answer a b (length page) ≡ write_answer (pool a b) (length page) = rw (y.passed, z.passed, o, k.whole, k.limited) in
        rw (x, ← i) p
