-- A8's promises: every pool is one, and what has nothing that the first lacks adds nothing.
use mathlib.Core.Path.{◌≡◌, refl, sym, ap, ◌∙◌}
use mathlib.Core.Logic.{◌⊎◌, inl, inr, ⊎_elim}
use mathlib.Core.Bool.{not}
use mathlib.Core.List.{List, [], append-nil}
use Prim.Native.Nat.{ℕ, ◌≤◌}
use native.Mathlib.Omega.{arith}
use lib.ListN.{length}
use Rattle.base.specs.{Words.Bytes, Answer.done, Answer.Clear}
use Rattle.base.proofs.{Says.denies, RefusalLaws.passes_iff}
use Rattle.term.specs.Term.{Term}
use Rattle.submission.specs.{Record.terms, Record.entries, Record.entry_at, Record.term, Record.InKnowledge, Body.bodies_of, Body.body_at, Body.submission_of, Check.rows1to5, Code.SubmissionRead}
use Rattle.submission.proofs.Theory.{ListedTerms.Listed, ReadingRows.tells_1_to_5, ReadingRows.first_two, ListedTerms.claim_facts, ReadingRows.rows_clear}
use Rattle.form.proofs.Theory.RoundTrip.{form_promise}
use Rattle.pool.specs.{Pool.is_missing, Pool.missing, Pool.pool_number, Pool.is_entry, Pool.new_entries, Pool.pool, Pool.joined, Pool.Overfull, Computed.overfull, Computed.join_answer, Promise.Lists, Promise.JoinPromise}
use Rattle.pool.proofs.Theory.{JoinAnswer.Joinable, JoinAnswer.says_overfull, JoinAnswer.join_done, JoinAnswer.done_joinable, PoolLists.kept_none, PoolNumbers.InFirst, PoolNumbers.Missing, PoolNumbers.in_or_missing, PoolNumbers.number_same}
use Rattle.pool.proofs.Theory.{PoolBodies.pool_term_count, PoolBodies.pool_entry_count, PoolKnowledge.says_entry, PoolPassed.is_pool, PoolBytes.pool_bytes}

read : {a : List ℕ} → Bytes a → Clear (rows1to5 a) → SubmissionRead a
read {a} x c = record { bytes = x; passed = (passes_iff (tells_1_to_5 a x)).1 c }

-- ---- a second that has nothing that the first lacks
module _ {a b : List ℕ} (r : SubmissionRead a) (q : SubmissionRead b) (lists : (t : Term) → Lists b t → Lists a t) (knows : (t : Term) → InKnowledge b t → InKnowledge a t) where
  first : Listed a
  first = (claim_facts r).read

  second : Listed b
  second = (claim_facts q).read

  nothing_missing : missing a b (terms b) ≡ []
  unfolding missing
  nothing_missing =
      kept_none (is_missing a b) (λ j. j) (terms b) (λ j l.
      ⊎_elim (λ (f : InFirst a b j). f.present) (λ (m : Missing a b j). let (n, k, e) = lists (term b j) (j, l, refl) in absurd (m.lacks n k e)) (in_or_missing a b j))

  nothing_new : new_entries a b (entries b) ≡ []
  unfolding new_entries
  nothing_new =
      kept_none (λ k. not (is_entry a k)) (λ r. pool_number a b (entry_at b r)) (entries b) (λ r l.
      let (k, m, e) = knows (term b (entry_at b r)) (r, l, refl) in
      ap not ((says_entry a _).1 (k, m, sym (number_same first b (entry_at b r) (entry_at a k) (first.entry_below k m) e))))

  nothing_added : joined a b ≡ a
  unfolding pool
  nothing_added = ap submission_of same ∙ form_promise.written_again a r.bytes (first_two a (rows_clear r))
    where
      same : pool a b ≡ bodies_of a
      same = rw (nothing_missing, nothing_new, append-nil (body_at a 0), append-nil (body_at a 1))

  added_joinable : Joinable a b
  added_joinable = record { first = r; second = q; within = (denies (overfull a b) (says_overfull a b)).1 within }
    where
      within : Overfull a b → ⊥
      within (inl l) = omega (arith, pool_term_count b r, ap length nothing_missing, first.terms_most)
      within (inr l) = omega (arith, pool_entry_count b r, ap length nothing_new, first.entries_most)

  pub added_done : (joined a b ≡ a) × ((room : ℕ) → length a ≤ room → join_answer a b room ≡ done (length a))
  added_done = (nothing_added, λ room l. let e = ap length nothing_added in done_joinable a b room added_joinable (omega arith) ∙ ap done e)

-- a pool, joined with either again
module _ {a b : List ℕ} (h : Joinable a b) where
  abbrev p : List ℕ
  p = joined a b

  pool_read : SubmissionRead p
  pool_read = read (pool_bytes h) (is_pool h).passes

  again : (c : List ℕ) → (c ≡ a) ⊎ (c ≡ b) → (joined p c ≡ p) × ((sheet : ℕ) → length p ≤ sheet → join_answer p c sheet ≡ done (length p))
  again c (inl e) = rw e (added_done pool_read h.first (λ t l. ((is_pool h).terms_of_both t).1 (inl l)) (λ t k. ((is_pool h).knowledge_of_both t).1 (inl k)))
  again c (inr e) = rw e (added_done pool_read h.second (λ t l. ((is_pool h).terms_of_both t).1 (inr l)) (λ t k. ((is_pool h).knowledge_of_both t).1 (inr k)))

-- ---- the promises
pub join_promise : JoinPromise
join_promise = record {
  pooled = λ a b x y room n e. is_pool (join_done a b room x y n e).0;
  nothing_added = λ a b x y c d lists knows. added_done (read x c) (read y d) lists knows;
  again = λ a b x y room n e c o.
      let (h, l, _) = join_done a b room x y n e in
      let (f, g) = again h c o in
      (f, λ sheet m. g sheet (omega arith) ∙ ap done l);
  itself = λ a x c. added_done (read x c) (read x c) (λ t l. l) (λ t k. k);
}
