-- The pool passes checks 1 to 5: its claim is the first's, over the same steps and no fewer terms.
use mathlib.Core.Path.{◌≡◌, sym, ap, ◌∙◌}
use mathlib.Core.Logic.{inl, inr, ⊎_elim}
use mathlib.Core.List.{List}
use Prim.Native.Nat.{ℕ, ◌+◌, ◌<◌}
use native.Mathlib.Omega.{arith}
use Rattle.base.specs.{Words.byte, Answer.Clear}
use Rattle.term.specs.{Term.asymmetric, Term.is_key_for, Number.shape_of}
use Rattle.submission.specs.{Record.count, Record.start, Record.terms, Record.kind_at, Record.guess, Record.verifying, Record.companion, Body.Bodies, Body.body_at}
use Rattle.submission.specs.Check.{way_of, the_guess, its_inverse, Claims, verifier, derived, Range, step_number, term_number, zero_only, step_or_knowledge, row, InRange, GuessFits, FitsWay, ClaimFits, rows1to5}
use Rattle.submission.proofs.Theory.{ListedTerms.Claimed, ReadingRows.first_two, ReadingRows.one_claim, ListedTerms.claim_facts, ReadingRows.rows_clear}
use Rattle.form.proofs.Theory.SameBodies.{same_byte, same_first}
use Rattle.pool.specs.Pool.{pool, joined}
use Rattle.pool.specs.Promise.{IsPool}
use Rattle.pool.proofs.Theory.{JoinAnswer.Joinable, PoolBodies.pool_reads, PoolBodies.count_is, PoolRecords.term_count, PoolTable.first_kind, PoolTable.first_term, PoolTable.second_term, PoolTable.terms_of_both, PoolTable.term_good, PoolKnowledge.entry_good}
use Rattle.pool.proofs.Theory.{PoolKnowledge.knowledge_of_both}

module _ {a b : List ℕ} (h : Joinable a b) where
  abbrev p : List ℕ
  p = joined a b

  claim : Claimed a
  claim = claim_facts h.first

  -- ---- the claim's bytes
  one : count p 3 ≡ 1
  one = count_is h 3 (omega arith)

  same_count : count p 3 ≡ count a 3
  same_count = one ∙ sym (one_claim a (first_two a (rows_clear h.first)))

  same_claim : body_at p 3 ≡ body_at a 3
  unfolding pool
  same_claim = ap (λ (b : Bodies). b.claim) (pool_reads h).bodies

  pub claim_byte : (j : ℕ) → j < 4 → byte p (start p 3 + j) ≡ byte a (start a 3 + j)
  claim_byte j l = same_byte p a 3 same_count same_claim j (omega (arith, one))

  pub guess_same : guess p ≡ guess a
  guess_same = same_first p a 3 same_count same_claim (omega (arith, one))

  guess_kind : kind_at p (guess p) ≡ kind_at a (guess a)
  guess_kind = ap (kind_at p) guess_same ∙ first_kind h (guess a) claim.guess_below

  -- ---- what fits the claim fits it in the pool
  range_kept : (r : Range) (n : ℕ) → InRange a r n → InRange p r n
  range_kept step_number n l = omega (arith, count_is h 2 (omega arith))
  range_kept term_number n l = omega (arith, term_count h)
  range_kept zero_only n l = l
  range_kept step_or_knowledge n l = ⊎_elim (λ u. inl (omega (arith, count_is h 2 (omega arith)))) (λ e. inr e) l

  guess_kept : (k : Claims) → GuessFits a k → GuessFits p k
  guess_kept verifier g = tt
  guess_kept (derived the_guess) g = tt
  guess_kept (derived its_inverse) g = ap (λ k. is_key_for asymmetric (shape_of k)) guess_kind ∙ g

  way_kept : FitsWay p claim.way
  way_kept = (
    guess_kept (row claim.way).claims claim.guess_fits_lem,
    (
      range_kept (row claim.way).step (verifying p) (rw (claim_byte 1 (omega arith)) claim.step_range),
      range_kept (row claim.way).companion (companion p) (rw (claim_byte 3 (omega arith)) claim.in_range_lem),
    ),
  )

  claim_fits : ClaimFits p
  claim_fits =
      let l : guess p < terms p = omega (arith, guess_same, claim.guess_below, term_count h) in
      (l, ((claim.guess_kind, ap shape_of guess_kind ∙ claim.guess_shape), (claim.way, ap way_of (claim_byte 2 (omega arith)) ∙ claim.has_way, way_kept)))

  -- ---- checks 1 to 5
  pool_clear : Clear (rows1to5 p)
  pool_clear =
      let c = (pool_reads h).passes in
      (c.0, (c.1.0, ((λ m i (_, (l, w)). term_good h i l w), ((λ m i (_, (l, w)). entry_good h i l w), ((λ m q (_, (_, f)). f claim_fits), tt)))))

  pub is_pool : IsPool a b p
  is_pool = record {
    passes = pool_clear;
    reads = pool_reads h;
    terms_of_both = terms_of_both h;
    knowledge_of_both = knowledge_of_both h;
    first_number = first_term h;
    second_number = second_term h;
  }
