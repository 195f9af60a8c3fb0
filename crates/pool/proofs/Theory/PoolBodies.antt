-- The bodies of the pool: how many records each has, and that writing them and reading what was written gives them again.
use mathlib.Core.Path.{◌≡◌, refl, ◌∙◌}
use mathlib.Core.Logic.{inl, inr, ⊎_elim}
use mathlib.Core.List.{List, [], ◌∷◌}
use mathlib.Core.Option.{Option, none, some}
use Prim.Native.Nat.{ℕ, ◌+◌, ◌*◌, ◌≤◌, ◌<◌}
use native.Mathlib.Omega.{arith}
use lib.ListN.{length, get_or, length-append}
use Rattle.base.proofs.{Order.lt_or_ge, Says.each_of_four}
use Rattle.term.specs.{Term.Shape, Term.atomic, Term.compound, Number.shape_of}
use Rattle.submission.specs.{Record.count, Record.width, Record.least, Record.most, Record.terms, Record.entries, Record.steps, Record.kind_at, Record.x_at, Record.y_at, Body.body, Body.records, Body.body_at, Code.SubmissionRead}
use Rattle.submission.proofs.Theory.{ListedTerms.claim_facts, ReadingRows.rows_clear, ReadingRows.first_two, ReadingRows.one_claim}
use Rattle.form.specs.{Write.ReadsAs, Code.Writable}
use Rattle.form.proofs.Theory.{RoundTrip.counts, RoundTrip.counted, RoundTrip.whole_written, RoundTrip.reads_as, RoundTrip.body_length, WriteAnswer.written_writable}
use Rattle.pool.specs.Pool.{missing, pool_number, operands, renumbered, new_entries, pool, joined}
use Rattle.pool.proofs.Theory.{JoinAnswer.Joinable, JoinAnswer.not_overfull, PoolLists.threes_length, PoolNumbers.rank}

-- ---- the counts
-- each of the renumbered records has three bytes
pub renumbered_length : (a b : List ℕ) (j : ℕ) → length (renumbered a b j) ≡ 3
renumbered_length a b j = go (shape_of (kind_at b j))
  where
    go : (o : Option Shape) → length (kind_at b j ∷ operands (pool_number a b) o (x_at b j) (y_at b j)) ≡ 3
    go none = refl
    go (some (atomic κ)) = refl
    go (some (compound f)) = refl

-- the counts of the pool's records
abbrev pub pool_counts : List ℕ → List ℕ → ℕ → ℕ
pool_counts a b i = get_or ((terms a + rank a b (terms b)) ∷ (entries a + length (new_entries a b (entries b))) ∷ steps a ∷ 1 ∷ []) i 0

module _ {a : List ℕ} (b : List ℕ) (r : SubmissionRead a) where
  pub own_length : (i : ℕ) → i < 4 → length (body_at a i) ≡ width i * count a i
  own_length = body_length a r.bytes (first_two a (rows_clear r))

  -- each body is whole records
  pool_whole : (i : ℕ) → i < 4 → length (body (pool a b) i) ≡ width i * pool_counts a b i
  unfolding pool
  pool_whole =
      each_of_four (λ i. length (body (pool a b) i) ≡ width i * pool_counts a b i)
      (length-append (body_at a 0) _ ∙ omega (arith, own_length 0 (omega arith), threes_length (renumbered a b) (renumbered_length a b) (missing a b (terms b))))
      (length-append (body_at a 1) _ ∙ omega (arith, own_length 1 (omega arith)))
      (own_length 2 (omega arith))
      (omega (arith, own_length 3 (omega arith), one_claim a (first_two a (rows_clear r))))

  pub pool_term_count : records (pool a b) 0 ≡ terms a + rank a b (terms b)
  pool_term_count = omega (arith, pool_whole 0 (omega arith))

  pub pool_entry_count : records (pool a b) 1 ≡ entries a + length (new_entries a b (entries b))
  pool_entry_count = omega (arith, pool_whole 1 (omega arith))

-- ---- the submission of the pool
module _ {a b : List ℕ} (h : Joinable a b) where
  abbrev p : List ℕ
  p = joined a b

  pool_within : (i : ℕ) → i < 4 → (least i ≤ pool_counts a b i) × (pool_counts a b i ≤ most i)
  pool_within =
      let z = (claim_facts h.first).read in
      each_of_four (λ i. (least i ≤ pool_counts a b i) × (pool_counts a b i ≤ most i))
      (omega (arith, z.terms_least), ⊎_elim (λ l. absurd (not_overfull h (inl l))) (λ l. omega (arith, pool_term_count b h.first)) (lt_or_ge (most 0) (records (pool a b) 0)))
      (omega arith, ⊎_elim (λ l. absurd (not_overfull h (inr l))) (λ l. omega (arith, pool_entry_count b h.first)) (lt_or_ge (most 1) (records (pool a b) 1)))
      (omega arith, z.steps_most) (omega arith, omega arith)

  -- the bodies pass checks 14 and 2
  pub pool_writable : Writable (pool a b)
  pool_writable = written_writable (pool a b) (length p) (whole_written (pool a b) (pool_counts a b) (pool_whole b h.first) pool_within (length p) (omega arith))

  pub pool_reads : ReadsAs p (pool a b)
  pool_reads = reads_as (pool a b) (pool_counts a b) (pool_whole b h.first) pool_within

  pub count_is : (i : ℕ) → i < 4 → count p i ≡ pool_counts a b i
  count_is i l = counts (pool a b) i l ∙ counted (pool a b) (pool_counts a b) (pool_whole b h.first) pool_within i l
