-- The records of the pool: the first's as they stand, then the renumbered ones of those of the second's terms that are missing.
use mathlib.Core.Path.{◌≡◌, refl, sym, ap, ◌∙◌}
use mathlib.Core.Logic.{◌⊎◌, inl, inr, ⊎_elim}
use mathlib.Core.Bool.{true, false≢true}
use mathlib.Core.List.{List, [], ◌∷◌, ◌++◌}
use Prim.Native.Nat.{ℕ, ◌+◌, ◌*◌, ◌-◌, ◌<◌}
use native.Mathlib.Omega.{arith}
use lib.ListN.{length, get_or-append}
use lib.Seq.{get_or-append-add}
use Rattle.base.specs.Words.{byte}
use Rattle.base.proofs.Order.{lt_or_ge}
use Rattle.submission.specs.{Record.start, Record.terms, Body.Bodies, Body.body_at}
use Rattle.form.proofs.Theory.RoundTrip.{body_byte}
use Rattle.pool.specs.{Pool.is_missing, Pool.missing, Pool.pool_number, Pool.renumbered, Pool.pool, Pool.joined, Code.missing_records}
use Rattle.pool.proofs.Theory.{JoinAnswer.Joinable, PoolLists.kept_place, PoolLists.kept_at, PoolLists.threes_at, PoolNumbers.rank, PoolNumbers.InFirst, PoolNumbers.Missing, PoolNumbers.in_or_missing, PoolNumbers.rank_less}
use Rattle.pool.proofs.Theory.MappedRecord.{record_bytes}
use Rattle.pool.proofs.Theory.PoolBodies.{own_length, renumbered_length, pool_reads, count_is}

-- ---- the three bytes of a record
-- byte j of record n
abbrev field : List ℕ → ℕ → ℕ → ℕ
field s n j = byte s (start s 0 + (3 * n + j))

row_fields : (s : List ℕ) (n : ℕ) → record_bytes s n ≡ field s n 0 ∷ field s n 1 ∷ field s n 2 ∷ []
row_fields s n =
    let e : start s 0 + 3 * n ≡ start s 0 + (3 * n + 0) = omega arith in
    let f : start s 0 + 3 * n + 1 ≡ start s 0 + (3 * n + 1) = omega arith in
    let g : start s 0 + 3 * n + 2 ≡ start s 0 + (3 * n + 2) = omega arith in
    rw (f, g, e)

three_bytes : (l : List ℕ) → length l ≡ 3 → byte l 0 ∷ byte l 1 ∷ byte l 2 ∷ [] ≡ l
three_bytes [] e = absurd (omega arith)
three_bytes (x ∷ []) e = absurd (omega arith)
three_bytes (x ∷ y ∷ []) e = absurd (omega arith)
three_bytes (x ∷ y ∷ z ∷ []) e = refl
three_bytes (x ∷ y ∷ z ∷ w ∷ l) e = absurd (omega arith)

-- ---- the pool's records
-- a term of the second that the test finds missing
missing_is : (a b : List ℕ) (j : ℕ) → is_missing a b j ≡ true → Missing a b j
missing_is a b j e = ⊎_elim (λ (f : InFirst a b j). absurd (false≢true (sym f.present ∙ e))) (λ m. m) (in_or_missing a b j)

module _ {a b : List ℕ} (h : Joinable a b) where
  abbrev p : List ℕ
  p = joined a b

  abbrev added : List ℕ
  added = missing_records a b (terms b)

  pub term_count : terms p ≡ terms a + rank a b (terms b)
  term_count = count_is h 0 (omega arith)

  term_byte : (i : ℕ) → i < 3 * terms p → byte p (start p 0 + i) ≡ byte (body_at a 0 ++ added) i
  unfolding pool
  term_byte i l = sym (body_byte p 0 i l) ∙ ap (λ (b : Bodies). byte b.terms i) (pool_reads h).bodies

  first_field : (n j : ℕ) → n < terms a → j < 3 → field p n j ≡ field a n j
  first_field n j l m =
      term_byte (3 * n + j) (omega (arith, term_count))
      ∙ get_or-append (body_at a 0) added 0 (3 * n + j) (omega (arith, own_length b h.first 0 (omega arith)))
      ∙ body_byte a 0 (3 * n + j) (omega arith)

  pub first_row : (n : ℕ) → n < terms a → record_bytes p n ≡ record_bytes a n
  first_row n l = row_fields p n ∙ rw (first_field n 0 l (omega arith), first_field n 1 l (omega arith), first_field n 2 l (omega arith)) (sym (row_fields a n))

  module _ (j : ℕ) (l : j < terms b) (z : Missing a b j) where
    missing_field : (i : ℕ) → i < 3 → field p (pool_number a b j) i ≡ byte (renumbered a b j) i
    unfolding missing
    missing_field i m =
        let (s, t) = kept_place (is_missing a b) (λ j. j) (terms b) j l z.absent in
        let e : 3 * pool_number a b j + i ≡ length (body_at a 0) + (3 * rank a b j + i) = omega (arith, z.is, own_length b h.first 0 (omega arith)) in
        term_byte (3 * pool_number a b j + i) (omega (arith, term_count, z.is, s)) ∙ ap (byte (body_at a 0 ++ added)) e
        ∙ get_or-append-add (body_at a 0) added (3 * rank a b j + i) 0
        ∙ threes_at (renumbered a b) (renumbered_length a b) (missing a b (terms b)) (rank a b j) i s m
        ∙ ap (λ x. byte (renumbered a b x) i) t

    pub missing_row : record_bytes p (pool_number a b j) ≡ renumbered a b j
    missing_row =
        row_fields p (pool_number a b j) ∙ rw (missing_field 0 (omega arith), missing_field 1 (omega arith), missing_field 2 (omega arith)) (three_bytes (renumbered a b j) (renumbered_length a b j))

  -- each number of the second is one of the pool's
  pub number_below : (j : ℕ) → j < terms b → pool_number a b j < terms p
  number_below j l = ⊎_elim
      (λ (f : InFirst a b j). omega (arith, f.is, f.below, term_count))
      (λ (z : Missing a b j). let m = rank_less a b j (terms b) l z.absent in omega (arith, z.is, term_count))
      (in_or_missing a b j)

  -- each of the pool's records is the first's, or that of one that is missing
  pub whose : (n : ℕ) → n < terms p → (n < terms a) ⊎ ((j : ℕ) × (j < terms b) × Missing a b j × (pool_number a b j ≡ n))
  unfolding missing
  whose n l = ⊎_elim
      (λ b. inl b)
      (λ m.
      let (j, q, e, g, _) = kept_at (is_missing a b) (λ j. j) (terms b) (n - terms a) (omega (arith, term_count)) in
      let z = missing_is a b j e in
      inr (j, q, z, omega (arith, z.is, g)))
      (lt_or_ge n (terms a))
