-- The submission that is made of the pool of two lists of bytes is a list of bytes.
use mathlib.Core.Path.{subst}
use mathlib.Core.Bool.{Bool, true, false, cond}
use mathlib.Core.List.{List, [], ◌∷◌, ◌++◌}
use mathlib.Core.Option.{some}
use Prim.Native.Nat.{ℕ, zero, suc, ◌≤◌, ◌<◌}
use native.Mathlib.Omega.{arith}
use lib.ListN.{take, drop}
use Rattle.std.specs.List.{flat_map}
use Rattle.std.proofs.lemmas.List.Elements.{filter-append}
use Rattle.std.proofs.lemmas.Grind.{flat_map-append}
use Rattle.base.specs.Words.{Bytes, not, grow, listed}
use Rattle.term.specs.Term.{Second, absent, anything, key_for, second, unary, Shape, atomic, compound}
use Rattle.submission.specs.Record.{letter, most, start_of, start, terms, entries, x_at, y_at, entry_at}
use Rattle.submission.specs.{Body.records, Body.contents_entry, Body.contents, Body.body_at, Body.submission_of, Check.HasSecond, Check.Shaped}
use Rattle.submission.proofs.Theory.{ListedTerms.Listed, ReadingRows.counts_within, ListedTerms.claim_facts}
use Rattle.form.proofs.Theory.RoundTrip.{counts}
use Rattle.pool.specs.{Pool.is_missing, Pool.missing, Pool.pool_number, Pool.operands, Pool.renumbered, Pool.is_entry, Pool.new_entries, Pool.pool, Pool.joined}
use Rattle.pool.proofs.Theory.{PoolNumbers.missing_none, PoolNumbers.missing_more, JoinAnswer.Joinable, PoolBodies.pool_reads, PoolRecords.number_below}

-- ---- lists of bytes, one by one
abbrev AllBytes : List ℕ → Type 0
AllBytes [] = Unit {0}
AllBytes (x ∷ s) = (x < 256) × AllBytes s

all_bytes : (s : List ℕ) → Bytes s → AllBytes s
all_bytes [] b = tt
all_bytes (x ∷ s) b = (b 0, all_bytes s (λ i. b (suc i)))

bytes_all : (s : List ℕ) → AllBytes s → Bytes s
bytes_all [] h i = omega arith
bytes_all (x ∷ s) h zero = h.0
bytes_all (x ∷ s) h (suc i) = bytes_all s h.1 i

all_append : (s t : List ℕ) → AllBytes s → AllBytes t → AllBytes (s ++ t)
all_append [] t h g = g
all_append (x ∷ s) t h g = (h.0, all_append s t h.1 g)

all_take : (n : ℕ) (s : List ℕ) → AllBytes s → AllBytes (take n s)
all_take zero s h = tt
all_take (suc n) [] h = tt
all_take (suc n) (x ∷ s) h = (h.0, all_take n s h.1)

all_drop : (n : ℕ) (s : List ℕ) → AllBytes s → AllBytes (drop n s)
all_drop zero s h = h
all_drop (suc n) [] h = tt
all_drop (suc n) (x ∷ s) h = all_drop n s h.1

all_body : (s : List ℕ) (i : ℕ) → Bytes s → AllBytes (body_at s i)
all_body s i b = all_take _ _ (all_drop (start s i) s (all_bytes s b))

all_four : (f : ℕ → List ℕ) → AllBytes (f 0) → AllBytes (f 1) → AllBytes (f 2) → AllBytes (f 3) → AllBytes (f 0 ++ f 1 ++ f 2 ++ f 3)
all_four f x y z w = all_append (f 0 ++ f 1 ++ f 2) (f 3) (all_append (f 0 ++ f 1) (f 2) (all_append (f 0) (f 1) x y) z) w

-- the contents of four counts within their limits
contents_bytes : (n : ℕ → ℕ) → ((i : ℕ) → i < 4 → n i ≤ most i) → AllBytes (contents n)
unfolding contents start_of
contents_bytes n l =
    all_four (contents_entry n)
    (entry 0 (omega arith) (omega (arith, few)) (omega arith))
    (entry 1 (omega arith) (omega (arith, few)) (omega (arith, few)))
    (entry 2 (omega arith) (omega (arith, few)) (omega (arith, few)))
    (entry 3 (omega arith) (omega (arith, few)) (omega (arith, few)))
  where
    few : (n 0 ≤ 250) × (n 1 ≤ 64) × (n 2 ≤ 128) × (n 3 ≤ 1)
    few = (l 0 (omega arith), l 1 (omega arith), l 2 (omega arith), l 3 (omega arith))

    entry : (i : ℕ) → letter i < 256 → n i < 256 → start_of n i < 65536 → AllBytes (contents_entry n i)
    entry i x y z = (x, (y, (omega arith, (omega arith, tt))))

-- ---- the pool of a and b, whose numbers are below 256
module _ (a b : List ℕ) (z : Listed b) (low : (j : ℕ) → j < terms b → pool_number a b j < 256) where
  second_bytes : (j : ℕ) → j < terms b → (o : Second) → HasSecond b j o → cond (unary o) (y_at b j) (pool_number a b (y_at b j)) < 256
  second_bytes j l absent f = z.bytes _
  second_bytes j l anything f = low _ (omega arith)
  second_bytes j l (key_for c) f = low _ (let g = f.0 in omega arith)

  operands_bytes : (j : ℕ) → j < terms b → (o : Shape) → Shaped b j o → AllBytes (operands (pool_number a b) (some o) (x_at b j) (y_at b j))
  operands_bytes j l (atomic κ) f = (z.bytes _, (z.bytes _, tt))
  operands_bytes j l (compound f) g = (low _ (let h = g.0 in omega arith), (second_bytes j l (second f) g.1, tt))

  renumbered_bytes : (j : ℕ) → j < terms b → AllBytes (renumbered a b j)
  renumbered_bytes j l = let g = z.good j l in (z.bytes _, rw g.has (operands_bytes j l g.shape g.fits))

  terms_bytes : (n : ℕ) → n ≤ terms b → AllBytes (flat_map (renumbered a b) (missing a b n))
  terms_bytes zero l = rw (missing_none a b) tt
  terms_bytes (suc n) l =
      rw (missing_more a b n, flat_map-append (renumbered a b) (missing a b n) (cond (is_missing a b n) (n ∷ []) []))
      (all_append _ _ (terms_bytes n (omega arith)) (go (is_missing a b n)))
    where
      go : (t : Bool) → AllBytes (flat_map (renumbered a b) (cond t (n ∷ []) []))
      go true = all_append (renumbered a b n) [] (renumbered_bytes n l) tt
      go false = tt

  entries_bytes : (n : ℕ) → n ≤ entries b → AllBytes (new_entries a b n)
  unfolding new_entries grow
  entries_bytes zero l = tt
  entries_bytes (suc n) l =
      rw (filter-append (λ k. not (is_entry a k)) (listed (λ r. pool_number a b (entry_at b r)) n) (pool_number a b (entry_at b n) ∷ []))
      (all_append _ _ (entries_bytes n (omega arith)) (go (is_entry a (pool_number a b (entry_at b n)))))
    where
      go : (t : Bool) → AllBytes (cond (not t) (pool_number a b (entry_at b n) ∷ []) [])
      go true = tt
      go false = (low _ (z.entry_below n l), tt)

-- the pool's submission
pub pool_bytes : {a b : List ℕ} → Joinable a b → Bytes (joined a b)
unfolding submission_of pool
pool_bytes {a} {b} h =
    let p = joined a b in
    let x : Bytes a = h.first.bytes in
    let z : Listed b = (claim_facts h.second).read in
    let within = counts_within p (pool_reads h).passes in
    let most_terms : terms p ≤ 250 = (within 0 (omega arith)).1 in
    let low : (j : ℕ) → j < terms b → pool_number a b j < 256 = λ j l. let m = number_below h j l in omega arith in
    let front : AllBytes (contents (records (pool a b))) = contents_bytes (records (pool a b)) (λ i l. subst (λ n. n ≤ most i) (counts (pool a b) i l) (within i l).1) in
    let t : AllBytes (body_at a 0 ++ flat_map (renumbered a b) (missing a b (terms b))) = all_append _ _ (all_body a 0 x) (terms_bytes a b z low (terms b) (omega arith)) in
    let k : AllBytes (body_at a 1 ++ new_entries a b (entries b)) = all_append _ _ (all_body a 1 x) (entries_bytes a b z low (entries b) (omega arith)) in
    bytes_all p (all_append _ _ (all_append _ _ (all_append _ _ (all_append _ _ front t) k) (all_body a 2 x)) (all_body a 3 x))
