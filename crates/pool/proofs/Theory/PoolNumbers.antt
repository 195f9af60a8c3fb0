-- The pool's numbers of the second submission's terms, and when a record of the first is the renumbered record of one of them.
use mathlib.Core.Path.{◌≡◌, refl, sym, ap, ap₂, ◌∙◌, subst}
use mathlib.Core.Logic.{◌⊎◌, inl, inr, ⊎_elim}
use mathlib.Core.Bool.{Bool, true, false, cond}
use mathlib.Core.List.{List, [], ◌∷◌, ◌++◌}
use mathlib.Core.Option.{Option, none, some}
use Prim.Native.Nat.{ℕ, suc, ◌+◌, ◌*◌, ◌≤◌, ◌<◌}
use native.Mathlib.Nat.{add-zero}
use native.Mathlib.Omega.{arith}
use lib.ListN.{length, length-append}
use Rattle.base.specs.Words.{grow}
use Rattle.term.specs.Term.{Second, absent, anything, key_for, second, unary, make, atom, node, Shape, atomic, compound, shape}
use Rattle.term.specs.Number.{shape_of}
use Rattle.term.proofs.KindLaws.{shape_kind}
use Rattle.submission.specs.{Record.terms, Record.kind_at, Record.x_at, Record.y_at, Record.name_at, Record.term, Record.number_in, Record.is_unlisted, Check.HasSecond, Check.Shaped}
use Rattle.submission.proofs.Theory.{GoodRecord.name_bytes, ListedTerms.Listed, ListedNumbers.number_some, ListedNumbers.number_none, ListedNumbers.number_unique, ListedNumbers.record_term, ListedNumbers.listed_shape}
use Rattle.pool.specs.Pool.{is_missing, missing, pool_number, renumbered}
use Rattle.pool.proofs.Theory.{MappedRecord.record_bytes, PoolLists.kept_more, PoolLists.kept_rises}

-- ---- one term more
pub missing_none : (a b : List ℕ) → missing a b 0 ≡ []
unfolding missing grow
missing_none a b = refl

pub missing_more : (a b : List ℕ) (n : ℕ) → missing a b (suc n) ≡ missing a b n ++ cond (is_missing a b n) (n ∷ []) []
unfolding missing
missing_more a b n = kept_more (is_missing a b) (λ j. j) n

-- how many are missing before term n
abbrev pub rank : List ℕ → List ℕ → ℕ → ℕ
rank a b n = length (missing a b n)

-- ---- the second's term j is listed in the first, or missing
pub record InFirst (a b : List ℕ) (j : ℕ) : Type 0 where
  pub number : ℕ
  pub below : number < terms a
  pub same : term b j ≡ term a number
  pub is : pool_number a b j ≡ number
  pub present : is_missing a b j ≡ false

pub record Missing (a b : List ℕ) (j : ℕ) : Type 0 where
  pub lacks : (n : ℕ) → n < terms a → term b j ≡ term a n → ⊥
  pub is : pool_number a b j ≡ terms a + rank a b j
  pub absent : is_missing a b j ≡ true

pub in_or_missing : (a b : List ℕ) (j : ℕ) → InFirst a b j ⊎ Missing a b j
unfolding pool_number
in_or_missing a b j = go (number_in a (term b j)) refl
  where
    go : (o : Option ℕ) → number_in a (term b j) ≡ o → InFirst a b j ⊎ Missing a b j
    go none e = inr (record { lacks = number_none a (term b j) e; is = rw (e, pool_number); absent = rw (e, is_unlisted) })
    go (some n) e = let (l, h) = number_some a (term b j) n e in inl (record { number = n; below = l; same = h; is = rw (e, pool_number); present = rw (e, is_unlisted) })

module _ (a b : List ℕ) where
  rank_next : (n : ℕ) → rank a b (suc n) ≡ rank a b n + cond (is_missing a b n) 1 0
  rank_next n = ap length (missing_more a b n) ∙ length-append (missing a b n) _ ∙ ap (λ k. rank a b n + k) (go (is_missing a b n))
    where
      go : (t : Bool) → length (cond t (n ∷ []) []) ≡ cond t 1 0
      go true = refl
      go false = refl

  pub rank_missing : (n : ℕ) → is_missing a b n ≡ true → rank a b (suc n) ≡ rank a b n + 1
  rank_missing n e = rank_next n ∙ rw e

  pub rank_present : (n : ℕ) → is_missing a b n ≡ false → rank a b (suc n) ≡ rank a b n
  rank_present n e = rank_next n ∙ rw e (add-zero (rank a b n))

  -- more terms, no fewer missing
  pub rank_kept : (j n : ℕ) → j ≤ n → rank a b j ≤ rank a b n
  unfolding missing
  rank_kept = kept_rises (is_missing a b) (λ j. j)

  -- a missing term counts for those after it
  pub rank_less : (j n : ℕ) → j < n → is_missing a b j ≡ true → rank a b j < rank a b n
  rank_less j n l e = let m = rank_kept (suc j) n l in omega (arith, rank_missing j e)

-- ---- the numbers of terms that the first lists
module _ {a : List ℕ} (z : Listed a) (b : List ℕ) where
  -- a number below the first's count is that of the same term
  pub number_low : (j : ℕ) → pool_number a b j < terms a → term b j ≡ term a (pool_number a b j)
  number_low j l = ⊎_elim (λ (p : InFirst a b j). p.same ∙ ap (term a) (sym p.is)) (λ (p : Missing a b j). absurd (omega (arith, p.is))) (in_or_missing a b j)

  pub number_same : (j n : ℕ) → n < terms a → term b j ≡ term a n → pool_number a b j ≡ n
  unfolding pool_number
  number_same j n l e = rw (number_unique a (term b j) z n l e, pool_number)

-- ---- record n of the first and the renumbered record of the second's term j
module _ {a b : List ℕ} (z : Listed a) (y : Listed b) (n j : ℕ) (l : n < terms a) (m : j < terms b) where
  -- the second operands
  second_same : (o : Second) → HasSecond a n o → HasSecond b j o → x_at a n < n → x_at b j < j → pool_number a b (x_at b j) ≡ x_at a n →
      y_at a n ≡ cond (unary o) (y_at b j) (pool_number a b (y_at b j)) →
      term b (cond (unary o) (x_at b j) (y_at b j)) ≡ term a (cond (unary o) (x_at a n) (y_at a n))
  second_same absent f g p q e h = number_low z b (x_at b j) (omega arith) ∙ ap (term a) e
  second_same anything f g p q e h = number_low z b (y_at b j) (omega arith) ∙ ap (term a) (sym h)
  second_same (key_for c) f g p q e h = let k = f.0 in number_low z b (y_at b j) (omega arith) ∙ ap (term a) (sym h)

  -- equal records have equal terms
  pub same_row : record_bytes a n ≡ renumbered a b j → term b j ≡ term a n
  same_row e = go (y.good j m).shape (y.good j m).has (y.good j m).fits (z.good n l).fits
    where
      kinds : kind_at a n ≡ kind_at b j
      kinds = cc

      go : (o : Shape) → shape_of (kind_at b j) ≡ some o → Shaped b j o → Shaped a n (z.good n l).shape → term b j ≡ term a n
      go (atomic κ) h f g =
          let i : shape_of (kind_at a n) ≡ some (atomic κ) = ap shape_of kinds ∙ h in
          let r : record_bytes a n ≡ kind_at b j ∷ x_at b j ∷ y_at b j ∷ [] = rw h at e in
          let p : x_at a n ≡ x_at b j = cc in
          let q : y_at a n ≡ y_at b j = cc in
          record_term y j (atomic κ) m h ∙ ap (atom κ) (ap₂ (λ u v. u * 256 + v) (sym p) (sym q)) ∙ sym (record_term z n (atomic κ) l i)
      go (compound k) h f g =
          let i : shape_of (kind_at a n) ≡ some (compound k) = ap shape_of kinds ∙ h in
          let w : some (z.good n l).shape ≡ some (compound k) = sym (z.good n l).has ∙ i in
          let s : (z.good n l).shape ≡ compound k = cc in
          let g' : Shaped a n (compound k) = subst (Shaped a n) s g in
          let r : record_bytes a n ≡ kind_at b j ∷ pool_number a b (x_at b j) ∷ cond (unary (second k)) (y_at b j) (pool_number a b (y_at b j)) ∷ [] = rw h at e in
          let p : pool_number a b (x_at b j) ≡ x_at a n = cc in
          let q : y_at a n ≡ cond (unary (second k)) (y_at b j) (pool_number a b (y_at b j)) = cc in
          let t : term b (x_at b j) ≡ term a (x_at a n) = number_low z b (x_at b j) (let w = g'.0 in omega arith) ∙ ap (term a) p in
          record_term y j (compound k) m h ∙ ap₂ (node (make k)) t (second_same (second k) g'.1 f.1 g'.0 f.0 p q) ∙ sym (record_term z n (compound k) l i)

  -- equal terms have equal records
  second_row : (o : Second) → HasSecond a n o → HasSecond b j o → x_at b j < terms b → term b (cond (unary o) (x_at b j) (y_at b j)) ≡ term a (cond (unary o) (x_at a n) (y_at a n)) →
      y_at a n ≡ cond (unary o) (y_at b j) (pool_number a b (y_at b j))
  second_row absent f g p e = f ∙ sym g
  second_row anything f g p e = sym (number_same z b (y_at b j) (y_at a n) (omega arith) e)
  second_row (key_for c) f g p e = let k = f.0 in sym (number_same z b (y_at b j) (y_at a n) (omega arith) e)

  pub same_term : term b j ≡ term a n → record_bytes a n ≡ renumbered a b j
  same_term e = go (y.good j m).shape (y.good j m).has (y.good j m).fits (z.good n l).fits
    where
      shapes : shape_of (kind_at a n) ≡ shape_of (kind_at b j)
      shapes = sym (listed_shape z n l) ∙ ap shape (sym e) ∙ listed_shape y j m

      go : (o : Shape) → shape_of (kind_at b j) ≡ some o → Shaped b j o → Shaped a n (z.good n l).shape → record_bytes a n ≡ renumbered a b j
      go (atomic κ) h f g =
          let i : shape_of (kind_at a n) ≡ some (atomic κ) = shapes ∙ h in
          let k : kind_at a n ≡ kind_at b j = shape_kind _ _ i ∙ sym (shape_kind _ _ h) in
          let t : atom κ (name_at a n) ≡ atom κ (name_at b j) = sym (record_term z n (atomic κ) l i) ∙ sym e ∙ record_term y j (atomic κ) m h in
          let u : name_at a n ≡ name_at b j = cc in
          let (p, q) = name_bytes (z.bytes _) (z.bytes _) (y.bytes _) (y.bytes _) u in
          rw (h, k, p, q)
      go (compound f) h s g =
          let i : shape_of (kind_at a n) ≡ some (compound f) = shapes ∙ h in
          let k : kind_at a n ≡ kind_at b j = shape_kind _ _ i ∙ sym (shape_kind _ _ h) in
          let w : some (z.good n l).shape ≡ some (compound f) = sym (z.good n l).has ∙ i in
          let v : (z.good n l).shape ≡ compound f = cc in
          let g' : Shaped a n (compound f) = subst (Shaped a n) v g in
          let t : node (make f) (term a (x_at a n)) (term a (cond (unary (second f)) (x_at a n) (y_at a n))) ≡ node (make f) (term b (x_at b j)) (term b (cond (unary (second f)) (x_at b j) (y_at b j))) = sym (record_term z n (compound f) l i) ∙ sym e ∙ record_term y j (compound f) m h in
          let p : term b (x_at b j) ≡ term a (x_at a n) = cc in
          let q : term b (cond (unary (second f)) (x_at b j) (y_at b j)) ≡ term a (cond (unary (second f)) (x_at a n) (y_at a n)) = cc in
          let x : pool_number a b (x_at b j) ≡ x_at a n = number_same z b (x_at b j) (x_at a n) (let r = g'.0 in omega arith) p in
          let c : y_at a n ≡ cond (unary (second f)) (y_at b j) (pool_number a b (y_at b j)) = second_row (second f) g'.1 s.1 (let r = s.0 in omega arith) q in
          rw (h, k, x, ← c)
