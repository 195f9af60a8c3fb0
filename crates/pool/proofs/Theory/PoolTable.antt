-- The terms of the pool: its records are good, and their terms are those of both.
use mathlib.Core.Path.{◌≡◌, refl, sym, ap, ◌∙◌, subst}
use mathlib.Core.Logic.{◌↔◌, ◌⊎◌, inl, inr, ⊎_elim}
use mathlib.Core.Bool.{Bool, true, false, cond}
use mathlib.Core.List.{List, [], ◌∷◌}
use mathlib.Core.Option.{Option, none, some}
use Prim.Native.Nat.{ℕ, zero, suc, ◌<◌}
use native.Mathlib.Omega.{arith}
use Rattle.term.specs.Term.{second, unary, Shape, atomic, compound, shape, Term, message}
use Rattle.term.specs.{Number.shape_of, Code.Below}
use Rattle.term.proofs.Table.{decoded_reads}
use Rattle.submission.specs.{Record.terms, Record.kind_at, Record.x_at, Record.y_at, Record.record_at, Record.term, Check.Shaped, Check.BadTerm}
use Rattle.submission.proofs.Theory.{ListedTerms.Listed, ListedNumbers.listed_shape, ListedTerms.claim_facts}
use Rattle.pool.specs.Pool.{pool_number, operands, joined}
use Rattle.pool.specs.Promise.{Lists}
use Rattle.pool.proofs.Theory.{JoinAnswer.Joinable, PoolNumbers.InFirst, PoolNumbers.Missing, PoolNumbers.in_or_missing, PoolNumbers.rank_less}
use Rattle.pool.proofs.Theory.MappedRecord.{record_bytes, mapped, kind_same, parts_below, fits_mapped, term_mapped}
use Rattle.pool.proofs.Theory.PoolRecords.{term_count, first_row, missing_row, number_below, whose}

module _ {a b : List ℕ} (h : Joinable a b) where
  abbrev p : List ℕ
  p = joined a b

  abbrev m : ℕ → ℕ
  m = pool_number a b

  first : Listed a
  first = (claim_facts h.first).read

  other : Listed b
  other = (claim_facts h.second).read

  -- a record of the first stands under its own number
  first_mapped : (n : ℕ) → n < terms a → record_bytes p n ≡ mapped (λ k. k) a n
  first_mapped n l = first_row h n l ∙ ap (λ o. kind_at a n ∷ o) (sym (go (shape_of (kind_at a n))))
    where
      same : (u : Bool) (y : ℕ) → cond u y y ≡ y
      same true y = refl
      same false y = refl

      go : (o : Option Shape) → operands (λ k. k) o (x_at a n) (y_at a n) ≡ x_at a n ∷ y_at a n ∷ []
      go none = refl
      go (some (atomic κ)) = refl
      go (some (compound f)) = ap (λ y. x_at a n ∷ y ∷ []) (same (unary (second f)) (y_at a n))

  pub first_kind : (n : ℕ) → n < terms a → kind_at p n ≡ kind_at a n
  first_kind n l = let e = first_row h n l in cc

  -- the numbers of a missing term's parts are lower than its own
  module _ (j : ℕ) (l : j < terms b) (z : Missing a b j) where
    rises : (k : ℕ) → k < j → m k < m j
    rises k u = ⊎_elim
        (λ (f : InFirst a b k). omega (arith, f.is, f.below, z.is))
        (λ (y : Missing a b k). let r = rank_less a b k j u y.absent in omega (arith, y.is, z.is))
        (in_or_missing a b k)

  -- each of the other's terms has its shape under its number in the pool
  number_shape : (j : ℕ) → j < terms b → shape_of (kind_at p (m j)) ≡ shape_of (kind_at b j)
  number_shape j l = ⊎_elim
      (λ (f : InFirst a b j).
      ap (λ n. shape_of (kind_at p n)) f.is ∙ ap shape_of (first_kind f.number f.below) ∙ sym (listed_shape first f.number f.below)
      ∙ ap shape (sym f.same) ∙ listed_shape other j l)
      (λ (z : Missing a b j). ap shape_of (kind_same other p m j l (missing_row h j l z)))
      (in_or_missing a b j)

  -- each record is read over those before it
  earlier : (n : ℕ) → n < terms p → Below n (record_at p n)
  earlier n l = ⊎_elim
      (λ u. parts_below first p (λ k. k) n u (first_mapped n u) (λ k v. v))
      (λ (j, u, z, e). subst (λ n. Below n (record_at p n)) e (parts_below other p m j u (missing_row h j u z) (rises j u z)))
      (whose h n l)

  reads : (n : ℕ) → n < terms p → term p n ≡ message (term p) (record_at p n)
  unfolding term
  reads = decoded_reads (record_at p) (terms p) earlier

  -- each term of the first keeps its number
  first_below : (k n : ℕ) → n < k → n < terms a → term p n ≡ term a n
  first_below zero n u l = absurd (omega arith)
  first_below (suc k) n u l = term_mapped first p (λ k. k) n l (first_mapped n l) (reads n (omega (arith, term_count h))) (λ x v w. first_below k x (omega arith) w)

  pub first_term : (n : ℕ) → n < terms a → (n < terms p) × (term p n ≡ term a n)
  first_term n l = (omega (arith, term_count h), first_below (suc n) n (omega arith) l)

  -- and each of the second has its pool number
  second_below : (k j : ℕ) → j < k → j < terms b → term p (m j) ≡ term b j
  second_below zero j u l = absurd (omega arith)
  second_below (suc k) j u l = go (in_or_missing a b j) (second_below k)
    where
      go : InFirst a b j ⊎ Missing a b j → ((x : ℕ) → x < k → x < terms b → term p (m x) ≡ term b x) → term p (m j) ≡ term b j
      go (inl f) ih = ap (term p) f.is ∙ (first_term f.number f.below).1 ∙ sym f.same
      go (inr z) ih = term_mapped other p m j l (missing_row h j l z) (reads (m j) (number_below h j l)) (λ x v w. ih x (omega arith) w)

  pub second_term : (j : ℕ) → j < terms b → (m j < terms p) × (term p (m j) ≡ term b j)
  second_term j l = (number_below h j l, second_below (suc j) j (omega arith) l)

  -- its terms are those of both
  pub terms_of_both : (t : Term) → Lists p t ↔ (Lists a t ⊎ Lists b t)
  terms_of_both t = (
    λ (n, l, e). ⊎_elim
        (λ u. inl (n, u, e ∙ (first_term n u).1))
        (λ (j, u, _, f). inr (j, u, e ∙ ap (term p) (sym f) ∙ (second_term j u).1))
        (whose h n l),
    ⊎_elim
        (λ (n, l, e). let (u, f) = first_term n l in (n, u, e ∙ sym f))
        (λ (j, l, e). let (u, f) = second_term j l in (m j, u, e ∙ sym f)),
  )

  -- no two are equal
  apart : (n k : ℕ) → n < terms p → k < terms p → term p n ≡ term p k → n ≡ k
  apart n k l u e = go (whose h n l) (whose h k u)
    where
      go : (n < terms a) ⊎ ((j : ℕ) × (j < terms b) × Missing a b j × (m j ≡ n)) → (k < terms a) ⊎ ((j : ℕ) × (j < terms b) × Missing a b j × (m j ≡ k)) → n ≡ k
      go (inl v) (inl w) = first.same_number n k v w (sym (first_term n v).1 ∙ e ∙ (first_term k w).1)
      go (inl v) (inr (j, w, z, f)) = absurd (z.lacks n v (sym (second_term j w).1 ∙ ap (term p) f ∙ sym e ∙ (first_term n v).1))
      go (inr (j, v, z, f)) (inl w) = absurd (z.lacks k w (sym (second_term j v).1 ∙ ap (term p) f ∙ e ∙ (first_term k w).1))
      go (inr (i, v, _, f)) (inr (j, w, _, g)) =
          sym f ∙ ap m (other.same_number i j v w (sym (second_term i v).1 ∙ ap (term p) f ∙ e ∙ sym (ap (term p) g) ∙ (second_term j w).1)) ∙ g

  -- row 3: each record has a shape that fits, and no earlier one is equal
  shaped : (n : ℕ) → n < terms p → (z : Shape) × (shape_of (kind_at p n) ≡ some z) × Shaped p n z
  shaped n l = ⊎_elim
      (λ u. fits_mapped first p (λ k. k) n u (first_mapped n u) (λ k v. v) (λ k v. ap shape_of (first_kind k (omega arith))))
      (λ (j, u, z, e).
      subst (λ n. (z : Shape) × (shape_of (kind_at p n) ≡ some z) × Shaped p n z) e
      (fits_mapped other p m j u (missing_row h j u z) (rises j u z) (λ k v. number_shape k (omega arith))))
      (whose h n l)

  same_bytes : (n k : ℕ) → kind_at p k ≡ kind_at p n → x_at p k ≡ x_at p n → y_at p k ≡ y_at p n → record_at p k ≡ record_at p n
  unfolding record_at
  same_bytes n k e x y = rw (e, x, y) refl

  pub term_good : (n : ℕ) → n < terms p → BadTerm p n → ⊥
  term_good n l (inl f) = f (shaped n l)
  term_good n l (inr (k, u, (e, (x, y)))) =
      let q = apart k n (omega arith) l (reads k (omega arith) ∙ ap (message (term p)) (same_bytes n k e x y) ∙ sym (reads n l)) in omega arith
