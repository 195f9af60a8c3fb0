-- A record of one submission that is a record of another one, with other numbers of its parts: when it is good, and that it has the same term.
use mathlib.Core.Path.{◌≡◌, refl, sym, ap, ap₂, ◌∙◌, subst}
use mathlib.Core.Bool.{Bool, true, false, cond}
use mathlib.Core.List.{List, [], ◌∷◌}
use mathlib.Core.Option.{some}
use Prim.Native.Nat.{ℕ, ◌<◌}
use native.Mathlib.Omega.{arith}
use Rattle.term.specs.Term.{Form, Second, absent, anything, key_for, second, unary, make, Shape, atomic, compound, is_key_for, node, Rec, leaf, branch, message}
use Rattle.term.specs.{Number.shape_of, Code.Below}
use Rattle.submission.specs.{Record.terms, Record.kind_at, Record.x_at, Record.y_at, Record.record_at, Record.term, Check.HasSecond, Check.Shaped}
use Rattle.submission.proofs.Theory.{ListedTerms.Listed}
use Rattle.pool.specs.Pool.{operands}

-- the three bytes of a record
abbrev pub record_bytes : List ℕ → ℕ → List ℕ
record_bytes s n = kind_at s n ∷ x_at s n ∷ y_at s n ∷ []

-- those of record i of s, m giving the numbers of its parts
abbrev pub mapped : (ℕ → ℕ) → List ℕ → ℕ → List ℕ
mapped m s i = kind_at s i ∷ operands m (shape_of (kind_at s i)) (x_at s i) (y_at s i)

-- and the record that they say
abbrev renamed : (ℕ → ℕ) → Rec → Rec
renamed m (leaf κ n) = leaf κ n
renamed m (branch h x y) = branch h (m x) (m y)

module _ {s : List ℕ} (z : Listed s) (p : List ℕ) (m : ℕ → ℕ) (i : ℕ) (l : i < terms s) (same : record_bytes p (m i) ≡ mapped m s i) where
  pub kind_same : kind_at p (m i) ≡ kind_at s i
  kind_same = cc

  -- the operands of a compound one
  compound_row : (f : Form) → shape_of (kind_at s i) ≡ some (compound f) → (x_at p (m i) ≡ m (x_at s i)) × (y_at p (m i) ≡ cond (unary (second f)) (y_at s i) (m (y_at s i)))
  compound_row f h =
      let e : record_bytes p (m i) ≡ kind_at s i ∷ m (x_at s i) ∷ cond (unary (second f)) (y_at s i) (m (y_at s i)) ∷ [] = rw h at same in
      (cc, cc)

  -- what is read of it
  record_is : record_at p (m i) ≡ renamed m (record_at s i)
  unfolding record_at
  record_is = go (z.good i l).shape (z.good i l).has
    where
      both : (u : Bool) → cond u (m (x_at s i)) (cond u (y_at s i) (m (y_at s i))) ≡ m (cond u (x_at s i) (y_at s i))
      both true = refl
      both false = refl

      go : (o : Shape) → shape_of (kind_at s i) ≡ some o → record_at p (m i) ≡ renamed m (record_at s i)
      go (atomic κ) h =
          let e : record_bytes p (m i) ≡ kind_at s i ∷ x_at s i ∷ y_at s i ∷ [] = rw h at same in
          let x : x_at p (m i) ≡ x_at s i = cc in
          let y : y_at p (m i) ≡ y_at s i = cc in
          rw (kind_same, x, y, h) refl
      go (compound f) h =
          let (x, y) = compound_row f h in
          rw (kind_same, x, y, h) (ap (branch (make f) (m (x_at s i))) (both (unary (second f))))

  -- if the numbers of parts are lower, they are earlier
  module _ (rises : (k : ℕ) → k < i → m k < m i) where
    pub parts_below : Below (m i) (record_at p (m i))
    parts_below = subst (Below (m i)) (sym record_is) (go (record_at s i) (z.table.earlier i l))
      where
        go : (r : Rec) → Below i r → Below (m i) (renamed m r)
        go (leaf κ n) b = tt
        go (branch h x y) b = (rises x b.0, rises y b.1)

    -- and the record is good if they are of the same shapes
    module _ (shapes : (k : ℕ) → k < i → shape_of (kind_at p (m k)) ≡ shape_of (kind_at s k)) where
      second_fits : (o : Second) → HasSecond s i o → y_at p (m i) ≡ cond (unary o) (y_at s i) (m (y_at s i)) → HasSecond p (m i) o
      second_fits absent g e = e ∙ g
      second_fits anything g e = rw e (rises (y_at s i) g)
      second_fits (key_for c) g e = (rw e (rises (y_at s i) g.0), ap (λ k. is_key_for c (shape_of (kind_at p k))) e ∙ ap (is_key_for c) (shapes (y_at s i) g.0) ∙ g.1)

      pub fits_mapped : (z' : Shape) × (shape_of (kind_at p (m i)) ≡ some z') × Shaped p (m i) z'
      fits_mapped = let g = z.good i l in (g.shape, ap shape_of kind_same ∙ g.has, go g.shape g.has g.fits)
        where
          go : (o : Shape) → shape_of (kind_at s i) ≡ some o → Shaped s i o → Shaped p (m i) o
          go (atomic κ) h g = tt
          go (compound f) h g =
              let (x, y) = compound_row f h in
              (rw x (rises (x_at s i) g.0), second_fits (second f) g.1 y)

  -- it has the same term, if its parts have
  pub term_mapped : term p (m i) ≡ message (term p) (record_at p (m i)) → ((k : ℕ) → k < i → k < terms s → term p (m k) ≡ term s k) → term p (m i) ≡ term s i
  term_mapped e ih = e ∙ ap (message (term p)) record_is ∙ go (record_at s i) (z.table.earlier i l) ∙ sym (z.table.reads i l)
    where
      go : (r : Rec) → Below i r → message (term p) (renamed m r) ≡ message (term s) r
      go (leaf κ n) b = refl
      go (branch h x y) b = ap₂ (node h) (ih x b.0 (omega (arith, b.0))) (ih y b.1 (omega (arith, b.1)))
