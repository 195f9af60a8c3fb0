-- What check 3 says of one record: row 3.
use mathlib.Core.Path.{◌≡◌, refl, sym, ap, ◌∙◌, subst}
use mathlib.Core.Bool.{true, false, ◌&&◌, cond, false≢true}
use mathlib.Core.List.{List}
use mathlib.Core.Option.{Option, none, some}
use Prim.Native.Nat.{ℕ, ◌+◌, ◌*◌, ◌<◌}
use native.Mathlib.Omega.{arith}
use lib.Dec.{eqb, ltb}
use Rattle.base.proofs.Says.{Says, says_true, says_eqb, says_ltb, says_and, says_or, says_not, says_any, denies, not_not_false, or-false}
use Rattle.term.specs.Term.{Form, Second, absent, anything, key_for, second, unary, Shape, atomic, compound}
use Rattle.term.specs.Number.{shape_of}
use Rattle.submission.specs.Record.{kind_at, x_at, y_at, name_at, record_of}
use Rattle.term.specs.Computed.{takes}
use Rattle.submission.specs.Computed.{shape_fits, same_record, bad_term}
use Rattle.submission.specs.Check.{HasSecond, Shaped, BadTerm}

says_second : (s : List ℕ) (i : ℕ) (o : Second) → Says (cond (unary o) (eqb (y_at s i) 0) (ltb (y_at s i) i && takes o (shape_of (kind_at s (y_at s i))))) (HasSecond s i o)
says_second s i absent = says_eqb _ _
says_second s i anything = let w = says_and _ true (says_ltb (y_at s i) i) (says_true true) in (λ e. (w.0 e).0, λ l. w.1 (l, refl))
says_second s i (key_for c) = says_and _ _ (says_ltb _ _) (says_true _)

fits_shaped : (s : List ℕ) (i : ℕ) (z : Shape) → Says (shape_fits s i (some z)) (Shaped s i z)
fits_shaped s i (atomic κ) = (λ e. tt, λ x. refl)
fits_shaped s i (compound f) = says_and _ _ (says_ltb _ _) (says_second s i (second f))

says_shaped : (s : List ℕ) (i : ℕ) (o : Option Shape) → Says (shape_fits s i o) ((z : Shape) × (o ≡ some z) × Shaped s i z)
says_shaped s i none = (λ e. absurd (false≢true e), λ (z, e, f). absurd (let o : ◌≡◌ {A = ℕ} 0 1 = cc in omega arith))
says_shaped s i (some z) = (λ e. (z, refl, (fits_shaped s i z).0 e), λ (y, e, f). let p : y ≡ z = cc in (fits_shaped s i z).1 (subst (Shaped s i) p f))

-- the second part of a record: y, or x again
abbrev pub second_part : List ℕ → ℕ → Form → ℕ
second_part s i f = cond (unary (second f)) (x_at s i) (y_at s i)

pub second_below : (s : List ℕ) (i : ℕ) (o : Second) → x_at s i < i → HasSecond s i o → cond (unary o) (x_at s i) (y_at s i) < i
second_below s i absent l f = l
second_below s i anything l f = f
second_below s i (key_for c) l f = f.0

pub says_same : (s : List ℕ) (i j : ℕ) → Says (same_record s i j) ((kind_at s j ≡ kind_at s i) × ((x_at s j ≡ x_at s i) × (y_at s j ≡ y_at s i)))
says_same s i j = says_and _ _ (says_eqb _ _) (says_and _ _ (says_eqb _ _) (says_eqb _ _))

-- a record that passes check 3: its shape, and that no earlier one is equal to it
pub record Good (s : List ℕ) (i : ℕ) : Type 0 where
  pub shape : Shape
  pub has : shape_of (kind_at s i) ≡ some shape
  pub fits : Shaped s i shape
  pub new : (j : ℕ) → j < i → kind_at s j ≡ kind_at s i → x_at s j ≡ x_at s i → y_at s j ≡ y_at s i → ⊥

-- row 3
pub says_bad_term : (s : List ℕ) (i : ℕ) → Says (bad_term s i) (BadTerm s i)
unfolding bad_term
says_bad_term s i =
    says_or _ _ (says_not _ (says_shaped s i (shape_of (kind_at s i)))) (says_any (same_record s i) i (λ j l. says_same s i j))

pub good : (s : List ℕ) (i : ℕ) → bad_term s i ≡ false → Good s i
unfolding bad_term
good s i e =
    let u = (or-false _ _).0 e in
    let z = (says_shaped s i (shape_of (kind_at s i))).0 ((not_not_false _).0 u.0) in
    let n = (denies _ (says_any (same_record s i) i (λ j l. says_same s i j))).0 u.1 in
    record { shape = z.0; has = z.1; fits = z.2; new = λ j l k x y. n (j, l, (k, (x, y))) }

-- two bytes are one name
pub name_bytes : {x y x' y' : ℕ} → x < 256 → y < 256 → x' < 256 → y' < 256 → x * 256 + y ≡ x' * 256 + y' → (x ≡ x') × (y ≡ y')
name_bytes a b c d e = omega arith

pub same_second : (s : List ℕ) (i j : ℕ) (o : Second) → HasSecond s i o → HasSecond s j o →
    cond (unary o) (x_at s i) (y_at s i) ≡ cond (unary o) (x_at s j) (y_at s j) → y_at s i ≡ y_at s j
same_second s i j absent f g e = f ∙ sym g
same_second s i j anything f g e = e
same_second s i j (key_for c) f g e = e

-- records that are equal have the same bytes
pub same_record_lem : (s : List ℕ) (i j : ℕ) (y z : Shape) → Shaped s i y → Shaped s j z → (name_at s i ≡ name_at s j → (x_at s i ≡ x_at s j) × (y_at s i ≡ y_at s j)) →
    record_of (some y) (name_at s i) (x_at s i) (y_at s i) ≡ record_of (some z) (name_at s j) (x_at s j) (y_at s j) → (y ≡ z) × (x_at s i ≡ x_at s j) × (y_at s i ≡ y_at s j)
same_record_lem s i j (atomic κ) (atomic κ') f g n e = let u = n (cc) in (cc, u.0, u.1)
same_record_lem s i j (atomic κ) (compound h) f g n e = absurd (let o : ◌≡◌ {A = ℕ} 0 1 = cc in omega arith)
same_record_lem s i j (compound h) (atomic κ) f g n e = absurd (let o : ◌≡◌ {A = ℕ} 0 1 = cc in omega arith)
same_record_lem s i j (compound h) (compound k) f g n e =
    let p : k ≡ h = cc in
    let q : cond (unary (second h)) (x_at s i) (y_at s i) ≡ cond (unary (second k)) (x_at s j) (y_at s j) = cc in
    (cc, cc, same_second s i j (second h) f.1 (subst (λ z. HasSecond s j (second z)) p g.1) (q ∙ ap (λ z. cond (unary (second z)) (x_at s j) (y_at s j)) p))
