-- The parts of a record, and the build test that keeps its answers: the returns of `parts_of`, `build` and `is_missing`.
use mathlib.Core.Path.{◌≡◌, refl, sym, ap, ◌∙◌}
use mathlib.Core.Bool.{Bool, true, false, ◌||◌, ◌&&◌, not, cond, false≢true, true≢false}
use mathlib.Core.List.{List}
use mathlib.Core.Option.{some}
use Prim.Native.Nat.{ℕ, ◌<◌}
use native.Mathlib.Omega.{arith}
use lib.ListN.{length, set, replicate, length-set, length-replicate}
use Rattle.term.specs.Code.{Below, is_unary}
use Rattle.submission.specs.declared.Term.{Term}
use Rattle.submission.specs.Code.{TableRead, IsTerm}
use Rattle.term.specs.Term.{Shape, atomic, compound, Rec, leaf, branch}
use Rattle.term.specs.Number.{shape_of}
use Rattle.submission.specs.Record.{terms, kind_at, x_at, y_at, name_at, record_of, record_at}
use Rattle.std.specs.Prelude.{Option as Maybe, Some, None}
use Rattle.std.specs.Option.{is_some}
use Rattle.deduction.specs.Computed.{at, parts_built, built}
use Rattle.deduction.specs.Code.{Marks, mark_of, reached_of, Reached, parts_of, Memo, Unbuilt}
use Rattle.deduction.proofs.Theory.BuildTestLaws.{built_eq}
use Rattle.submission.proofs.Theory.ListedTerms.{facts}
use Rattle.base.proofs.Stores.{each_set, unset}
use Rattle.deduction.proofs.MarkArrays.{at_reached, says_reached}
use Rattle.term.specs.Computed.{is_atomic}

pub shape_record : (s : List ℕ) (t : ℕ) (z : Shape) → shape_of (kind_at s t) ≡ some z → record_at s t ≡ record_of (some z) (name_at s t) (x_at s t) (y_at s t)
unfolding record_at
shape_record s t z e = ap (λ o. record_of o (name_at s t) (x_at s t) (y_at s t)) e

-- ---- the parts of a record: none of an atom, the operands of a compound term
module _ {s : List ℕ} {t : ℕ} {a : Term} {b : Bool} (w : TableRead s) (l : t < terms s) (r : IsTerm s t a) (e : b ≡ is_atomic (shape_of a.kind)) where
  atomic_at : (z : Shape) → shape_of (kind_at s t) ≡ some z → b ≡ is_atomic (some z)
  atomic_at z f = e ∙ ap is_atomic (ap shape_of r.kind ∙ f)

  pub parts_nothing : b ≡ true → None ≡ parts_of (record_at s t)
  parts_nothing h = go ((facts w).good t l).shape ((facts w).good t l).has
    where
      go : (z : Shape) → shape_of (kind_at s t) ≡ some z → None ≡ parts_of (record_at s t)
      go (atomic κ) f = sym (ap parts_of (shape_record s t (atomic κ) f))
      go (compound c) f = absurd (true≢false (sym h ∙ atomic_at (compound c) f))

  pub parts_both : {y : ℕ} → b ≡ false → y ≡ cond (is_unary (shape_of a.kind)) a.x a.y → Some (a.x, y) ≡ parts_of (record_at s t)
  parts_both {y} h g = go ((facts w).good t l).shape ((facts w).good t l).has
    where
      go : (z : Shape) → shape_of (kind_at s t) ≡ some z → Some (a.x, y) ≡ parts_of (record_at s t)
      go (atomic κ) f = absurd (false≢true (sym h ∙ atomic_at (atomic κ) f))
      go (compound c) f =
          let k : shape_of a.kind ≡ some (compound c) = ap shape_of r.kind ∙ f in
          rw (g, k, r.x, r.y) (sym (ap parts_of (shape_record s t (compound c) f)))

pub same_some : {A : Type 0} {a b : A} → Some a ≡ Some b → a ≡ b
same_some e = cc

pub same_parts : {i j x y : ℕ} → ◌≡◌ {A = Maybe (ℕ × ℕ)} (Some (i, j)) (Some (x, y)) → (i ≡ x) × (j ≡ y)
same_parts e = (ap (λ (z : ℕ × ℕ). z.0) (same_some e), ap (λ (z : ℕ × ℕ). z.1) (same_some e))

-- they are earlier, and a term is built when they are
pub both_parts : (r : Rec) {x y : ℕ} → parts_of r ≡ Some (x, y) → ((n : ℕ) → Below n r → (x < n) × (y < n)) × ((b : ℕ → Bool) → parts_built b r ≡ (b x && b y))
both_parts (leaf κ n) e = absurd (let z : ◌≡◌ {A = ℕ} 0 1 = cc in omega arith)
both_parts (branch h i j) {x} {y} e =
    let (p, q) = same_parts e in
    (λ n l. (rw p at l.0, rw q at l.1), λ b. rw (p, q))

no_parts : (r : Rec) → parts_of r ≡ None → (b : ℕ → Bool) → parts_built b r ≡ false
no_parts (leaf κ n) e b = refl
no_parts (branch h i j) e b = absurd (let z : ◌≡◌ {A = ℕ} 0 1 = cc in omega arith)

-- ---- the memo of the build test
pub memo_none : {s : List ℕ} {known : Marks} → Memo s known (replicate 256 None)
memo_none = record {
  long = length-replicate {A = Maybe Bool} 256 None;
  says = λ n b e. absurd (let z : None ≡ Some b = sym (unset None n 256) ∙ e in let o : ◌≡◌ {A = ℕ} 0 1 = cc in omega arith);
}

-- t is decided now, after others may have been
pub memo_more : {s : List ℕ} {known : Marks} {l : List (Maybe Bool)} {i t : ℕ} {b : Bool} → Memo s known l → i ≡ t → t < 256 → b ≡ built s (reached_of known) t → Memo s known (set l i (Some b))
memo_more {s} {known} {l} {i} {t} {b} o e m f =
    let q : i < length l = omega (arith, o.long) in
    record {
      long = length-set l i (Some b) ∙ o.long;
      says = each_set None (λ n w. (c : Bool) → w ≡ Some c → c ≡ built s (reached_of known) n) l i (Some b) q
          (λ c g. sym (same_some g) ∙ rw e f) (λ n d. o.says n);
    }

-- ---- the parts of a term that has two
module _ {s : List ℕ} {t : ℕ} (w : TableRead s) (l : t < terms s) where
  pub small : t < 256
  small = omega (arith, (facts w).terms_most)

  module _ {p : Maybe (ℕ × ℕ)} (o : p ≡ parts_of (record_at s t)) {x y : ℕ} (e : p ≡ Some (x, y)) where
    fall : (x < t) × (y < t)
    fall = (both_parts (record_at s t) (sym o ∙ e)).0 t ((facts w).table.earlier t l)

    pub x_falls : (u : ℕ) → t ≡ u → x < u
    x_falls u h = rw (← h) fall.0

    pub y_falls : (u : ℕ) → t ≡ u → y < u
    y_falls u h = rw (← h) fall.1

-- ---- the returns of the build test
module _ {s : List ℕ} (known : Marks) {t : ℕ} (w : TableRead s) (l : t < terms s) where
  eq : built s (reached_of known) t ≡ (at (reached_of known) t || parts_built (built s (reached_of known)) (record_at s t))
  eq = built_eq s (reached_of known) (facts w).table.earlier t l

  module _ {i : ℕ} (e : i ≡ t) (d : is_some (mark_of known i) ≡ false) {p : Maybe (ℕ × ℕ)} (o : p ≡ parts_of (record_at s t)) where
    not_marked : at (reached_of known) t ≡ false
    not_marked = at_reached known t ∙ rw e at d

    atom_built : p ≡ None → built s (reached_of known) t ≡ false
    atom_built f = eq ∙ rw not_marked (no_parts (record_at s t) (sym o ∙ f) (built s (reached_of known)))

    compound_built : {x y : ℕ} → p ≡ Some (x, y) → built s (reached_of known) t ≡ (built s (reached_of known) x && built s (reached_of known) y)
    compound_built f = eq ∙ rw not_marked ((both_parts (record_at s t) (sym o ∙ f)).1 (built s (reached_of known)))

module _ {s : List ℕ} (known : Marks) {t i : ℕ} (w : TableRead s) (l : t < terms s) (e : i ≡ t) where
  pub now_known : Reached known i → true ≡ built s (reached_of known) t
  now_known f = sym (eq known w l ∙ rw ((says_reached known t).1 (rw e at f)))

  module _ (d : is_some (mark_of known i) ≡ false) {p : Maybe (ℕ × ℕ)} (o : p ≡ parts_of (record_at s t)) where
    pub now_atom : p ≡ None → false ≡ built s (reached_of known) t
    now_atom f = sym (atom_built known w l e d o f)

    module _ {x y : ℕ} (g : p ≡ Some (x, y)) {a : Bool} (f : a ≡ built s (reached_of known) x) where
      pub now_left : a ≡ false → a ≡ built s (reached_of known) t
      now_left h = let k : built s (reached_of known) x ≡ false = sym f ∙ h in h ∙ sym (compound_built known w l e d o g ∙ rw k)

      pub now_both : {b : Bool} → a ≡ true → b ≡ built s (reached_of known) y → b ≡ built s (reached_of known) t
      now_both h k =
          let r : built s (reached_of known) x ≡ true = sym f ∙ h in
          let q : built s (reached_of known) t ≡ built s (reached_of known) y = compound_built known w l e d o g ∙ rw r in
          k ∙ sym q

-- two terms that are marked
pub both_marked : {s : List ℕ} (known : Marks) {p q i j : ℕ} → TableRead s → p < terms s → q < terms s → i ≡ p → j ≡ q → Reached known i → Reached known j →
    true ≡ (built s (reached_of known) p && built s (reached_of known) q)
both_marked known w l m e f a b = rw (sym (now_known known w l e a), sym (now_known known w m f b))

-- ---- the returns of `is_missing`
pub not_missing : {s : List ℕ} {known : Marks} {k : ℕ} → Unbuilt s known k false
not_missing = record { no = λ b. absurd (false≢true b) }

no_part : (p : Maybe (ℕ × ℕ)) → is_some p ≡ false → p ≡ None
no_part None e = refl
no_part (Some p) e = absurd (true≢false e)

pub missing : {s : List ℕ} {known : Marks} {k j : ℕ} {p : Maybe (ℕ × ℕ)} {b : Bool} → TableRead s → k < terms s → j ≡ k → is_some (mark_of known j) ≡ false →
    p ≡ parts_of (record_at s k) → is_some p ≡ not b → Unbuilt s known k b
missing {s} {known} {p = p} w l e d o f = record { no = λ g. atom_built known w l e d o (no_part p (f ∙ rw g)) }
