-- What opens a record: the returns of `opening_of`, and what an opening gives.
use mathlib.Core.Path.{◌≡◌, refl, sym, ap, ◌∙◌}
use mathlib.Core.Bool.{Bool, false, ◌&&◌, ◌||◌}
use mathlib.Core.List.{List}
use mathlib.Core.Option.{some, none}
use Rattle.std.specs.Prelude.{Option as Maybe, Some, None}
use Prim.Native.Nat.{ℕ, ◌<◌}
use Rattle.std.specs.Option.{option_map}
use lib.Dec.{eqb}
use lib.ListN.{get_or}
use Rattle.base.proofs.BoolLaws.{and_right}
use Rattle.term.specs.Term.{symmetric, asymmetric, pair, hash, encryption, make, part, decrypt, Rec, leaf, branch}
use Rattle.term.specs.{Number.shape_of}
use Rattle.term.specs.Code.{kind_is, shape_read}
use Rattle.term.specs.declared.kind.Kind.{Kind}
use Rattle.term.specs.declared.kind.Kind.TheVariants.{Plain, Public, Private, Pair, Enc, Enca, Hash}
use native.Mathlib.Omega.{arith}
use Rattle.term.proofs.Table.{part_below}
use Rattle.submission.specs.declared.Term.{Term}
use Rattle.submission.specs.Code.{TableRead, IsTerm}
use Rattle.submission.specs.Record.{terms, x_at, y_at, name_at, record_of, record_at}
use Rattle.submission.proofs.Theory.ListedTerms.{facts}
use Rattle.inverse.specs.Code.{Inverses, found_inverse}
use Rattle.deduction.specs.declared.opening.Opening.{Opening}
use Rattle.deduction.specs.declared.opening.Opening.TheVariants.{Freely, With}
use Rattle.deduction.specs.Computed.{built, gives}
use Rattle.deduction.specs.Code.{opening_in, opening_of}
use Rattle.deduction.proofs.OpeningKeys.{no_key, the_inverse, the_key}
use Rattle.deduction.proofs.BuildMemo.{shape_record}

-- ---- what each kind's record opens with
module _ {s : List ℕ} {t : ℕ} {a : Term} (v : TableRead s) (l : t < terms s) (i : IsTerm s t a) {m : Maybe Kind} (e : shape_read m ≡ shape_of a.kind) where
  -- a term's number is that of a kind
  pub opens_none : m ≡ None → None ≡ opening_of s t
  opens_none f =
      let z : none ≡ some ((facts v).good t l).shape = ap shape_read (sym f) ∙ e ∙ ap shape_of i.kind ∙ ((facts v).good t l).has in
      absurd (let o : ◌≡◌ {A = ℕ} 0 1 = cc in omega arith)

  module _ {k : Kind} (f : m ≡ Some k) where
    record_kind : {z : Kind} → k ≡ z → record_at s t ≡ record_of (some (kind_is z)) (name_at s t) (x_at s t) (y_at s t)
    record_kind {z} g = shape_record s t (kind_is z) (ap shape_of (sym i.kind) ∙ sym e ∙ ap shape_read f ∙ ap (λ y. some (kind_is y)) g)

    pub opens_freely : k ≡ Pair → Some (Freely a.x a.y) ≡ opening_of s t
    opens_freely g = rw (record_kind g, i.x, i.y)

    pub opens_symmetric : k ≡ Enc → Some (With a.x a.y) ≡ opening_of s t
    opens_symmetric g = rw (record_kind g, i.x, i.y)

    module _ {inverses : List (Maybe ℕ)} {j : ℕ} (u : Inverses s inverses) (h : j ≡ a.y) (g : k ≡ Enca) where
      by_listed : {o : Maybe ℕ} → get_or inverses j None ≡ o → option_map (With a.x) o ≡ opening_of s t
      by_listed q =
          let r = record_kind g in
          let d : get_or inverses j None ≡ found_inverse s (y_at s t) = ap (λ n. get_or inverses n None) (h ∙ i.y) ∙ u.is (y_at s t) (part_below (facts v).table t l r).1 in
          rw (← q, r, d, i.x)

      pub opens_asymmetric : {key : ℕ} → get_or inverses j None ≡ Some key → Some (With a.x key) ≡ opening_of s t
      opens_asymmetric q = by_listed q

      pub opens_unlisted : get_or inverses j None ≡ None → None ≡ opening_of s t
      opens_unlisted q = by_listed q

    pub opens_other : (k ≡ Pair → ⊥) → (k ≡ Enc → ⊥) → (k ≡ Enca → ⊥) → None ≡ opening_of s t
    opens_other b c d = go k refl
      where
        go : (z : Kind) → k ≡ z → None ≡ opening_of s t
        go Plain g = rw (record_kind g)
        go Public g = rw (record_kind g)
        go Private g = rw (record_kind g)
        go Pair g = absurd (b g)
        go Enc g = absurd (c g)
        go Enca g = absurd (d g)
        go Hash g = rw (record_kind g)

-- ---- what an opening gives
-- taking apart what opens so gives the term n, over the marks m
abbrev pub given : List ℕ → List Bool → Maybe Opening → ℕ → Bool
given s m (Some (Freely x y)) n = eqb n x || eqb n y
given s m (Some (With body key)) n = eqb n body && built s m key
given s m None n = false

-- its numbers are those of terms
abbrev OfTerms : List ℕ → Maybe Opening → Type 0
OfTerms s (Some (Freely x y)) = (x < terms s) × (y < terms s)
OfTerms s (Some (With body key)) = (body < terms s) × (key < terms s)
OfTerms s None = Unit {0}

module _ {s : List ℕ} {t : ℕ} (v : TableRead s) (l : t < terms s) where
  record Means (r : Rec) (o : Maybe Opening) : Type 0 where
    listed : OfTerms s o
    is : (m : List Bool) (n : ℕ) → gives s m r n ≡ given s m o n

  asymmetric_means : (x k : ℕ) → record_at s t ≡ branch (make (encryption asymmetric)) x k → (o : Maybe ℕ) → found_inverse s k ≡ o →
      Means (branch (make (encryption asymmetric)) x k) (option_map (With x) o)
  asymmetric_means x k r None g =
      record { listed = tt; is = λ m n. and_right (eqb n x) _ (no_key v (part_below (facts v).table t l r).1 g m) }
  asymmetric_means x k r (Some j) g =
      let (a, b) = part_below (facts v).table t l r in
      record { listed = (a, (the_inverse v b g).0); is = λ m n. ap (λ z. eqb n x && z) (the_key v b g m) }

  means : (r : Rec) → record_at s t ≡ r → Means r (opening_in s r)
  means (leaf κ z) r = record { listed = tt; is = λ m n. refl }
  means (branch (make pair) x y) r = record { listed = part_below (facts v).table t l r; is = λ m n. refl }
  means (branch (make hash) x y) r = record { listed = tt; is = λ m n. refl }
  means (branch (make (encryption symmetric)) x k) r = record { listed = part_below (facts v).table t l r; is = λ m n. refl }
  means (branch (make (encryption asymmetric)) x k) r = asymmetric_means x k r (found_inverse s k) refl
  means (branch (part i) x y) r = record { listed = tt; is = λ m n. refl }
  means (branch (decrypt c) x y) r = record { listed = tt; is = λ m n. refl }

  pub opening_gives : (m : List Bool) (n : ℕ) → gives s m (record_at s t) n ≡ given s m (opening_of s t) n
  opening_gives = (means (record_at s t) refl).is

  pub freely_listed : {x y : ℕ} → opening_of s t ≡ Some (Freely x y) → (x < terms s) × (y < terms s)
  freely_listed e = rw e at (means (record_at s t) refl).listed

  pub with_listed : {body key : ℕ} → opening_of s t ≡ Some (With body key) → (body < terms s) × (key < terms s)
  with_listed e = rw e at (means (record_at s t) refl).listed
