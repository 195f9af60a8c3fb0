-- A kind that is read, compared with one.
use mathlib.Core.Path.{◌≡◌, refl, sym, ◌∙◌}
use Prim.Native.Nat.{ℕ}
use lib.Dec.{eqb}
use borrow.Author.Tests.{ne_eqb}
use Rattle.std.specs.Prelude.{Option as Maybe, Some, None}
use Rattle.std.specs.Option.{option_eq}
use Rattle.term.specs.Number.{shape_of}
use Rattle.term.specs.Computed.{kind_of}
use Rattle.term.specs.Code.{kind_is, shape_read}
use Rattle.term.specs.declared.kind.Kind.{Kind}
use Rattle.term.specs.declared.kind.Kind.TheVariants.{Plain, Public, Private, Pair, Enc, Enca, Hash}
use Rattle.term.specs.contracts.kind.KindPartialEq.TheImpl as same
use Rattle.term.specs.Term.{pair, encryption, asymmetric, compound}
use Rattle.term.proofs.KindLaws.{kind_number, kind_not}

pub is_pair : (k : ℕ) (m : Maybe Kind) → shape_read m ≡ shape_of k → option_eq same.eq-value.it m (Some Pair) ≡ eqb k (kind_of (compound pair))
is_pair k m e = go m refl
  where
    at : (b : Kind) → same.eq-value.it b Pair ≡ eqb (kind_of (kind_is b)) (kind_of (kind_is Pair))
    at Plain = refl
    at Public = refl
    at Private = refl
    at Pair = refl
    at Enc = refl
    at Enca = refl
    at Hash = refl

    go : (n : Maybe Kind) → m ≡ n → option_eq same.eq-value.it n (Some Pair) ≡ eqb k (kind_of (kind_is Pair))
    go None f = sym (ne_eqb _ _ (kind_not Pair e (λ g. let z : None ≡ Some Pair = sym f ∙ g in absurd (cc))))
    go (Some b) f = rw (kind_number e f) (at b)

pub is_enca : (k : ℕ) (m : Maybe Kind) → shape_read m ≡ shape_of k → option_eq same.eq-value.it m (Some Enca) ≡ eqb k (kind_of (compound (encryption asymmetric)))
is_enca k m e = go m refl
  where
    at : (b : Kind) → same.eq-value.it b Enca ≡ eqb (kind_of (kind_is b)) (kind_of (kind_is Enca))
    at Plain = refl
    at Public = refl
    at Private = refl
    at Pair = refl
    at Enc = refl
    at Enca = refl
    at Hash = refl

    go : (n : Maybe Kind) → m ≡ n → option_eq same.eq-value.it n (Some Enca) ≡ eqb k (kind_of (kind_is Enca))
    go None f = sym (ne_eqb _ _ (kind_not Enca e (λ g. let z : None ≡ Some Enca = sym f ∙ g in absurd (cc))))
    go (Some b) f = rw (kind_number e f) (at b)
