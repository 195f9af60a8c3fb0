-- The one key that opens an asymmetric encryption under the key y.
use mathlib.Core.Path.{◌≡◌, sym, ◌∙◌, subst}
use mathlib.Core.Bool.{Bool, true, false, ◌&&◌, true≢false}
use mathlib.Core.List.{List}
use Prim.Native.Nat.{ℕ, ◌<◌}
use Rattle.base.proofs.Says.{Says, says_and, says_any, says_true, same_test, denies}
use Rattle.term.specs.Term.{asymmetric}
use Rattle.submission.specs.{Record.terms, Computed.are_inverse, Code.TableRead}
use Rattle.submission.proofs.Theory.ListedTerms.{facts}
use Rattle.std.specs.Prelude.{Some, None}
use Rattle.inverse.specs.Code.{InverseAmong, found_inverse}
use Rattle.inverse.proofs.Theory.InverseKeys.{all_among, inverse_one}
use Rattle.deduction.specs.Computed.{built, opens}

module _ {s : List ℕ} (v : TableRead s) {y : ℕ} (l : y < terms s) where
  says_key : (m : List Bool) → Says (opens asymmetric s m y) ((j : ℕ) × (j < terms s) × ((are_inverse s y j ≡ true) × (built s m j ≡ true)))
  says_key m =
      says_any (λ j. are_inverse s y j && built s m j) (terms s) (λ j b. says_and _ _ (says_true (are_inverse s y j)) (says_true (built s m j)))

  -- none is listed
  pub no_key : found_inverse s y ≡ None → (m : List Bool) → opens asymmetric s m y ≡ false
  no_key e m = (denies _ (says_key m)).1 (λ (j, b, (a, _)). true≢false (sym a ∙ subst (InverseAmong s y (terms s)) e (all_among s y) j b))

  -- one is listed,
  module _ {j : ℕ} (e : found_inverse s y ≡ Some j) where
    pub the_inverse : (j < terms s) × (are_inverse s y j ≡ true)
    the_inverse = subst (InverseAmong s y (terms s)) e (all_among s y)

    -- and no other
    pub the_key : (m : List Bool) → opens asymmetric s m y ≡ built s m j
    the_key m =
        let (b, a) = the_inverse in
        same_test (opens asymmetric s m y) (built s m j) (says_key m) (
          λ t. (j, b, (a, t)),
          λ (i, c, (p, q)). subst (λ n. built s m n ≡ true) (inverse_one (facts v) y i j l c b p a) q,
        )
