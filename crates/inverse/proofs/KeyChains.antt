-- The chains of keys, and what a walk along one of them says of the inverse of a key.
use mathlib.Core.Path.{◌≡◌, refl, sym, ap, ◌∙◌}
use mathlib.Core.Logic.{⊎_elim, by_cases}
use mathlib.Core.Bool.{Bool, true, false}
use mathlib.Core.Option.{Option, none, some}
use mathlib.Core.List.{List}
use Prim.Native.Nat.{ℕ, ◌+◌, ◌<◌}
use native.Mathlib.Nat.{le_refl}
use native.Mathlib.Decide.{ℕ_discrete}
use native.Mathlib.Omega.{arith}
use lib.ListN.{get_or, set}
use Rattle.std.specs.Prelude.{Option as Maybe, Some, None, unwrap_or}
use Rattle.base.specs.{Words.Bytes, Code.Chaining, Code.FoundBy}
use Rattle.base.proofs.Chains.{chaining_apart, chaining_more}
use Rattle.base.proofs.Says.{says_and, says_or, says_eqb, says_true, denies}
use Rattle.term.specs.{Term.plain, Term.public, Term.private, Term.Shape, Term.atomic, Term.compound, Term.asymmetric, Term.is_key_for, Number.shape_of, Computed.inverse_kinds}
use Rattle.term.proofs.KindLaws.{no_inverse}
use Rattle.submission.specs.declared.Term.{Term}
use Rattle.submission.specs.{Record.terms, Record.kind_at, Record.x_at, Record.y_at, Computed.are_inverse, Code.IsTerm, Code.TableRead}
use Rattle.submission.proofs.Theory.ListedTerms.{facts}
use Rattle.inverse.specs.Code.{opposite, chain_of, key_chain, EarlierInverse}

-- ---- the chains
-- the byte opposite to the opposite one
turned : (y : ℕ) → y < 256 → opposite (opposite y) ≡ y
turned y l = omega arith

-- of two kinds that are each other's inverse, keys with one last byte are in opposite chains
opposite_kinds : (k j y : ℕ) → y < 256 → inverse_kinds k j ≡ true → chain_of (shape_of j) y ≡ opposite (chain_of (shape_of k) y)
unfolding shape_of
opposite_kinds k j y l e =
    ⊎_elim (λ (a, b). rw (a, b) refl) (λ (a, b). rw (a, b) (sym (turned y l)))
    ((says_or _ _ (says_and _ _ (says_eqb k 2) (says_eqb j 3)) (says_and _ _ (says_eqb k 3) (says_eqb j 2))).0 e)

-- the inverses of a key are in the chain opposite to its own
chain_apart : (s : List ℕ) (k j : ℕ) → y_at s k < 256 → (key_chain s j ≡ opposite (key_chain s k) → ⊥) → are_inverse s k j ≡ false
unfolding are_inverse
chain_apart s k j l d =
    (denies _ (says_and _ _ (says_true (inverse_kinds (kind_at s k) (kind_at s j))) (says_and _ _ (says_eqb (x_at s k) (x_at s j)) (says_eqb (y_at s k) (y_at s j))))).1
    (λ (e, (x, y)). d (ap (chain_of (shape_of (kind_at s j))) (sym y) ∙ opposite_kinds (kind_at s k) (kind_at s j) (y_at s k) l e))

-- what is in no chain is no key
no_key : (z : Option Shape) (y : ℕ) → y < 256 → 256 ≡ chain_of z y → is_key_for asymmetric z ≡ false
no_key none y l e = refl
no_key (some (atomic plain)) y l e = refl
no_key (some (atomic public)) y l e = absurd (omega arith)
no_key (some (atomic private)) y l e = absurd (omega arith)
no_key (some (compound f)) y l e = refl

-- term k is t, and o is the byte by which it is chained
module _ {s : List ℕ} {k : ℕ} {t : Term} (p : IsTerm s k t) (o : Maybe ℕ) (e : unwrap_or o 256 ≡ chain_of (shape_of t.kind) t.y) where
  chain_is : unwrap_or o 256 ≡ key_chain s k
  chain_is = rw (← p.kind, ← p.y) e

  -- one term more
  pub no_key_chained : {before latest : List ℕ} → o ≡ None → Chaining (key_chain s) k before latest → Chaining (key_chain s) (k + 1) before latest
  no_key_chained h c = chaining_apart c (rw (← chain_is, h) (le_refl 256))

  pub key_chained : {before latest before' latest' : List ℕ} {v : ℕ} → o ≡ Some v → v < 256 → TableRead s → k < terms s → Chaining (key_chain s) k before latest →
      before' ≡ set before k (get_or latest v 255) → latest' ≡ set latest v k → Chaining (key_chain s) (k + 1) before' latest'
  key_chained h m r l c f g = rw (f, g) (chaining_more c (omega (arith, (facts r).terms_most)) (sym chain_is ∙ ap (λ o. unwrap_or o 256) h) refl m)

  -- what is no key has no inverse
  pub no_key_inverse : o ≡ None → TableRead s → EarlierInverse s k None
  unfolding are_inverse
  no_key_inverse h r j l = rw (no_inverse (kind_at s k) (kind_at s j) (no_key (shape_of (kind_at s k)) (y_at s k) (r.bytes _) (sym (ap (λ o. unwrap_or o 256) h) ∙ chain_is)))

-- what is found in the opposite chain
pub inverse_found : (s : List ℕ) (k : ℕ) {Gave : ℕ → Bool → Type 0} {v y : ℕ} (o : Maybe ℕ) → Bytes s → v ≡ key_chain s k → y ≡ opposite v → FoundBy (key_chain s) k y Gave o →
    ((j : ℕ) (b : Bool) → Gave j b → are_inverse s k j ≡ b) → EarlierInverse s k o
inverse_found s k {y = y} None w e g f same = λ i l.
    by_cases (ℕ_discrete (key_chain s i) y) (λ x. same i false (f.last i l tt x)) (λ d. chain_apart s k i (w _) (λ x. d (x ∙ ap opposite (sym e) ∙ sym g)))
inverse_found s k (Some j) w e g f same = let (l, _, h) = f.is j refl in (l, same j true h)
