-- The inverse relation among listed terms: it goes both ways, a term has one inverse, and none is its own.
use mathlib.Core.Path.{◌≡◌, refl, sym, ap, ◌∙◌}
use mathlib.Core.Bool.{true, false, true≢false}
use mathlib.Core.List.{List}
use mathlib.Core.Option.{Option, none, some}
use Prim.Native.Nat.{ℕ, ◌<◌, ◌≤◌}
use native.Mathlib.Omega.{arith}
use Rattle.base.specs.Words.{first}
use Rattle.base.proofs.First.{first_none, first_some}
use Rattle.base.proofs.Says.{denies}
use Rattle.term.specs.Term.{plain, public, private, asymmetric, Term, atom, node, Match}
use Rattle.term.proofs.Reduce.{match_det, match_sym}
use Rattle.submission.specs.{Record.terms, Record.term, Computed.are_inverse}
use Rattle.submission.proofs.Theory.ListedTerms.{Listed}
use Rattle.base.specs.Computed.{or_none}
use Rattle.std.specs.Prelude.{Option as Maybe, Some, None, unwrap_or}
use Rattle.inverse.specs.Computed.{inverse_of}
use Rattle.inverse.specs.Code.{InverseAmong, found_of, found_inverse}

not_own : (t : Term) → Match asymmetric t t → ⊥
not_own (atom plain n) (k, e) = k
not_own (atom public n) (k, e) = let z : ◌≡◌ {A = ℕ} 0 1 = cc in omega arith
not_own (atom private n) (k, e) = let z : ◌≡◌ {A = ℕ} 0 1 = cc in omega arith
not_own (node h a b) (k, e) = k

-- what the definition gives is an inverse among all terms, or none is
pub all_among : (s : List ℕ) (n : ℕ) → InverseAmong s n (terms s) (found_inverse s n)
all_among s n = go (first (are_inverse s n) (terms s)) refl
  where
    go : (o : Option ℕ) → first (are_inverse s n) (terms s) ≡ o → InverseAmong s n (terms s) (found_of o)
    go none e = first_none _ _ e
    go (some j) e = let (m, t, _) = first_some _ _ j e in (m, t)

-- and on the page it is the number that the definition gives
pub page_byte : (s : List ℕ) (n : ℕ) → unwrap_or (found_inverse s n) 255 ≡ inverse_of s n
page_byte s n = go (first (are_inverse s n) (terms s))
  where
    go : (o : Option ℕ) → unwrap_or (found_of o) 255 ≡ or_none o
    go none = refl
    go (some j) = refl

module _ {s : List ℕ} (z : Listed s) where
  pub inverse_sym : (n j : ℕ) → n < terms s → j < terms s → are_inverse s n j ≡ true → are_inverse s j n ≡ true
  inverse_sym n j l m e = (z.inverse_iff j n m l).1 (match_sym asymmetric (term s n) (term s j) ((z.inverse_iff n j l m).0 e))

  pub inverse_one : (n i j : ℕ) → n < terms s → i < terms s → j < terms s → are_inverse s n i ≡ true → are_inverse s n j ≡ true → i ≡ j
  inverse_one n i j l a b e f =
      z.same_number i j a b (match_det asymmetric (term s n) (term s i) (term s j) ((z.inverse_iff n i l a).0 e) ((z.inverse_iff n j l b).0 f))

  pub inverse_other : (n : ℕ) → n < terms s → are_inverse s n n ≡ false
  inverse_other n l = (denies _ (z.inverse_iff n n l l)).1 (not_own (term s n))

  -- among the first i terms one is found, or none
  pub among_one : (n i : ℕ) (b c : Maybe ℕ) → n < terms s → i ≤ terms s → InverseAmong s n i b → InverseAmong s n i c → b ≡ c
  among_one n i None None l m p q = refl
  among_one n i None (Some k) l m p (h, t) = absurd (true≢false (sym t ∙ p k h))
  among_one n i (Some j) None l m (h, t) q = absurd (true≢false (sym t ∙ q j h))
  among_one n i (Some j) (Some k) l m (h, t) (h', t') = ap Some (inverse_one n j k l (omega arith) (omega arith) t t')

  pub among_all : (n : ℕ) (b : Maybe ℕ) → n < terms s → InverseAmong s n (terms s) b → b ≡ found_inverse s n
  among_all n b l p = among_one n (terms s) b (found_inverse s n) l (omega arith) p (all_among s n)
