-- The inverses of the first terms, and one term more.
use mathlib.Core.Path.{◌≡◌, sym, ap, ◌∙◌, subst}
use mathlib.Core.Logic.{⊎_elim}
use mathlib.Core.Bool.{true, false, true≢false}
use mathlib.Core.List.{List}
use Prim.Native.Nat.{ℕ, ◌+◌, ◌<◌, ◌≤◌}
use native.Mathlib.Nat.{eq-or-lt_of_le}
use native.Mathlib.Omega.{arith}
use lib.ListN.{length, get_or, set, length-set}
use borrow.Author.Count.{below_more}
use Rattle.std.specs.Prelude.{Option, Some, None}
use Rattle.std.proofs.lemmas.Option.{none-some, same_Some}
use Rattle.base.proofs.Says.{true_or_false}
use Rattle.base.proofs.Stores.{each_set}
use Rattle.submission.specs.{Record.terms, Computed.are_inverse, Code.TableRead}
use Rattle.submission.proofs.Theory.ListedTerms.{facts}
use Rattle.inverse.specs.Code.{InverseAmong, EarlierInverse, Found, Inverses}
use Rattle.inverse.proofs.Theory.InverseKeys.{inverse_sym, inverse_one, inverse_other, among_all}

-- ---- one term more
among_kept : (s : List ℕ) (n i : ℕ) (o : Option ℕ) → InverseAmong s n i o → are_inverse s n i ≡ false → InverseAmong s n (i + 1) o
among_kept s n i None p f = below_more (λ j. are_inverse s n j ≡ false) i p f
among_kept s n i (Some j) (l, t) f = (omega arith, t)

pub found_none : (s : List ℕ) (l : List (Option ℕ)) → length l ≡ 256 → Found s 0 l
found_none s l e = record { within = omega arith; long = e; is = λ n b. absurd (omega arith) }

module _ {s : List ℕ} {l : List (Option ℕ)} {k w : ℕ} (v : TableRead s) (b : k < terms s) (p : Found s k l) (e : w ≡ k) where
  module _ (o : Option ℕ) (q : EarlierInverse s k o) where
    -- an earlier term that is not found is not the inverse of k
    not_inverse : (n : ℕ) → n < k → (o ≡ Some n → ⊥) → are_inverse s n k ≡ false
    not_inverse n m d = ⊎_elim (λ t. absurd (other o q d (inverse_sym (facts v) n k (omega arith) b t))) (λ f. f) (true_or_false (are_inverse s n k))
      where
        other : (o : Option ℕ) → EarlierInverse s k o → (o ≡ Some n → ⊥) → are_inverse s k n ≡ true → ⊥
        other None f d t = true≢false (sym t ∙ f n m)
        other (Some j) (a, u) d t = d (ap Some (inverse_one (facts v) k j n b (omega arith) (omega arith) u t))

    -- the inverse of k is stored
    noted : (n : ℕ) → n < k + 1 → (o ≡ Some n → ⊥) → InverseAmong s n (k + 1) (get_or (set l w o) n None)
    noted =
        each_set None (λ n c. n < k + 1 → (o ≡ Some n → ⊥) → InverseAmong s n (k + 1) c) l w o (omega (arith, p.long, (facts v).terms_most))
        (λ _ _. rw e (among_kept s k k o q (inverse_other (facts v) k b)))
        (λ n x m d. let y : n < k = earlier n m x in among_kept s n k (get_or l n None) (p.is n y) (not_inverse n y d))
      where
        earlier : (n : ℕ) → n < k + 1 → (n ≡ w → ⊥) → n < k
        earlier n m x = let h : n ≤ k = omega arith in ⊎_elim (λ f. absurd (x (f ∙ sym e))) (λ f. f) (eq-or-lt_of_le h)

  -- it is none
  pub found_alone : {o : Option ℕ} → EarlierInverse s k o → o ≡ None → Found s (k + 1) (set l w o)
  found_alone {o} h f = record {
    within = omega arith;
    long = length-set l w o ∙ p.long;
    is = λ n m. noted o h n m (λ x. none-some n (sym f ∙ x));
  }

  -- it is the earlier term j
  pub found_pair : {o : Option ℕ} {j u : ℕ} → EarlierInverse s k o → o ≡ Some j → u ≡ j → Found s (k + 1) (set (set l w o) u (Some k))
  found_pair {o} {j} {u} h g f =
      let (m, t) : (j < k) × (are_inverse s k j ≡ true) = subst (EarlierInverse s k) g h in
      let long : length (set l w o) ≡ 256 = length-set l w o ∙ p.long in
      record {
        within = omega arith;
        long = length-set (set l w o) u (Some k) ∙ long;
        is =
            each_set None (λ n c. n < k + 1 → InverseAmong s n (k + 1) c) (set l w o) u (Some k) (omega (arith, long, (facts v).terms_most))
            (λ _. rw f (omega arith, inverse_sym (facts v) k j b (omega arith) t))
            (λ n x y. noted o h n y (λ z. x (same_Some n j (sym z ∙ g) ∙ sym f)));
      }

pub found_all : {s : List ℕ} {l : List (Option ℕ)} {k n : ℕ} → TableRead s → Found s k l → n ≤ k → n ≡ terms s → Inverses s l
found_all {s} {l} {k} {n} v p b e =
    let f : k ≡ terms s = omega (arith, p.within) in
    record { long = p.long; is = λ m c. among_all (facts v) m (get_or l m None) c (rw (← f) (p.is m (omega arith))) }
