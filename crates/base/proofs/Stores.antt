-- Arrays: what holds after a store, and of an array that nothing is stored in; flags.
use mathlib.Core.Path.{◌≡◌, refl, sym, ap, ◌∙◌}
use mathlib.Core.List.{List}
use Prim.Native.Nat.{ℕ, zero, suc, ◌+◌, ◌<◌}
use native.Mathlib.Decide.{ℕ_discrete}
use native.Mathlib.Omega.{arith}
use lib.Dec.{eqb}
use lib.ListN.{length, get_or, set, replicate, length-set, length-replicate}
use lib.Seq.{get_or-set_same, get_or-set_other}
use borrow.Author.Count.{below_more}
use mathlib.Core.Bool.{Bool, true, false, false≢true}
use Rattle.base.specs.{Code.Flagged, Computed.any}
use Rattle.base.proofs.Says.{says_eqb, says_any, same_test}

-- what holds of the stored place and of every other holds of all
pub each_set : {A : Type 0} (z : A) (P : ℕ → A → Type 0) (l : List A) (t : ℕ) (v : A) → t < length l → P t v →
    ((n : ℕ) → (n ≡ t → ⊥) → P n (get_or l n z)) → (n : ℕ) → P n (get_or (set l t v) n z)
each_set {A} z P l t v b here other n = go (ℕ_discrete n t)
  where
    go : Dec (n ≡ t) → P n (get_or (set l t v) n z)
    go (yes e) = rw (e, get_or-set_same l t v z b) here
    go (no d) = rw (get_or-set_other l t n v z d) (other n d)

-- an array of one value, which also stands for what is beyond it
pub unset : {A : Type 0} (z : A) (k n : ℕ) → get_or (replicate n z) k z ≡ z
unset z k zero = refl
unset z zero (suc n) = refl
unset z (suc k) (suc n) = unset z k n

-- ---- flags
pub flagged_none : {f : ℕ → ℕ} → Flagged f 0 (replicate 256 false)
flagged_none =
    record {
      long = length-replicate {A = Bool} 256 false;
      holds = λ r b. absurd (omega arith);
      only = λ n e. absurd (false≢true (sym (unset false n 256) ∙ e));
    }

module _ {f : ℕ → ℕ} {l : List Bool} {i : ℕ} (p : Flagged f i l) where
  pub flagged_more : {t u : ℕ} → u ≡ f i → t ≡ u → t < 256 → Flagged f (i + 1) (set l t true)
  flagged_more {t} g d h =
      let e : t ≡ f i = d ∙ g in
      let q : t < length l = omega (arith, p.long) in
      record {
        long = length-set l t true ∙ p.long;
        holds = below_more (λ r. get_or (set l t true) (f r) false ≡ true) i
            (λ r b. each_set false (λ k v. k ≡ f r → v ≡ true) l t true q (λ _. refl) (λ k d x. rw x (p.holds r b)) (f r) refl)
            (rw (← e) (get_or-set_same l t true false q));
        only = each_set false (λ k v. v ≡ true → (r : ℕ) × (r < i + 1) × (f r ≡ k)) l t true q (λ _. (i, omega arith, sym e))
            (λ k d x. let (r, y, z) = p.only k x in (r, omega arith, z));
      }

  -- n is flagged exactly where it is f j of an earlier j
  pub flagged_any : {w n : ℕ} → w ≡ n → get_or l w false ≡ any (λ j. eqb (f j) n) i
  flagged_any {w} {n} e =
      same_test (get_or l w false) (any (λ j. eqb (f j) n) i) (
        λ t. p.only n (ap (λ k. get_or l k false) (sym e) ∙ t),
        λ (r, b, g). rw (e, ← g) (p.holds r b),
      )
      (says_any (λ j. eqb (f j) n) i (λ j b. says_eqb (f j) n))
