-- Laws of a list that grows at its end: its length, an entry once there stays, and what entry i was made from.
use mathlib.Core.Path.{◌≡◌, refl, ◌∙◌, subst}
use mathlib.Core.List.{List, [], ◌∷◌}
use Prim.Native.Nat.{ℕ, zero, suc, ◌+◌, ◌-◌, ◌≤◌, ◌<◌}
use native.Mathlib.Nat.{add-zero, add-suc, zero-add}
use native.Mathlib.Omega.{arith}
use lib.ListN.{length, get_or, length-append, get_or-append}
use lib.Seq.{get_or-append_seam}
use Rattle.base.specs.Words.{grow, listed}

module _ {A : Type 0} (s : List A) (f : List A → ℕ → A) where
  pub length_grow : (i : ℕ) → length (grow s f i) ≡ length s + i
  unfolding grow
  length_grow zero = omega arith
  length_grow (suc i) = simp length-append (omega (arith, length_grow i))

  kept : (i n r : ℕ) (d : A) → r < length s + i → get_or (grow s f (i + n)) r d ≡ get_or (grow s f i) r d
  unfolding grow
  kept i zero r d b = rw (add-zero i)
  kept i (suc n) r d b =
      rw (add-suc i n) (get_or-append (grow s f (i + n)) (f (grow s f (i + n)) (i + n) ∷ []) d r (omega (arith, length_grow (i + n))) ∙ kept i n r d b)

  -- an entry once there stays
  pub grow_kept : (i n r : ℕ) (d : A) → i ≤ n → r < length s + i → get_or (grow s f n) r d ≡ get_or (grow s f i) r d
  grow_kept i n r d a b =
      let e : i + (n - i) ≡ n = omega arith in
      subst (λ z. get_or (grow s f z) r d ≡ get_or (grow s f i) r d) e (kept i (n - i) r d b)

  -- and entry i was made from those before it
  pub grow_at : (i n : ℕ) (d : A) → i < n → get_or (grow s f n) (length s + i) d ≡ f (grow s f i) i
  unfolding grow
  grow_at i n d b = grow_kept (suc i) n (length s + i) d b (omega arith) ∙ rw (← (length_grow i)) (get_or-append_seam (grow s f i) _ [] d)

-- the listed values of a function
module _ {A : Type 0} (f : ℕ → A) where
  pub length_listed : (n : ℕ) → length (listed f n) ≡ n
  length_listed n = length_grow [] (λ l i. f i) n ∙ zero-add n

  pub listed_at : (i n : ℕ) (d : A) → i < n → get_or (listed f n) i d ≡ f i
  listed_at i n d b = rw (zero-add i) at (grow_at [] (λ l i. f i) i n d b)

-- lists that grow alike
pub grow_alike : {A : Type 0} (s : List A) (f g : List A → ℕ → A) (n : ℕ) → ((i : ℕ) (l : List A) → i < n → f l i ≡ g l i) → grow s f n ≡ grow s g n
unfolding grow
grow_alike s f g zero h = refl
grow_alike s f g (suc n) h = rw (grow_alike s f g n (λ i l b. h i l (omega arith)), h n (grow s g n) (omega arith))
