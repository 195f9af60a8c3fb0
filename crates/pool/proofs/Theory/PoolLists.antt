-- Laws of lists: the values of a function that pass a test, in order, and records of three bytes one after the other.
use mathlib.Core.Path.{◌≡◌, refl, ap, ◌∙◌}
use mathlib.Core.Logic.{⊎_elim}
use mathlib.Core.Bool.{Bool, true, false, cond}
use mathlib.Core.List.{List, [], ◌∷◌, ◌++◌}
use Prim.Native.Nat.{ℕ, zero, suc, ◌+◌, ◌*◌, ◌<◌, ◌≤◌}
use native.Mathlib.Omega.{arith}
use lib.ListN.{length, length-append, get_or-append}
use lib.Seq.{get_or-append-add, get_or-append_seam}
use Rattle.std.specs.List.{filter, flat_map}
use Rattle.std.proofs.lemmas.List.Elements.{filter-append}
use Rattle.base.specs.Words.{grow, listed, byte}
use Rattle.base.proofs.Order.{lt_or_ge}

-- ---- those of f 0, f 1, .., f (n - 1) that pass the test t, in order
module _ (t : ℕ → Bool) (f : ℕ → ℕ) where
  abbrev pub kept : ℕ → List ℕ
  kept n = filter t (listed f n)

  pub kept_more : (n : ℕ) → kept (suc n) ≡ kept n ++ cond (t (f n)) (f n ∷ []) []
  unfolding grow
  kept_more n = filter-append t (listed f n) (f n ∷ [])

  -- of more there are no fewer
  pub kept_rises : (j n : ℕ) → j ≤ n → length (kept j) ≤ length (kept n)
  kept_rises j zero l = let e : j ≡ 0 = omega arith in rw e (omega arith)
  kept_rises j (suc n) l =
      let z : List ℕ = cond (t (f n)) (f n ∷ []) [] in
      ⊎_elim
      (λ (h : j < suc n). let m : length (kept j) ≤ length (kept n) = kept_rises j n (omega arith) in rw (kept_more n) (omega (arith, length-append (kept n) z)))
      (λ (h : suc n ≤ j). let e : j ≡ suc n = omega arith in rw e (omega arith))
      (lt_or_ge j (suc n))

  -- nothing, where none passes
  pub kept_none : (n : ℕ) → ((j : ℕ) → j < n → t (f j) ≡ false) → kept n ≡ []
  unfolding grow
  kept_none zero e = refl
  kept_none (suc n) e = kept_more n ∙ rw (e n (omega arith), kept_none n (λ j l. e j (omega arith))) refl

  -- value j has as many before it as passed below j
  pub kept_place : (n j : ℕ) → j < n → t (f j) ≡ true → (length (kept j) < length (kept n)) × (byte (kept n) (length (kept j)) ≡ f j)
  kept_place zero j l e = absurd (omega arith)
  kept_place (suc n) j l e = ⊎_elim
      (λ b.
      let (m, h) = kept_place n j b e in
      let z = cond (t (f n)) (f n ∷ []) [] in
      rw (kept_more n) (omega (arith, length-append (kept n) z), get_or-append (kept n) z 0 (length (kept j)) m ∙ h))
      (λ (b : n ≤ j).
      let q : n ≡ j = omega arith in
      let p : t (f n) ≡ true = ap (λ i. t (f i)) q ∙ e in
      rw (← q, kept_more n, p) (omega (arith, length-append (kept n) (f n ∷ [])), get_or-append_seam (kept n) (f n) [] 0))
      (lt_or_ge j n)

  -- and each that passed is such a value
  pub kept_at : (n k : ℕ) → k < length (kept n) → (j : ℕ) × (j < n) × (t (f j) ≡ true) × (length (kept j) ≡ k) × (byte (kept n) k ≡ f j)
  unfolding grow
  kept_at zero k l = absurd (omega arith)
  kept_at (suc n) k l = ⊎_elim
      (λ b.
      let (j, m, e, g, h) = kept_at n k b in
      (j, omega arith, e, g, ap (λ l. byte l k) (kept_more n) ∙ get_or-append (kept n) _ 0 k b ∙ h))
      (λ b. last (t (f n)) refl b)
      (lt_or_ge k (length (kept n)))
    where
      last : (v : Bool) → t (f n) ≡ v → length (kept n) ≤ k → (j : ℕ) × (j < suc n) × (t (f j) ≡ true) × (length (kept j) ≡ k) × (byte (kept (suc n)) k ≡ f j)
      last true e b =
          let m : kept (suc n) ≡ kept n ++ f n ∷ [] = kept_more n ∙ rw e in
          let g : length (kept n) ≡ k = omega (arith, ap length m, length-append (kept n) (f n ∷ [])) in
          (n, omega arith, e, g, rw (m, ← g) (get_or-append_seam (kept n) (f n) [] 0))
      last false e b = let m : kept (suc n) ≡ kept n ++ [] = kept_more n ∙ rw e in absurd (omega (arith, ap length m, length-append (kept n) []))

-- ---- records of three bytes
module _ (f : ℕ → List ℕ) (three : (x : ℕ) → length (f x) ≡ 3) where
  pub threes_length : (l : List ℕ) → length (flat_map f l) ≡ 3 * length l
  threes_length [] = refl
  threes_length (x ∷ l) = length-append (f x) (flat_map f l) ∙ omega (arith, three x, threes_length l)

  pub threes_at : (l : List ℕ) (i j : ℕ) → i < length l → j < 3 → byte (flat_map f l) (3 * i + j) ≡ byte (f (byte l i)) j
  threes_at [] i j a b = absurd (omega arith)
  threes_at (x ∷ l) zero j a b = let e : 3 * zero + j ≡ j = omega arith in ap (byte (f x ++ flat_map f l)) e ∙ get_or-append (f x) (flat_map f l) 0 j (omega (arith, three x))
  threes_at (x ∷ l) (suc i) j a b =
      let e : 3 * suc i + j ≡ length (f x) + (3 * i + j) = omega (arith, three x) in
      ap (byte (f x ++ flat_map f l)) e ∙ get_or-append-add (f x) (flat_map f l) (3 * i + j) 0 ∙ threes_at l i j (omega arith) b
