-- Records of four bytes, one after the other: when they are alike, their length, and the bytes of each.
use mathlib.Core.Path.{◌≡◌, refl, sym, ap, ◌∙◌}
use mathlib.Core.Logic.{⊎_elim}
use mathlib.Core.List.{List, ◌++◌}
use Prim.Native.Nat.{ℕ, zero, suc, ◌+◌, ◌*◌, ◌<◌}
use native.Mathlib.Omega.{arith}
use lib.ListN.{length, length-append, get_or-append}
use lib.Seq.{get_or-append-add}
use Rattle.base.specs.Words.{fours, byte}
use Rattle.base.proofs.Order.{lt_or_ge}

-- records that are alike
pub fours_alike : (f g : ℕ → List ℕ) (n : ℕ) → ((i : ℕ) → i < n → f i ≡ g i) → fours f n ≡ fours g n
unfolding fours
fours_alike f g zero h = refl
fours_alike f g (suc n) h = rw (fours_alike f g n (λ i l. h i (omega arith)), h n (omega arith))

module _ (f : ℕ → List ℕ) (four : (i : ℕ) → length (f i) ≡ 4) where
  pub fours_length : (n : ℕ) → length (fours f n) ≡ 4 * n
  unfolding fours
  fours_length zero = refl
  fours_length (suc n) = simp length-append (omega (arith, fours_length n, four n))

  pub fours_at : (n i j : ℕ) → i < n → j < 4 → byte (fours f n) (4 * i + j) ≡ byte (f i) j
  unfolding fours
  fours_at zero i j l m = absurd (omega arith)
  fours_at (suc n) i j l m = ⊎_elim
      (λ b. get_or-append (fours f n) (f n) 0 (4 * i + j) (omega (arith, fours_length n)) ∙ fours_at n i j b m)
      (λ b.
      let e : i ≡ n = omega arith in
      let g : 4 * i + j ≡ length (fours f n) + j = omega (arith, fours_length n) in
      ap (byte (fours f n ++ f n)) g ∙ get_or-append-add (fours f n) (f n) j 0 ∙ ap (λ k. byte (f k) j) (sym e))
      (lt_or_ge i n)
