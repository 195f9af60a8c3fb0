-- The first number at which a test holds, below a bound that grows.
use mathlib.Core.Path.{◌≡◌, refl, sym, ap, ◌∙◌}
use mathlib.Core.Bool.{Bool, true, false, false≢true}
use mathlib.Core.Option.{Option, none, some}
use Prim.Native.Nat.{ℕ, ◌+◌, ◌≤◌}
use native.Mathlib.Omega.{arith}
use borrow.Author.Count.{below_more}
use Rattle.base.specs.{Words.first, Code.is_some, Computed.any}
use Rattle.base.proofs.First.{passed_hit, passed_all, first_none, first_some}

module _ (p : ℕ → Bool) (n : ℕ) where
  -- what was found stays
  pub first_kept : (m i : ℕ) → n ≤ m → first p n ≡ some i → first p m ≡ some i
  first_kept m i l e =
      let h = first_some p n i e in
      passed_hit (record { within = omega arith; failed = h.2 }) (omega arith) h.1

  -- nothing was found below n, and n is the first
  pub first_next : first p n ≡ none → p n ≡ true → first p (n + 1) ≡ some n
  first_next e t = passed_hit (record { within = omega arith; failed = first_none p n e }) (omega arith) t

  -- n makes no difference
  pub first_same : p n ≡ false → first p (n + 1) ≡ first p n
  first_same f = go (first p n) refl
    where
      go : (o : Option ℕ) → first p n ≡ o → first p (n + 1) ≡ first p n
      go none e = passed_all (record { within = omega arith; failed = below_more (λ k. p k ≡ false) n (first_none p n e) f }) (omega arith) ∙ sym e
      go (some i) e = first_kept (n + 1) i (omega arith) e ∙ sym e

  -- whether one was found, and which
  pub any_first : any p n ≡ true → (i : ℕ) × (first p n ≡ some i)
  unfolding any
  any_first t = go (first p n) refl
    where
      go : (o : Option ℕ) → first p n ≡ o → (i : ℕ) × (first p n ≡ some i)
      go none e = absurd (false≢true (sym (ap is_some e) ∙ t))
      go (some i) e = (i, e)

  -- and where it was found below n, it is found below more
  pub any_more : (m : ℕ) → n ≤ m → any p n ≡ true → any p m ≡ true
  unfolding any
  any_more m l t = let (i, e) = any_first t in ap is_some (first_kept m i l e)
