-- What `find` gives of a range of numbers from 0 on: the first at which a test holds; and the check that refuses there.
use mathlib.Core.Path.{◌≡◌, refl, sym}
use mathlib.Core.Bool.{Bool, true, false}
use mathlib.Core.Option.{none, some}
use Prim.Native.Nat.{ℕ, ◌≤◌, ◌<◌}
use native.Mathlib.Omega.{arith}
use Rattle.std.specs.Prelude.{Option as Maybe, Some, None, MatchOption}
use Rattle.base.specs.Words.{first}
use Rattle.base.specs.Code.{number_is}
use Rattle.base.proofs.First.{passed_hit, passed_all}

-- what the library's `first_from_Range` says of the answer v
abbrev pub FoundIn : (ℕ → Bool) → ℕ → Maybe ℕ → Type 0
FoundIn p n v =
    MatchOption v ((k : ℕ) → 0 ≤ k → k < n → p k ≡ false)
    (λ i. (0 ≤ i) × (i < n) × (p i ≡ true) × ((k : ℕ) → 0 ≤ k → k < i → p k ≡ false))

-- n was counted, and is k
module _ (p : ℕ → Bool) {n k : ℕ} (v : Maybe ℕ) (h : FoundIn p n v) (e : n ≡ k) where
  pub found_none : v ≡ None → first p k ≡ none
  found_none q = let f = rw q at h in rw (← e) (passed_all {i = n} (record { within = omega arith; failed = λ j l. f j (omega arith) l }) (omega arith))

  pub found_some : {i : ℕ} → v ≡ Some i → first p k ≡ some i
  found_some {i} q = let (a, l, t, f) = rw q at h in rw (← e) (passed_hit {i = i} (record { within = omega arith; failed = λ j m. f j (omega arith) m }) l t)

  -- both at once: the number found, as `Fault::at_first` is given it
  pub place_found : number_is v ≡ first p k
  place_found = go v refl
    where
      go : (o : Maybe ℕ) → v ≡ o → number_is o ≡ first p k
      go None q = sym (found_none q)
      go (Some i) q = sym (found_some q)
