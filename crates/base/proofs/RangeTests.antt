-- A test of the numbers below a bound, as a chain of the library's makes it.
use mathlib.Core.Path.{◌≡◌, refl, ◌∙◌}
use mathlib.Core.Bool.{Bool, true, false, ◌||◌}
use Prim.Native.Nat.{ℕ, zero, suc}
use native.Mathlib.Numerals.{add-one}
use Rattle.std.specs.List.{list_any, range_with_len}
use Rattle.base.specs.{Words.first_from, Words.first, Code.is_some, Computed.any}

one_more : (p : ℕ → Bool) (n b : ℕ) (t : Bool) → p b ≡ t → list_any p (range_with_len (suc b) n) ≡ is_some (first_from p (suc b) n) →
    (p b || list_any p (range_with_len (suc b) n)) ≡ is_some (first_from p b (suc n))
unfolding first_from
one_more p n b true e h = rw (e, first_from)
one_more p n b false e h = rw (e, first_from) h

from : (p : ℕ → Bool) (n b : ℕ) → list_any p (range_with_len b n) ≡ is_some (first_from p b n)
unfolding first_from
from p zero b = refl
from p (suc n) b = rw (add-one b) (one_more p n b (p b) refl (from p n (suc b)))

pub any_of_range : (p : ℕ → Bool) {n m : ℕ} {r : Bool} → r ≡ list_any p (range_with_len 0 n) → n ≡ m → r ≡ any p m
unfolding any first
any_of_range p {n} e q = e ∙ rw (← q) (from p n 0)
