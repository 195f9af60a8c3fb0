-- A number in decimal, digit by digit.
use mathlib.Core.Path.{◌≡◌, sym}
use mathlib.Core.List.{[], ◌∷◌, ◌++◌}
use Prim.Native.Nat.{ℕ, suc, ◌+◌, ◌/◌, ◌%◌, ◌≤◌, ◌<◌}
use native.Mathlib.Omega.{arith}
use borrow.Author.Tests.{lt-ltb, le-ltb}
use Rattle.text.specs.Text.{digits, decimal}
use Rattle.std.specs.Fmt.{decimal as printed}
use Rattle.std.proofs.lemmas.Fmt.{AppendsLastDigit, decimal_from_appends, length-decimal-le_succ}

digits_one : (f n : ℕ) → n < 10 → digits (suc f) n ≡ (0x30 + n) ∷ []
unfolding digits
digits_one f n h = rw (lt-ltb n 10 h, digits)

digits_more : (f n : ℕ) → 10 ≤ n → digits (suc f) n ≡ digits f (n / 10) ++ (0x30 + n % 10) ∷ []
unfolding digits
digits_more f n h = rw (le-ltb n 10 h, digits)

appends : AppendsLastDigit digits
appends = record { one = digits_one; more = digits_more }

-- a number's text as the library has it
pub decimal_is : (n : ℕ) → n < 65536 → printed n ≡ decimal n
decimal_is n h = sym (decimal_from_appends digits appends (suc n) n (omega arith) (omega (arith, length-decimal-le_succ n (omega arith))))
