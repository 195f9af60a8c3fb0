-- The words of logic, numbers and lists that the definitions are written in, beside the library's operators: the library's, and a few notions of lists.
pub use mathlib.Core.Logic.Dec.{and as Dec·and}
pub use mathlib.Core.{Logic.ite, Bool.Bool, Bool.true, Bool.false, Bool.not, Bool.cond, Option.Option, Option.none, Option.some, List.List, List.[], List.map}
use Rattle.std.specs.Prelude.{◌∷◌, ◌++◌, ◌<◌}
pub use Rattle.std.specs.Prelude.{ℕ, zero, suc, min}
pub use lib.{Dec.eqb, Dec.ltb, Dec.T as Holds, ListN.length, ListN.get_or, ListN.get_elem?, ListN.take, ListN.drop, ListN.replicate, Seq.sets}

-- the first of i, i + 1, .. (n numbers) at which p holds
unfoldable pub first_from : (ℕ → Bool) → ℕ → ℕ → Option ℕ
first_from p i zero = none
first_from p i (suc n) = elim (p i) [ true ↦ some i | false ↦ first_from p (suc i) n ]

-- the first number below n at which p holds
unfoldable pub first : (ℕ → Bool) → ℕ → Option ℕ
first p n = first_from p 0 n

-- the list start, and then the entries 0 to i - 1 that next makes, each from those before it
unfoldable pub grow : {A : Type 0} → List A → (List A → ℕ → A) → ℕ → List A
grow start next zero = start
grow start next (suc i) = grow start next i ++ next (grow start next i) i ∷ []

-- f 0, f 1, .., f (n - 1)
abbrev pub listed : {A : Type 0} → (ℕ → A) → ℕ → List A
listed f n = grow [] (λ l i. f i) n

-- n records one after the other: f 0, f 1, .., f (n - 1), each of four bytes
unfoldable pub fours : (ℕ → List ℕ) → ℕ → List ℕ
fours f zero = []
fours f (suc i) = fours f i ++ f i

-- the byte at i, and 0 past the end
abbrev pub byte : List ℕ → ℕ → ℕ
byte s i = get_or s i 0

-- a list of bytes
abbrev pub Bytes : List ℕ → Type 0
Bytes s = (i : ℕ) → byte s i < 256
