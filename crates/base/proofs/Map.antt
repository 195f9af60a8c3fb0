-- Two functions that agree over a list agree at each of its entries: how a table-wide fact speaks of one row.
use mathlib.Core.Path.{◌≡◌}
use mathlib.Core.List.{List, [], ◌∷◌, map}
use Prim.Native.Nat.{ℕ, zero, suc, ◌<◌}
use native.Mathlib.Omega.{arith}
use lib.ListN.{length, get_or}

pub map_at : {A B : Type 0} (f g : A → B) (xs : List A) → map f xs ≡ map g xs → (d : A) (k : ℕ) → k < length xs → f (get_or xs k d) ≡ g (get_or xs k d)
map_at f g [] e d k l = absurd (omega arith)
map_at f g (x ∷ xs) e d zero l = cc
map_at f g (x ∷ xs) e d (suc k) l =
    let t : map f xs ≡ map g xs = cc in
    map_at f g xs t d k (omega arith)
