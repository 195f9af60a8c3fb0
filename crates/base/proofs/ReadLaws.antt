-- What stands in an array of zeros that a slice's bytes from a place on are copied to, as far as they go.
use mathlib.Core.Path.{◌≡◌, sym, ◌∙◌}
use mathlib.Core.List.{List, ◌++◌}
use mathlib.Core.Logic.{⊎_elim}
use Prim.Native.Nat.{ℕ, ◌+◌, ◌-◌, ◌≤◌, ◌<◌, min}
use native.Mathlib.Omega.{arith}
use lib.ListN.{length, get_or, take, drop, replicate, length-drop, get_or-append, get_or-eq_default}
use lib.Seq.{length-take-le, get_or-append_right, get_or-take, get_or-drop}
use Rattle.base.proofs.Order.{lt_or_ge}
use Rattle.base.proofs.Stores.{unset}

pub read_at : (s new : List ℕ) (at n from count m : ℕ) → from ≡ min at (length s) → count ≡ min n (length s - from) → m ≡ count → new ≡ take m (drop from s) →
    (i : ℕ) → i < n → get_or (new ++ drop count (replicate n 0)) i 0 ≡ get_or s (at + i) 0
read_at s new at n from count m f k q e i h =
    let there : m ≤ length (drop from s) = omega (arith, length-drop from s) in
    let long : length new ≡ count = rw e (length-take-le m (drop from s) there ∙ q) in
    ⊎_elim
    (λ (l : i < count).
    let a : from ≡ at = omega arith in
    rw (get_or-append new (drop count (replicate n 0)) 0 i (omega arith), e, get_or-take {A = ℕ} m (drop from s) i 0 (omega arith), get_or-drop {A = ℕ} from s i 0, a))
    (λ (l : count ≤ i).
    rw (get_or-append_right new (drop count (replicate n 0)) i 0 (omega arith), get_or-drop {A = ℕ} count (replicate n 0) (i - length new) 0, unset {A = ℕ} 0 (count + (i - length new)) n)
    (sym (get_or-eq_default s 0 (omega arith))))
    (lt_or_ge i count)
