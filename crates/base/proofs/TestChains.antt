-- Tests in a row, each with its own return, are one test joined by `||` or `&&`.
use mathlib.Core.Path.{◌≡◌}
use mathlib.Core.Bool.{Bool, true, false, ◌||◌, ◌&&◌}

-- `if a { return true; }`, and what follows
pub or_here : (a b : Bool) → a ≡ true → true ≡ (a || b)
or_here a b e = rw e

pub or_past : (a b r : Bool) → a ≡ false → r ≡ b → r ≡ (a || b)
or_past a b r e h = rw e h

-- `if !a { return false; }`, and what follows
pub and_here : (a b : Bool) → a ≡ false → false ≡ (a && b)
and_here a b e = rw e

pub and_past : (a b r : Bool) → a ≡ true → r ≡ b → r ≡ (a && b)
and_past a b r e h = rw e h

pub ruleset chain = (or_here, or_past, and_here, and_past)
