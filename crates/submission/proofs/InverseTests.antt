-- Inverse keys, read off two records one test at a time.
use mathlib.Core.Path.{◌≡◌}
use mathlib.Core.Bool.{Bool, ◌&&◌}
use mathlib.Core.List.{List}
use Prim.Native.Nat.{ℕ}
use lib.Dec.{eqb}
use Rattle.term.specs.Computed.{inverse_kinds}
use Rattle.submission.specs.declared.Term.{Term}
use Rattle.submission.specs.Computed.{are_inverse}
use Rattle.submission.specs.Code.{IsTerm}

-- what two records say of their terms
pub inverse_records : {s : List ℕ} {i j : ℕ} {a b : Term} {r : Bool} → IsTerm s i a → IsTerm s j b → r ≡ (inverse_kinds a.kind b.kind && (eqb a.x b.x && eqb a.y b.y)) → r ≡ are_inverse s i j
unfolding are_inverse
inverse_records p q e = rw (← p.kind, ← q.kind, ← p.x, ← q.x, ← p.y, ← q.y) e
