-- The answers: the returns of `are_built`, `are_deducible` and `is_deducible`.
use mathlib.Core.Path.{◌≡◌, ap₂, ◌∙◌, refl}
use mathlib.Core.Bool.{Bool, true, false, ◌&&◌}
use mathlib.Core.List.{List}
use Prim.Native.Nat.{ℕ, ◌<◌}
use Rattle.submission.specs.Record.{terms}
use Rattle.deduction.specs.Computed.{built, entry_marks, is_deducible}
use Rattle.submission.specs.Code.{TableRead}
use Rattle.deduction.specs.Code.{Marks, reached_of, SameMarks}
use Rattle.deduction.specs.Saturation.{Exact}
use Rattle.deduction.proofs.Theory.Exactness.{same_start}
use Rattle.submission.proofs.Theory.ListedTerms.{facts}

-- ---- the build test over saturated marks
pub both_deducible : {s : List ℕ} {known : Marks} {start : List Bool} {p q : ℕ} {r : Bool} → Exact s start known → p < terms s → q < terms s →
    r ≡ (built s (reached_of known) p && built s (reached_of known) q) → r ≡ (is_deducible s start p && is_deducible s start q)
both_deducible {p = p} {q = q} x b c e = e ∙ ap₂ ◌&&◌ (x.is p b) (x.is q c)

-- ---- from the knowledge
twice : (b : Bool) → (b && b) ≡ b
twice true = refl
twice false = refl

module _ {s : List ℕ} (start : List Bool) (v : TableRead s) (m : SameMarks s start (entry_marks s)) where
  pub both_known : {p q : ℕ} {r : Bool} → p < terms s → q < terms s → r ≡ (is_deducible s start p && is_deducible s start q) →
      r ≡ (is_deducible s (entry_marks s) p && is_deducible s (entry_marks s) q)
  both_known {p} {q} b c e = e ∙ ap₂ ◌&&◌ (same_start (facts v) m p b) (same_start (facts v) m q c)

  -- and of the one term twice
  pub said_known : {t : ℕ} {b : Bool} → t < terms s → b ≡ (is_deducible s start t && is_deducible s start t) → b ≡ is_deducible s (entry_marks s) t
  said_known {t = t} l e = both_known l l e ∙ twice (is_deducible s (entry_marks s) t)
