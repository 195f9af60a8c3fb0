-- The loop of `knowledge_marks`: after all entries the marks are those of the knowledge.
use mathlib.Core.Path.{◌≡◌}
use mathlib.Core.Bool.{Bool}
use mathlib.Core.List.{List}
use Prim.Native.Nat.{ℕ, ◌≤◌}
use native.Mathlib.Omega.{arith}
use Rattle.base.specs.Code.{Flagged}
use Rattle.base.proofs.Says.{same_test}
use Rattle.submission.specs.Record.{entries, entry_at}
use Rattle.deduction.specs.Computed.{entry_marks}
use Rattle.deduction.specs.Code.{SameMarks}
use Rattle.deduction.proofs.Theory.Exactness.{says_entry}

pub entered_all : (s : List ℕ) {l : List Bool} {i n : ℕ} → Flagged (entry_at s) i l → i ≤ entries s → n ≤ i → n ≡ entries s → SameMarks s l (entry_marks s)
entered_all s {l} {i} {n} p a b e = record {
  same = λ k o. same_test _ _ (
    λ m. let (r, c, f) = p.only k m in (r, omega arith, f),
    λ (r, c, f). rw f at (p.holds r (omega arith)),
  )
      (says_entry s k o);
}
