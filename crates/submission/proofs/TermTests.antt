-- Checks 3 and 4, one test at a time: a record that is repeated, and an entry.
use mathlib.Core.Path.{◌≡◌, sym, ap, ◌∙◌}
use mathlib.Core.Bool.{Bool, true, false}
use mathlib.Core.List.{List}
use Prim.Native.Nat.{ℕ, ◌<◌, ◌≤◌}
use native.Mathlib.Nat.{le_refl}
use native.Mathlib.Omega.{arith}
use lib.Dec.{ltb}
use lib.ListN.{get_or}
use borrow.Author.Tests.{lt-ltb, le-ltb}
use Rattle.base.specs.{Computed.any, Code.is_some, Code.Flagged}
use Rattle.std.specs.Prelude.{Option as Maybe, Some, None, is_some as maybe_some}
use Rattle.base.proofs.First.{first_found}
use Rattle.base.proofs.Scan.{false_any}
use Rattle.base.proofs.Says.{denies}
use Rattle.base.proofs.Stores.{flagged_any}
use Rattle.submission.specs.declared.Term.{Term}
use Rattle.submission.specs.Record.{terms, entry_at}
use Rattle.submission.specs.Code.{IsTerm, RecordFound}
use Rattle.submission.specs.Computed.{same_record, bad_knowledge}
use Rattle.submission.proofs.Theory.GoodRecord.{says_same}

-- ---- a repeated record: the record found among the earlier ones that equals record i, which is t
pub repeated_found : (s : List ℕ) {i : ℕ} {t : Term} (o : Maybe ℕ) {r : Bool} → IsTerm s i t → RecordFound s i t o → r ≡ maybe_some o → r ≡ any (same_record s i) i
unfolding any
repeated_found s {i} None q f e =
    e ∙ false_any (record { within = le_refl i; failed = λ k l. (denies _ (says_same s i k)).1 (λ (k, (x, y)). f _ l (record { kind = q.kind ∙ sym k; x = q.x ∙ sym x; y = q.y ∙ sym y })) }) (le_refl i)
repeated_found s {i} (Some j) q (l, p) e =
    let (k, g, u, v) = first_found (same_record s i) i j l ((says_same s i j).1 (sym p.kind ∙ q.kind, (sym p.x ∙ q.x, sym p.y ∙ q.y))) in
    e ∙ sym (ap is_some g)

-- ---- an entry of the knowledge
module _ (s : List ℕ) (i : ℕ) {t n : ℕ} (e : t ≡ entry_at s i) (f : n ≡ terms s) where
  pub entry_seen : {seen : List Bool} {w : ℕ} → Flagged (entry_at s) i seen → t < n → w ≡ t → get_or seen w false ≡ bad_knowledge s i
  unfolding bad_knowledge
  entry_seen p l g = let b : ltb (entry_at s i) (terms s) ≡ true = lt-ltb (entry_at s i) (terms s) (omega arith) in rw b (flagged_any p (g ∙ e))

  pub entry_high : n ≤ t → true ≡ bad_knowledge s i
  unfolding bad_knowledge
  entry_high l = let b : ltb (entry_at s i) (terms s) ≡ false = le-ltb (entry_at s i) (terms s) (omega arith) in rw b
