-- A premise that was known before its step: its lowest register is the one that the registers after the last step name.
use mathlib.Core.Path.{◌≡◌}
use mathlib.Core.Bool.{true, false}
use mathlib.Core.List.{List}
use mathlib.Core.Option.{some}
use Prim.Native.Nat.{ℕ, ◌≤◌, ◌<◌}
use native.Mathlib.Omega.{arith}
use borrow.Author.Tests.{not-false}
use Rattle.base.proofs.Says.{says_and, says_true}
use Rattle.base.proofs.First.{first_some}
use Rattle.base.proofs.FirstGrowing.{first_kept, any_first, any_more}
use Rattle.submission.specs.Record.{steps, p_at, second_at}
use Rattle.derivation.specs.{Step.written, Computed.lowest_among, Computed.is_known}
use Rattle.derivation.specs.Computed.{unfounded}

-- a founded step's premises are known before it
module _ (s : List ℕ) (i : ℕ) (f : unfounded s i ≡ false) where
  pub first_known : is_known s i (p_at s i) ≡ true
  unfolding unfounded
  first_known = ((says_and (is_known s i (p_at s i)) (is_known s i (second_at s i)) (says_true _) (says_true _)).0 (not-false _ f)).0

  pub second_known : is_known s i (second_at s i) ≡ true
  unfolding unfounded
  second_known = ((says_and (is_known s i (p_at s i)) (is_known s i (second_at s i)) (says_true _) (says_true _)).0 (not-false _ f)).1

-- what is known before a step is in a register written before it, and that one stays the lowest
module _ (s : List ℕ) (i t : ℕ) (l : i ≤ steps s) (k : is_known s i t ≡ true) where
  pub known_lowest : (q : ℕ) × (lowest_among s (written s (steps s)) t ≡ some q) × (q < written s i)
  known_lowest =
      let (q, e) = any_first _ (written s i) k in
      (q, first_kept _ (written s i) (written s (steps s)) q (omega arith) e, (first_some _ (written s i) q e).0)

-- what is known before a step is known before every later one
pub known_stays : (s : List ℕ) (i j t : ℕ) → i ≤ j → is_known s i t ≡ true → is_known s j t ≡ true
known_stays s i j t l k = any_more _ (written s i) (written s j) (omega arith) k
