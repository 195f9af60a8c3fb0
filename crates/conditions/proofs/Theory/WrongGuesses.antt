-- The test of a wrong guess says what its definition says, in both directions.
use mathlib.Core.Logic.Iff
use mathlib.Core.List.{List}
use Prim.Native.Nat.{ℕ}
use Rattle.base.proofs.Says.{Says, says_eqb, says_and, says_not}
use Rattle.submission.specs.Record.{guessed}
use Rattle.submission.proofs.Theory.StaleTests.{says_stale}
use Rattle.conditions.specs.{Computed.is_wrong_guess, Demand.WrongGuess}

pub says_wrong : (s : List ℕ) (name : ℕ) → Says (is_wrong_guess s name) (WrongGuess s name)
unfolding is_wrong_guess
says_wrong s name =
    Iff.trans (says_and _ _ (says_not _ (says_eqb _ _)) (says_not _ (says_stale s (guessed s name))))
    (λ (o, f). record { other = o; fresh = f }, λ w. (w.other, w.fresh))
