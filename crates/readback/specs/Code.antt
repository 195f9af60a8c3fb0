-- What the code's arrays and requirements mean.
use Rattle.std.specs.Prelude.{◌≡◌, ◌<◌}
use Rattle.base.specs.{Words.false, Words.none, Words.List, Words.ℕ, Words.length, Words.get_or, Words.first, Words.byte}
use Rattle.submission.specs.{Record.terms, Code.SubmissionRead}
use Rattle.derivation.specs.Step.{written}
use Rattle.program.specs.{Program.test_at, Computed.bad_program}
use Rattle.readback.specs.{ReadBack.number, Computed.off_table, Computed.no_claim}

-- a submission and a program that passed checks 1 to 5, 13 and 17; l has the number of each register's term
pub record Numbered (s P l : List ℕ) : Type 0 where
  pub read : SubmissionRead s
  pub good : bad_program s P ≡ false
  pub table : first (off_table s P) (written s (byte P 0)) ≡ none
  pub long : length l ≡ 256
  pub below : (r : ℕ) → r < written s (byte P 0) → get_or l r 0 < terms s
  pub is : (r : ℕ) → r < written s (byte P 0) → get_or l r 0 ≡ number s P r

-- and check 18 too
pub record Claimable (s P l : List ℕ) : Type 0 where
  pub numbered : Numbered s P l
  pub claimed : no_claim s (test_at P) ≡ false
