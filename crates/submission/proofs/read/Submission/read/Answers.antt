-- `Submission::read`: the bytes passed checks 1 to 5.
use Rattle.base.proofs.StageLaws.{bytes}
use Rattle.submission.proofs.PassedChecks.{submission_read}
use Rattle.submission.proofs.read.Submission.read.Goals as goal

pub invariant_of-result : goal.invariant_of-result
invariant_of-result c =
    record {
      read = submission_read _ (bytes _ c.type_inv.bytes) c.check_reading.ensures.answer c.in_ok-claim.was;
      claimed = c.check_reading.ensures.claim _ c.in_ok-claim.was;
    }
