-- `Derivation::from`: what checks 1 to 4 say of the counts.
use Rattle.submission.proofs.PassedChecks.{body_passes, limited}
use Rattle.derivation.proofs.steps.DerivationFromSubmission.from.Goals as goal

pub invariant_of-result : goal.invariant_of-result
invariant_of-result c =
    record { limited = limited _ (body_passes _ c.args.submission.read.passed); claimed = c.args.submission.claimed }
