-- `check_claim` meets its contract: a letter that is no way, or the test's outcome.
use Rattle.submission.proofs.ClaimTests.{stranger_refused, claim_bad}
use Rattle.submission.proofs.check_claim.Goals.{in_default-via-in-Ok+else-is_claim_good, in_default-via-in_default}
use Rattle.submission.proofs.check_claim.Goals as goal

pub returns-in_default : goal.returns-in_default
returns-in_default c =
    elim c.in_default.branch [
      | in_default-via-in-Ok+else-is_claim_good w ↦
          claim_bad (rw w.in-Ok.ensures.same at w.is_claim_good.ensures) w.if-is_claim_good.false c.at.ensures.fault c.at.ensures.place
      | in_default-via-in_default w ↦ stranger_refused w.in_default.ensures.stranger c.at.ensures.fault c.at.ensures.place
    ]
