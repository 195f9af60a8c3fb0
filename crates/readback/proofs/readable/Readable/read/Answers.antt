-- `read` meets its contract: checks 17 and 18.
use Rattle.readback.proofs.PageReturns.{claimable}
use Rattle.readback.proofs.readable.Readable.read.Goals as goal

pub invariant_of-result : goal.invariant_of-result
invariant_of-result c = record {
  claimable = claimable c.args.checked.submission.read c.args.checked.good c.requires c.check_listed.ensures c.in_ok-check_listed.was c.check_claimed.ensures c.in_ok-check_claimed.was;
}
