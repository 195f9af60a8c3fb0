-- `are_inverse` meets its contract: what the two records say.
use Rattle.submission.proofs.InverseTests.{inverse_records}
use Rattle.submission.proofs.are_inverse.Goals as goal

pub returns : goal.returns
returns c = search inverse_records
