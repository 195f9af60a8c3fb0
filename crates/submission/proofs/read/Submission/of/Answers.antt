-- `Submission::of`: the letter of a claim that passed check 5 is a way's.
use Rattle.submission.proofs.PassedChecks.{way_decoded}
use Rattle.submission.proofs.read.Submission.of.Goals as goal

pub unwrap-claimed-requires : goal.unwrap-claimed-requires
unwrap-claimed-requires c = way_decoded _ c.requires c.of.ensures.stranger
