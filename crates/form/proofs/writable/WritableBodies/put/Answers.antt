-- The contents, then the bodies.
use Rattle.base.proofs.PutLaws.{wrote_then}
use Rattle.submission.specs.Body.{submission_of}
use Rattle.form.proofs.writable.WritableBodies.put.Goals as goal

pub returns : goal.returns
unfolding submission_of
returns c = wrote_then (wrote_then (wrote_then (wrote_then c.put_contents.ensures c.put_all.ensures) c.put_all-2.ensures) c.put_all-3.ensures) c.put_all-4.ensures
