-- The letter r, then the number.
use Rattle.base.proofs.PutLaws.{wrote_then}
use Rattle.text.proofs.put_register.Goals as goal

pub returns : goal.returns
returns c = wrote_then c.put.ensures c.put_number.ensures
