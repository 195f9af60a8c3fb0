-- `is_repeated` meets its contract: the record found that equals t.
use Rattle.submission.proofs.TermTests.{repeated_found}
use Rattle.submission.proofs.is_repeated.Goals as goal

pub returns : goal.returns
returns c = λ i p q. repeated_found c.args.s.now c.find.result q (c.find.ensures i p) c.is_some.ensures
