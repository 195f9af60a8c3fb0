-- `Table::kind`: a listed term's record is of some kind.
use Rattle.submission.proofs.PassedChecks.{kind_listed}
use Rattle.submission.proofs.read.Table.kind.Goals as goal

pub unwrap-requires : goal.unwrap-requires
unwrap-requires c = kind_listed _ c.args.self.read c.requires c.term.ensures c.kind.ensures
