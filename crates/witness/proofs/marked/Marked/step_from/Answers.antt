-- `Marked::step_from` meets its contract: a term that comes from its own record is built.
use Rattle.witness.proofs.StepsFrom.{built_compound}
use Rattle.witness.proofs.marked.Marked.step_from.Goals as goal

pub built_step-requires : goal.built_step-requires
built_step-requires c = built_compound c.args.self.openings.now.table.read c.requires c.if-u-n.true
