use Rattle.std.proofs.Common.{rules}
use Rattle.witness.proofs.ShownSteps.{part_steps}
use Rattle.witness.proofs.CallReturns.{yes_returned}
use Rattle.witness.proofs.marked.Marked.show.Goals as goal

pub put_steps-requires : goal.put_steps-requires
put_steps-requires c = part_steps c.choose-choice.ensures.steps

pub returns : goal.returns
returns c = yes_returned c.args.self.openings.now.table.read c.requires.t_bound c.args.page.now c.requires.in_bounds c.requires.from_knowledge c.requires.reached c.choose-choice.ensures c.put_steps.ensures (search rules)
