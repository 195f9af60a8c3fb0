-- `Marked::choose` meets its contract: the terms of the order are treated from the last on.
use Rattle.std.proofs.Common.{rules, ap, ◌∙◌}
use Rattle.witness.proofs.ChoiceLaws.{leaving_none, leaving_ends, leaving_room, leaving_more, leaving_end}
use Rattle.witness.proofs.marked.Marked.choose.Goals as goal

pub loop-n-init : goal.loop-n-init
loop-n-init c =
    let rest = ap (λ r. r.iter.rest.now) c.into_iter-n-iterator.ensures.into_iter_gives ∙ ap (λ i. i.rest.now) c.rev-n-items.ensures.source ∙ c.iter.ensures.rest in
    leaving_none c.args.self.openings.now.table.read c.requires.queue c.requires.t_bound c.requires.reached (search rules) c.from.ensures rest

pub choose-requires-clause-started_or_has_step : goal.choose-requires-clause-started_or_has_step
choose-requires-clause-started_or_has_step c = leaving_ends _ _ c.args.self.openings.now.table.read c.requires.queue c.loop-n.invariant c.in-Some.ensures.steps

pub choose-requires-clause-from_nonzero : goal.choose-requires-clause-from_nonzero
choose-requires-clause-from_nonzero c = leaving_room _ _ c.args.self.openings.now.table.read c.requires.queue c.loop-n.invariant c.in-Some.ensures.steps

pub loop-n-preserved : goal.loop-n-preserved
loop-n-preserved c = leaving_more _ _ c.args.self.openings.now.table.read c.requires.queue c.loop-n.invariant c.in-Some.ensures.steps c.choose.ensures

pub returns : goal.returns
returns c = leaving_end c.args.self.openings.now.table.read c.requires.queue c.loop-n.invariant c.in-None.ensures.steps.0
