-- `Marked::put_steps` meets its contract: the records of the steps before this one are written.
use Rattle.std.proofs.Common.{rules, sym, ◌∙◌}
use Rattle.witness.proofs.ShownSteps.{putting_none, putting_more, putting_end, has_step, the_step}
use Rattle.witness.proofs.marked.Marked.put_steps.Goals as goal

pub loop-n-init : goal.loop-n-init
loop-n-init c = putting_none

pub concluding_step-requires : goal.concluding_step-requires
concluding_step-requires c = has_step c.requires c.loop-n-test.true

pub loop-n-preserved : goal.loop-n-preserved
loop-n-preserved c =
    let step = the_step c.requires c.loop-n-test.true (sym c.unwrap-step.ensures ∙ c.concluding_step.ensures) in
    putting_more c.loop-n.invariant c.loop-n-test.true step c.put_array.ensures

pub returns : goal.returns
returns c = search (putting_end, rules)
