-- `Marked::concluding_step` meets its contract: a term's mark names a record that it comes from by a step.
use Rattle.std.proofs.Common.{◌≡◌}
use Rattle.deduction.specs.declared.worklist.Origin.TheVariants.{Record}
use Rattle.witness.proofs.ChoiceLaws.{step_of}
use Rattle.witness.proofs.marked.Marked.concluding_step.Goals as goal

pub step_from-requires : goal.step_from-requires
step_from-requires c =
    let record_is : c.in-Some-Record.field-0 ≡ Record c.in-Some-Record.u = rw c.in-Some-Record.is at c.in-Some-Record.field-0-is in
    step_of c.requires c.from.ensures c.in-Some-Record.is record_is
