-- Checks 14 and 2 in order, and what both say.
use Rattle.std.proofs.Common.{rules, sym, ◌∙◌}
use Rattle.base.proofs.AnswerLaws.{if_passes}
use Rattle.form.proofs.ContentsReturns.{limits_listed}
use Rattle.form.proofs.Theory.WritableBodies.{writable}
use Rattle.form.proofs.writable.WritableBodies.read.Goals as goal

pub returns-in_err-check_limits-clause-answer : goal.returns-in_err-check_limits-clause-answer
returns-in_err-check_limits-clause-answer c = rw (← c.in_ok-check_whole.ensures, ← (limits_listed _ c.counts.ensures)) (search rules)

pub invariant_of-result : goal.invariant_of-result
invariant_of-result c =
    record { writable = writable _ ((if_passes _ 14 0).0 (sym c.in_ok-check_whole.ensures)) (sym (limits_listed _ c.counts.ensures) ∙ sym c.in_ok-check_limits.ensures) }
