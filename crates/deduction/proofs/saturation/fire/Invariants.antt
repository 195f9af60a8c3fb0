-- `fire` meets its contract: the walk along the records that wait for u.
use Rattle.base.proofs.Chains.{bound_of}
use Rattle.deduction.proofs.Firing.{Firing}
use Rattle.deduction.proofs.saturation.fire.Given as goal

abbrev pub invariant-loop-next : goal.invariant-loop-next
invariant-loop-next l = Firing l.openings.table.bytes.now l.role l.u l.initial.work.marks l.initial.work.order l.initial.work.end l.work.marks l.work.order l.work.end l.next

abbrev pub decreases-loop-next : goal.decreases-loop-next
decreases-loop-next l = bound_of l.next
