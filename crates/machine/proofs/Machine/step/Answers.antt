-- `step` executes one instruction: each rule's reduction, by case, and the result in the next register.
use mathlib.Core.Path.{ap, ◌∙◌}
use Rattle.term.proofs.Numbered.{arms}
use Rattle.machine.specs.Code.{cancelled_node}
use Rattle.machine.proofs.Theory.NodeReductions.{reduction}
use Rattle.machine.proofs.Theory.InstructionResult.{left_in, right_in, key_in, executed_so}
use native.Mathlib.Omega.{arith}
use Rattle.std.proofs.Common.{rules}
use Rattle.machine.proofs.Machine.step.Goals as goal
use Rattle.machine.proofs.Machine.step.Goals.{in-0, in-1, in-2, in-3, in-4, in-5, in-6, in_default}

pub operands-o-requires : goal.operands-o-requires
operands-o-requires c =
    let left = left_in c.requires c.from-p.ensures c.from-q.ensures c.operand.ensures in
    let right = right_in c.requires c.from-p.ensures c.from-q.ensures c.operand.ensures in
    record { a_bound = omega (arith, left, c.requires.room); b_bound = omega (arith, right, c.requires.room); key_bound = search key_in }

pub value_of-found-requires : goal.value_of-found-requires
value_of-found-requires c = record { left_bound = search left_in; used_bound = search rules }

pub returns : goal.returns
returns c =
    let pre = c.requires in
    let rule = pre.rule in
    executed_so pre c.from-p.ensures c.from-q.ensures c.operand.ensures c.operands-o.ensures
    (elim c.match-rule.branch [
      | in-0 w ↦ reduction _ _ rule (w.reduced-is ∙ w.joined-reduced.ensures) (search arms)
      | in-1 w ↦ reduction _ _ rule (w.reduced-is ∙ w.parted-reduced.ensures) (search arms)
      | in-2 w ↦ reduction _ _ rule (w.reduced-is ∙ w.parted-reduced-in-2.ensures) (search arms)
      | in-3 w ↦ reduction _ _ rule (w.reduced-is ∙ w.cancelled-reduced.ensures) (search arms)
      | in-4 w ↦ reduction _ _ rule (w.reduced-is ∙ w.cancelled-reduced-in-4.ensures) (search arms)
      | in-5 w ↦ reduction _ _ rule (w.reduced-is ∙ w.cancelled-reduced-in-5.ensures ∙ ap (cancelled_node 6 c.operands-o.result.left) w.are_inverse.ensures) (search arms)
      | in-6 w ↦ reduction _ _ rule (w.reduced-is ∙ w.cancelled-reduced-in-6.ensures ∙ ap (cancelled_node 5 c.operands-o.result.left) w.are_inverse-in-6.ensures) (search arms)
      | in_default w ↦ reduction _ _ rule w.reduced-is (search (arms) depth 12)
    ])
    c.value_of-found.ensures c.place.ensures
