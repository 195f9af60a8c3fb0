-- `push` meets its contract: there is room for a term that is not marked, and for every other still.
use Prim.Native.Nat.{◌<◌}
use native.Mathlib.Omega.{arith}
use Rattle.deduction.proofs.MarkArrays.{told_none}
use Rattle.deduction.proofs.MarkOrder.{push_room, room_more}
use Rattle.deduction.proofs.worklist.Worklist.push.Goals as goal

pub bounds-self-self : goal.bounds-self-self
bounds-self-self c = let b : c.from-i.result < 256 = omega arith in push_room c.args.self.now.room b (told_none _ c.is_some.ensures c.if-is_some.false)

pub invariant_of-self : goal.invariant_of-self
invariant_of-self c =
    let b : c.from-i.result < 256 = omega arith in
    record { room = room_more c.args.t c.args.origin c.args.self.now.room b (told_none _ c.is_some.ensures c.if-is_some.false) }
