-- `compose` meets its contract: the two parts fire, then all is taken apart.
use Rattle.deduction.proofs.Firing.{first_still, both_later, both_open, composed}
use Rattle.std.proofs.Common.{rules}
use Rattle.deduction.proofs.chains.PartChains.compose.Goals as goal

pub fire-requires : goal.fire-requires
fire-requires c = let p = c.requires in record { chaining = search rules; queue = p.queue; u_bound = p.u_bound; reached = p.reached }

pub fire-requires-2 : goal.fire-requires-2
fire-requires-2 c =
    let p = c.requires in
    let fired = c.fire.ensures in
    record { chaining = search rules; queue = fired.grown.queue; u_bound = p.u_bound; reached = search (first_still, rules) }

pub open_all-requires : goal.open_all-requires
open_all-requires c = record { queue = c.fire-2.ensures.grown.queue; from_le_end = search (both_later, rules); open_to = search (both_open, rules) }

pub returns : goal.returns
returns c = search (composed, rules) depth 12
