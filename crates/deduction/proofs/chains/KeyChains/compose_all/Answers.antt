-- `compose_all` meets its contract: what is built of the terms before `head` is marked.
use Rattle.deduction.proofs.Firing.{compose_start, next_inside, next_term, next_marked, next_less, compose_more, compose_end}
use Rattle.std.proofs.Common.{rules}
use Rattle.deduction.proofs.chains.KeyChains.compose_all.Goals as goal

pub loop-head-init : goal.loop-head-init
loop-head-init c = search (compose_start, rules)

pub bounds-work-head : goal.bounds-work-head
bounds-work-head c = search (next_inside, rules)

pub compose-requires : goal.compose-requires
compose-requires c = record { queue = search rules; open_to = search rules; u_bound = search (next_term, rules); reached = search (next_marked, rules) }

pub loop-head-smaller : goal.loop-head-smaller
loop-head-smaller c = search (next_less, rules)

pub loop-head-preserved : goal.loop-head-preserved
loop-head-preserved c = search (compose_more, rules)

pub returns : goal.returns
returns c = record { grown = search rules; open_to_2 = search rules; composed_to = search (compose_end, rules) }
