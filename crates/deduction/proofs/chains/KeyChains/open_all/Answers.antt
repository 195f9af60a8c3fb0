-- `open_all` meets its contract: the terms before `head` are taken apart.
use Rattle.deduction.proofs.Firing.{open_start, next_inside, next_term, next_marked, open_still, next_less, open_more, open_end}
use Rattle.std.proofs.Common.{rules}
use Rattle.deduction.proofs.chains.KeyChains.open_all.Goals as goal

pub loop-head-init : goal.loop-head-init
loop-head-init c = search (open_start, rules)

pub bounds-work-head : goal.bounds-work-head
bounds-work-head c = search (next_inside, rules)

pub take_apart-requires : goal.take_apart-requires
take_apart-requires c = record { u_bound = search (next_term, rules); queue = search rules; reached = search (next_marked, rules) }

pub fire-requires : goal.fire-requires
fire-requires c = record { chaining = search rules; queue = search rules; u_bound = search (next_term, rules); reached = search (open_still, rules) }

pub loop-head-smaller : goal.loop-head-smaller
loop-head-smaller c = search (next_less, rules)

pub loop-head-preserved : goal.loop-head-preserved
loop-head-preserved c = search (open_more, rules)

pub returns : goal.returns
returns c = record { grown = search rules; open_to_2 = search (open_end, rules) }
