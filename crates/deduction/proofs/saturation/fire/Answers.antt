-- `fire` meets its contract: the walk along the records that wait for u.
use Rattle.deduction.proofs.Firing.{firing_start, firing_below, firing_ready, firing_more, firing_less, firing_end}
use Rattle.std.proofs.Common.{rules}
use Rattle.deduction.proofs.saturation.fire.Goals as goal

pub loop-next-init : goal.loop-next-init
loop-next-init c = search (firing_start, rules)

pub fire_one-requires : goal.fire_one-requires
fire_one-requires c = record { t_bound = search (firing_below, rules); queue = search rules; ready = search (firing_ready, rules) }

pub loop-next-smaller : goal.loop-next-smaller
loop-next-smaller c = search (firing_less, rules)

pub loop-next-preserved : goal.loop-next-preserved
loop-next-preserved c = search (firing_more, rules)

pub returns : goal.returns
returns c = search (firing_end, rules)
