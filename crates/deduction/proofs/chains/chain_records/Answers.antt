-- `chain_records` meets its contract: the records before i are linked.
use native.Mathlib.Omega.{arith}
use Rattle.deduction.proofs.Clauses.{linked_start, linked_apart, linked_more, linked_end}
use Rattle.std.proofs.Common.{rules}
use Rattle.deduction.proofs.chains.chain_records.Goals as goal

pub loop-i-init : goal.loop-i-init
loop-i-init c = (omega arith, search (linked_start, rules))

pub loop-i-preserved-in_default : goal.loop-i-preserved-in_default
loop-i-preserved-in_default c = (omega arith, search (linked_apart, rules))

pub loop-i-preserved : goal.loop-i-preserved
loop-i-preserved c = (omega arith, search (linked_more, rules))

pub returns : goal.returns
returns c = search (linked_end, rules)
