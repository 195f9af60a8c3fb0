-- `chain_records` meets its contract: the records before i are chained.
use Rattle.std.proofs.Common.{arith, ◌≡◌}
use Rattle.submission.specs.Record.{terms}
use Rattle.pool.proofs.lookup.chain_records.Goals as goal

pub loop-i-init : goal.loop-i-init
loop-i-init c = c.requires

pub loop-i-preserved : goal.loop-i-preserved
loop-i-preserved c = c.add.ensures _ c.loop-i.invariant c.term.ensures

pub returns : goal.returns
returns c = let e : c.loop-i.i ≡ terms c.args.table.bytes.now = omega arith in rw (← e) c.loop-i.invariant
