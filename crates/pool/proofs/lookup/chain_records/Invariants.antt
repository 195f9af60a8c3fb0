-- `chain_records` meets its contract: the records before i are chained.
use Rattle.submission.specs.Code.{RecordsChained}
use Rattle.pool.proofs.lookup.chain_records.Given as goal

abbrev pub invariant-loop-i : goal.invariant-loop-i
invariant-loop-i l = RecordsChained l.table.bytes.now l.i l.chains
