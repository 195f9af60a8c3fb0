-- `RecordChains::find` meets its contract: the search along the two chains of the record.
use Rattle.std.proofs.Common.{rules}
use Rattle.submission.specs.Code.{chained_by}
use Rattle.submission.proofs.RecordLookup.{row_test, row_found}
use Rattle.submission.proofs.chains.RecordChains.find.Goals as goal

pub returns : goal.returns
returns c = λ i p.
    row_found c.args.s.now 21 42 c.args.t c.find_in_both.result c.chain_of.ensures c.chain_of-2.ensures
    (c.find_in_both.ensures (chained_by 21 c.args.s.now) (chained_by 42 c.args.s.now) i p.first p.second) (λ n b d. search (row_test, rules))
