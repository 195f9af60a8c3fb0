-- `pool_terms` meets its contract: the first's terms, and then the missing ones, for which the buffer has room.
use Rattle.std.proofs.Common.{ap}
use Rattle.submission.specs.Body.{Bodies}
use Rattle.pool.proofs.PutLaws.{filled, terms_room}
use Rattle.pool.proofs.pool_terms.Goals as goal

pub returns-clause-bytes : goal.returns-clause-bytes
returns-clause-bytes c =
    filled c.new-page.ensures.now c.told-buffer c.new-page.ensures.at (ap (λ (b : Bodies). b.terms) c.of.ensures) c.put_all.ensures c.in_ok-put_missing.ensures.page
    (terms_room c.args.first.read c.in_ok-put_missing.ensures.numbers)

pub chain_records-requires : goal.chain_records-requires
chain_records-requires c = c.new-chains.ensures _
