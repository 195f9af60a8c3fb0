-- `RecordChains::add` meets its contract: one record more in both kinds of chains.
use Rattle.submission.proofs.RecordLookup.{record_chained}
use Rattle.submission.proofs.chains.RecordChains.add.Goals as goal

pub returns : goal.returns
returns c = λ s p q. record {
  first = record_chained 21 s p.first c.requires q c.chain_of.ensures c.chain.ensures.before c.chain.ensures.latest;
  second = record_chained 42 s p.second c.requires q c.chain_of-2.ensures c.chain-2.ensures.before c.chain-2.ensures.latest;
}
