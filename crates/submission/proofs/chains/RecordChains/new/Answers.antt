-- `RecordChains::new` meets its contract: both kinds of chains begin empty.
use Rattle.submission.proofs.RecordLookup.{none_chained}
use Rattle.submission.proofs.chains.RecordChains.new.Goals as goal

pub returns : goal.returns
returns c = λ s. record { first = none_chained 21 s c.new.ensures.before c.new.ensures.latest; second = none_chained 42 s c.new-2.ensures.before c.new-2.ensures.latest }
