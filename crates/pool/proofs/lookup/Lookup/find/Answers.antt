-- `Lookup::find` meets its contract: all records are chained.
use Rattle.pool.proofs.lookup.Lookup.find.Goals as goal

pub returns : goal.returns
returns c = c.find.ensures _ c.args.self.chained
