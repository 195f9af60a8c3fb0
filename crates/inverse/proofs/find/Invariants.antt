-- `find` meets its contract: the inverses among the first k terms are noted, and their keys are chained.
use Rattle.base.specs.Code.{Chaining}
use Rattle.inverse.specs.Code.{key_chain, Found}
use Rattle.inverse.proofs.find.Given as goal

abbrev pub invariant-loop-k : goal.invariant-loop-k
invariant-loop-k l = Found l.table.bytes.now l.k l.found × Chaining (key_chain l.table.bytes.now) l.k l.chains.before l.chains.latest
