-- `show` meets its contract: no, or the deduction of a term that is reached.
use Rattle.std.proofs.Common.{rules}
use Rattle.witness.proofs.CallReturns.{from_knowledge, no_returned}
use Rattle.witness.proofs.show.Goals as goal

pub returns-then-is_none : goal.returns-then-is_none
returns-then-is_none c = search (no_returned, rules)

pub show-requires-clause-from_knowledge : goal.show-requires-clause-from_knowledge
show-requires-clause-from_knowledge c = search (from_knowledge, rules)
