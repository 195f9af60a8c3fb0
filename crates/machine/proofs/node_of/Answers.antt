-- `node_of` meets its contract: an atom, or a compound term.
use Rattle.machine.proofs.Theory.StartState.{node_atomic, node_compound}
use Rattle.machine.proofs.node_of.Goals as goal

pub returns-in_default : goal.returns-in_default
returns-in_default c = node_atomic _ c.table-table.ensures c.term-term.ensures c.kind-kind.ensures c.rule.ensures c.in_default.is c.name.ensures c.atom.ensures

pub returns : goal.returns
returns c = node_compound _ c.table-table.ensures c.term-term.ensures c.kind-kind.ensures c.rule.ensures c.in-Some.is c.from.ensures c.second_part.ensures c.from-2.ensures
