-- `guess_node` meets its contract: the guess is listed, and an atom.
use Rattle.machine.proofs.Theory.StartState.{guess_listed, guess_made}
use Rattle.machine.proofs.guess_node.Goals as goal

pub kind-requires : goal.kind-requires
kind-requires c = guess_listed c.args.submission.read c.table.ensures c.args.submission.claimed.guessed

pub returns : goal.returns
returns c = guess_made c.args.submission.read c.table.ensures c.args.submission.claimed.guessed c.kind.ensures c.args.name c.atom.ensures
