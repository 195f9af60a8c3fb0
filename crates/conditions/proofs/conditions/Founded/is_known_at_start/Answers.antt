-- `Founded::is_known_at_start`: the registers before step 0 are those of the knowledge and the guess.
use Rattle.std.proofs.Common.{rules}
use Rattle.conditions.proofs.Found.{register_found, known_at_start}
use Rattle.conditions.proofs.conditions.Founded.is_known_at_start.Goals as goal

pub returns : goal.returns
returns c =
    let e = register_found c.args.self.lowest c.args.t (search rules) c.lowest.ensures in
    known_at_start _ _ _ e _ c.entries-guess.ensures c.is_some_and.ensures (λ q h. search rules)
