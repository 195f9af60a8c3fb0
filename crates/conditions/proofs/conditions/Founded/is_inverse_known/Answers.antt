-- `Founded::is_inverse_known`: the inverse is in a register.
use Rattle.base.proofs.Scan.{scan}
use Rattle.base.proofs.TestChains.{chain}
use Rattle.conditions.proofs.Found.{register_found, known_at_end}
use Rattle.conditions.proofs.conditions.Founded.is_inverse_known.Goals as goal

pub returns-then-are_inverse : goal.returns-then-are_inverse
returns-then-are_inverse c =
    let e = known_at_end _ _ _ (register_found c.args.self.lowest c.args.j (search scan) c.lowest.ensures) in
    search (chain, scan)
