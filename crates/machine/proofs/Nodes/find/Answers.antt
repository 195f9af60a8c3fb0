-- `find` meets its contract: the first of the numbers at which the node stands.
use mathlib.Core.Path.{◌≡◌}
use Rattle.std.proofs.Common.{rules}
use Rattle.std.proofs.lemmas.Iterator.{first_from_Range}
use Rattle.machine.specs.Code.{node_of}
use Rattle.machine.proofs.Theory.NodeSearch.{found_among}
use Rattle.machine.proofs.Nodes.find.Goals as goal

pub returns : goal.returns
returns c =
    let ns = c.args.self.now.items in
    let v = c.args.v in
    found_among ns v _ _ c.find.result
    (first_from_Range _ _ _ _ (λ i. node_of ns i ≡ v) (λ i. node_of ns i ≡ v → ⊥) c.find.ensures.ran (λ x q k. search rules) (λ x q k. search rules))
