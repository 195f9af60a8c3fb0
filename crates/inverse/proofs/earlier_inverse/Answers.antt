-- `earlier_inverse` meets its contract: the search along the chain opposite to the key's own.
use mathlib.Core.Path.{refl}
use Rattle.std.proofs.Common.{rules}
use Rattle.submission.specs.Computed.{are_inverse}
use Rattle.inverse.specs.Code.{key_chain}
use Rattle.inverse.proofs.KeyChains.{inverse_found}
use Rattle.inverse.proofs.earlier_inverse.Goals as goal

pub returns : goal.returns
unfolding are_inverse
returns c = λ k p q e.
    inverse_found c.args.table.bytes.now k c.find.result c.args.table.read.bytes e refl (c.find.ensures (key_chain c.args.table.bytes.now) k p) (λ j b d. search rules)
