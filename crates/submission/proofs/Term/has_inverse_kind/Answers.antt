-- `Term::has_inverse_kind` meets its contract: two kinds are read, or not.
use Rattle.std.proofs.Common.{rules}
use Rattle.term.proofs.KindLaws.{inverse_zipped}
use Rattle.submission.proofs.Term.has_inverse_kind.Goals as goal

pub returns : goal.returns
returns c = inverse_zipped _ _ _ _ c.kind.ensures c.kind-2.ensures (rw c.zip-kinds.ensures at c.is_some_and.ensures) (λ x p. search rules)
