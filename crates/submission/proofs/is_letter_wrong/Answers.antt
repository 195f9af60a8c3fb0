-- `is_letter_wrong` meets its contract: the four letters, one after the other.
use Rattle.std.proofs.Common.{rules, ◌*◌, not, eqb, ◌∷◌, []}
use Rattle.std.proofs.lemmas.Iterator.{YieldsList-from_slice}
use Rattle.std.proofs.lemmas.Iterator.Consumers.{YieldsList-from_enumerate}
use Rattle.std.proofs.lemmas.Iterator.Search.{any_from_yields_List}
use Rattle.base.specs.Words.{byte}
use Rattle.base.proofs.Says.{any_four}
use Rattle.std.proofs.Math.Bool.{or-false}
use Rattle.submission.proofs.is_letter_wrong.Goals as goal

pub returns : goal.returns
returns c =
    rw (any_four, ← (or-false (not (eqb (byte c.args.s.now 12) 86))))
    (any_from_yields_List (λ p. not (eqb (byte c.args.s.now (4 * p.0)) p.1)) _ _ _ c.any.ensures.ran
    (YieldsList-from_enumerate (YieldsList-from_slice (84 ∷ 75 ∷ 68 ∷ 86 ∷ []) (cc)) (cc)) (λ x b q k. search rules))
