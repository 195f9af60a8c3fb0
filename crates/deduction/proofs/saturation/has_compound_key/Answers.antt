-- `has_compound_key` meets its contract: the chain tests the numbers below T.
use Rattle.std.proofs.Common.{rules, refl, arith}
use Rattle.std.proofs.lemmas.Iterator.{YieldsList-from_range}
use Rattle.std.proofs.lemmas.Iterator.Search.{any_from_yields_List}
use Rattle.base.proofs.RangeTests.{any_of_range}
use Rattle.deduction.specs.Code.{has_hash_key}
use Rattle.deduction.proofs.saturation.has_compound_key.Goals as goal

pub returns : goal.returns
returns c =
    any_of_range (has_hash_key c.args.s.now)
    (any_from_yields_List (has_hash_key c.args.s.now) _ _ _ c.any.ensures.ran (YieldsList-from_range 0 c.terms.result c.terms.result refl (omega arith)) (λ x b q k. search rules))
    c.terms.ensures
