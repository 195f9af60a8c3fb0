-- `has_bad_instruction` meets its contract: the chain tests the numbers below the count.
use Rattle.std.proofs.Common.{rules, refl, arith}
use Rattle.std.proofs.lemmas.Iterator.{YieldsList-from_range}
use Rattle.std.proofs.lemmas.Iterator.Search.{any_from_yields_List}
use Rattle.base.proofs.RangeTests.{any_of_range}
use Rattle.program.proofs.Theory.Check13.{bad_at}
use Rattle.program.proofs.has_bad_instruction.Goals as goal

pub returns : goal.returns
returns c =
    any_of_range (bad_at c.args.known c.args.program.now)
    (any_from_yields_List (bad_at c.args.known c.args.program.now) _ _ _ c.any.ensures.ran (YieldsList-from_range 0 c.byte.result c.byte.result refl (omega arith)) (λ x b q k. search rules))
    c.byte.ensures
