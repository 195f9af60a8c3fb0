-- The library's digits are those of the definition.
use Rattle.std.proofs.Common.{◌∙◌}
use Rattle.text.proofs.Theory.Decimal.{decimal_is}
use Rattle.text.proofs.put_number.Goals as goal

pub returns : goal.returns
returns c = rw (c.as_bytes.ensures.value ∙ c.format.ensures.text ∙ decimal_is c.args.n c.ranges.n.fits) at c.put_all.ensures
