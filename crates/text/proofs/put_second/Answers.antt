-- Under a rule with two operands, a space and the register.
use mathlib.Core.Bool.{false}
use Rattle.std.proofs.Common.{◌≡◌}
use Rattle.base.proofs.PutLaws.{wrote_then}
use Rattle.term.specs.Number.{has_one}
use Rattle.text.proofs.put_second.Goals as goal

pub returns-then-not-has_one : goal.returns-then-not-has_one
returns-then-not-has_one c = let e : has_one c.args.rule ≡ false = cc in rw (e, ← c.from.ensures) (wrote_then c.put.ensures c.put_register.ensures)
