-- `write` meets its contract: the checks in order, then the page.
use Rattle.std.proofs.Common.{rules}
use Rattle.form.proofs.WriteReturns.{refused_out}
use Rattle.form.proofs.write.Goals as goal

pub returns-in_err-read : goal.returns-in_err-read
returns-in_err-read c = refused_out _ _ _ c.in_err-read.field-0.0 c.in_err-read.ensures.answer (search rules)
