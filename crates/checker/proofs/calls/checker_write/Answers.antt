-- `checker_write` meets its contract: the answer of `write`, as one number.
use Rattle.checker.proofs.EncodingReturns.{form_as}
use Rattle.checker.proofs.calls.checker_write.Goals as goal

pub returns : goal.returns
returns c = search form_as
