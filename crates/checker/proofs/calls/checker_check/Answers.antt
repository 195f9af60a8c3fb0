-- `checker_check` meets its contract: what `answer` returns, as one number.
use Rattle.checker.proofs.EncodingReturns.{written_as}
use Rattle.checker.proofs.calls.checker_check.Goals as goal

pub returns : goal.returns
returns c = search written_as
