-- `checker_inverses` meets its contract: the answer of `inverses`, as one number.
use Rattle.checker.proofs.EncodingReturns.{inverses_as}
use Rattle.checker.proofs.calls.checker_inverses.Goals as goal

pub returns : goal.returns
returns c = search inverses_as
