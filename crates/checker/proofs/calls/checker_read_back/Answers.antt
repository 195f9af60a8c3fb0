-- `checker_read_back` meets its contract: the answer of `read_back`, as one number.
use Rattle.checker.proofs.EncodingReturns.{bodies_as}
use Rattle.checker.proofs.calls.checker_read_back.Goals as goal

pub returns : goal.returns
returns c = search bodies_as
