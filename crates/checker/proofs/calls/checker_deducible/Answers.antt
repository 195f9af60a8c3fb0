-- `checker_deducible` meets its contract: the answer of `deducible`.
use Rattle.checker.proofs.EncodingReturns.{encoded_as}
use Rattle.checker.proofs.calls.checker_deducible.Goals as goal

pub returns : goal.returns
returns c = search encoded_as
