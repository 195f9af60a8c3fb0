-- `checker_run` meets its contract: the answer of `run`.
use Rattle.checker.proofs.EncodingReturns.{encoded_as}
use Rattle.checker.proofs.calls.checker_run.Goals as goal

pub returns : goal.returns
returns c = search encoded_as
