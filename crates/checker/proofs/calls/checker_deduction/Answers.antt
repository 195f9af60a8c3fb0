-- `checker_deduction` meets its contract: the answer of `deduction`, as one number.
use Rattle.witness.proofs.Theory.WrittenDeduction.{said_as}
use Rattle.checker.proofs.EncodingReturns.{encoded_as}
use Rattle.checker.proofs.calls.checker_deduction.Goals as goal

pub returns : goal.returns
returns c = search (said_as, encoded_as)
