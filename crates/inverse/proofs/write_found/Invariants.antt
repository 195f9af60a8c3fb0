-- The bytes of the terms before this one are written.
use Rattle.inverse.proofs.CallReturns.{Writing}
use Rattle.inverse.proofs.write_found.Given as goal

abbrev pub invariant-loop-inverse : goal.invariant-loop-inverse
invariant-loop-inverse l = Writing l.table.bytes.now l.initial.writer l.inverse-index l.writer
