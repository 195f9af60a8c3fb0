-- `Derivation::registers` writes the knowledge's registers in order, then the guess's.
use Rattle.derivation.proofs.RegistersHeld.{registered_none, entry_written, guess_written, guess_skipped}
use Rattle.derivation.proofs.steps.Derivation.registers.Goals as goal

pub loop-i-init : goal.loop-i-init
loop-i-init c = search registered_none

pub loop-i-preserved : goal.loop-i-preserved
loop-i-preserved c = search entry_written

pub returns-then-guess_counts : goal.returns-then-guess_counts
returns-then-guess_counts c = search guess_written

pub returns-else-guess_counts : goal.returns-else-guess_counts
returns-else-guess_counts c = search guess_skipped
