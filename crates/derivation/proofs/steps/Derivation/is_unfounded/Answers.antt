-- `Derivation::is_unfounded` is check 7 of a step: a look at the registers for each premise.
use Rattle.derivation.proofs.StepReturns.{first_unknown, second_decides}
use Rattle.derivation.proofs.steps.Derivation.is_unfounded.Goals as goal

pub returns-then-is_none : goal.returns-then-is_none
returns-then-is_none c = search first_unknown

pub returns-else-is_none : goal.returns-else-is_none
returns-else-is_none c = search second_decides
