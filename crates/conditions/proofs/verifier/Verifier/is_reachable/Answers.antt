-- `Verifier::is_reachable`: both premises are listed terms. `using` does not find these goals, so the lemmas are named here.
use Rattle.conditions.proofs.PassedFacts.{founded}
use Rattle.deduction.proofs.CallReturns.{both_known}
use Rattle.conditions.proofs.verifier.Verifier.is_reachable.Goals as goal

pub are_deducible-requires-clause-p_bound : goal.are_deducible-requires-clause-p_bound
are_deducible-requires-clause-p_bound c = search founded

pub returns : goal.returns
returns c = search (both_known, founded)
