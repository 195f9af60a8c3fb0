-- `Acceptable::lowest`: a term that is known has a register. `using` does not find this goal, so the lemma is named here.
use Rattle.conditions.proofs.ProgramValue.{known}
use Rattle.conditions.proofs.page.Acceptable.lowest.Goals as goal

pub returns : goal.returns
returns c = search known
