-- `Step::follows`: a rule that takes nothing apart builds. `using` does not find this goal, so the lemma is named here.
use Rattle.derivation.proofs.StepShapeTests.{rule_built}
use Rattle.derivation.proofs.Step.follows.Goals as goal

pub returns-in_default : goal.returns-in_default
returns-in_default c = search rule_built
