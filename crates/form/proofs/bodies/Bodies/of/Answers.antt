-- `Bodies::of` meets its contract: the parts lie behind each other, and the last one ends the submission.
use Rattle.form.proofs.OwnBodies.{in_order, in_bounds, own_bodies}
use Rattle.form.proofs.bodies.Bodies.of.Goals as goal

pub part-requires-clause-in_order : goal.part-requires-clause-in_order
part-requires-clause-in_order c = (in_order c.args.table.read c.knowledge_start-knowledge.ensures c.derivation_start-derivation.ensures c.claim_start-claim.ensures).0

pub part-requires-clause-in_bounds : goal.part-requires-clause-in_bounds
part-requires-clause-in_bounds c = (in_bounds c.args.table.read c.knowledge_start-knowledge.ensures c.derivation_start-derivation.ensures c.claim_start-claim.ensures).0

pub part-requires-2-clause-in_order : goal.part-requires-2-clause-in_order
part-requires-2-clause-in_order c = (in_order c.args.table.read c.knowledge_start-knowledge.ensures c.derivation_start-derivation.ensures c.claim_start-claim.ensures).1

pub part-requires-2-clause-in_bounds : goal.part-requires-2-clause-in_bounds
part-requires-2-clause-in_bounds c = (in_bounds c.args.table.read c.knowledge_start-knowledge.ensures c.derivation_start-derivation.ensures c.claim_start-claim.ensures).1

pub part-requires-3-clause-in_order : goal.part-requires-3-clause-in_order
part-requires-3-clause-in_order c = (in_order c.args.table.read c.knowledge_start-knowledge.ensures c.derivation_start-derivation.ensures c.claim_start-claim.ensures).2

pub part-requires-3-clause-in_bounds : goal.part-requires-3-clause-in_bounds
part-requires-3-clause-in_bounds c = (in_order c.args.table.read c.knowledge_start-knowledge.ensures c.derivation_start-derivation.ensures c.claim_start-claim.ensures).3

pub part-requires-4-clause-in_order : goal.part-requires-4-clause-in_order
part-requires-4-clause-in_order c = (in_order c.args.table.read c.knowledge_start-knowledge.ensures c.derivation_start-derivation.ensures c.claim_start-claim.ensures).3

pub returns : goal.returns
returns c = own_bodies c.args.table.read c.knowledge_start-knowledge.ensures c.derivation_start-derivation.ensures c.claim_start-claim.ensures c.part.ensures c.part-2.ensures c.part-3.ensures c.part-4.ensures
