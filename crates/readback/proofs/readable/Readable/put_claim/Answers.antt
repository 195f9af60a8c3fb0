-- `put_claim` meets its contract: the four bytes of the claim.
use mathlib.Core.Path.{refl}
use Rattle.readback.proofs.ReadReturns.{test_number, claim_put}
use Rattle.readback.proofs.readable.Readable.put_claim.Goals as goal

pub number-n-requires : goal.number-n-requires
number-n-requires c = test_number c.args.self.claimable.numbered c.test_at-t.ensures

pub returns : goal.returns
returns c =
    claim_put c.args.self.claimable.numbered c.test_at-t.ensures c.args.self.checked.relation c.way-way.result c.row-row.result c.args.self.checked.asks c.way-way.ensures c.row-row.ensures
    c.letter.ensures c.args.self.checked.submission.claimed refl refl c.verifying-step.ensures c.number-n.ensures c.companion-companion.ensures c.put_array.ensures
