-- `write` meets its contract: the bodies, where the page has room.
use Rattle.std.proofs.Common.{rules}
use Rattle.readback.proofs.PageReturns.{page_written}
use Rattle.readback.proofs.readable.Readable.write.Goals as goal

pub returns : goal.returns
returns c =
    page_written _ c.args.self.claimable c.byte.ensures c.bodies_length-needed.ensures c.check_room.ensures c.in_ok-check_room.was c.put_steps.ensures c.put_claim.ensures c.new-writer.ensures.now
    c.new-writer.ensures.at (search rules)
