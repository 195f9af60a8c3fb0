-- The page's room, then the bytes.
use Rattle.std.proofs.Common.{rules}
use Rattle.base.proofs.PutLaws.{wrote_out}
use Rattle.form.proofs.WriteReturns.{page_short, page_written}
use Rattle.form.proofs.writable.WritableBodies.write.Goals as goal

pub returns-in_err-check_room : goal.returns-in_err-check_room
returns-in_err-check_room c = page_short _ _ c.args.self.writable c.length-length.ensures _ c.check_room.ensures _ c.in_err-check_room.was (search rules)

pub returns : goal.returns
returns c = page_written _ _ c.args.self.writable c.length-length.ensures _ c.check_room.ensures c.in_ok-check_room.was (wrote_out c.put.ensures c.new-writer.ensures.now c.new-writer.ensures.at (search rules))
