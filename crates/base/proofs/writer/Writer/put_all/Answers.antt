-- The buffer was full before, or has room for all bytes, or for some.
use Rattle.std.proofs.Common.{refl, arith}
use Rattle.base.proofs.PutLaws.{puts_full, puts_room}
use Rattle.base.proofs.writer.Writer.put_all.Goals as goal

pub returns-then-self : goal.returns-then-self
returns-then-self c = record { same = refl; puts = puts_full _ _ _ c.if-self.true }

pub returns : goal.returns
returns c =
    record {
      same = refl;
      puts = puts_room _ _ _ _ _ _ c.if-self.false c.min-count.ensures (omega arith) c.copy_from_slice.ensures.after;
    }
