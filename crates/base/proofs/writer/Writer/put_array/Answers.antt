-- The bytes fit, or `put_all` stores what fits.
use lib.Seq.{take_all}
use Rattle.std.proofs.Common.{rules, arith, refl, length, sym, ◌≡◌, ◌∙◌}
use Rattle.base.proofs.PutLaws.{puts_room}
use Rattle.base.proofs.writer.Writer.put_array.Goals as goal

pub returns : goal.returns
returns g c =
    let e : length c.args.bytes ≡ g.row.N = search rules in
    record {
      same = refl;
      puts = puts_room _ _ _ _ _ _ c.if-self.false (omega arith) (omega arith) (c.copy_from_slice.ensures.after ∙ sym (take_all g.row.N c.args.bytes (omega arith)));
    }
