use Rattle.std.proofs.Common.{rules, subst}
use Rattle.std.specs.Io.KnownBytes.{Consumes}
use Rattle.std.proofs.KnownBytes.{Consumes-trans}
use Rattle.input.proofs.ReadLaws.{read_on}
use Rattle.input.proofs.read.Goals as goal

pub loop-done-preserved : goal.loop-done-preserved
loop-done-preserved g c =
    let joined = read_on c.loop-done.done _ c.in_ok-more.more c.loop-done.buffer c.read.new.buf c.loop-done.invariant.1 c.in_ok-more.ensures.bound.0 in
    (search rules, search rules, subst (Consumes _ _) joined (Consumes-trans _ _ _ _ _ c.loop-done.invariant.2 c.in_ok-more.ensures.bytes.0))
