use Rattle.std.proofs.Common.{rules, subst}
use Rattle.std.specs.Io.KnownBytes.{Appends}
use Rattle.verdict.proofs.ReadLaws.{answered, passed}
use Rattle.verdict.proofs.answer.Goals as goal

pub returns : goal.returns
returns g c =
    let begins = passed _ c.read.result _ c.in_ok-length.ensures.cases c.read.ensures.begins in
    let bytes = passed _ c.write_all.result _ c.in_ok-map_err.ensures.cases c.write_all.ensures.bytes in
    answered _ _ _ _ _ _ (search rules) begins (subst (Appends _ _) (c.write_verdict-written.ensures.whole (search rules)).1 bytes)
