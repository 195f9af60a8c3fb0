-- `check_listed` meets its contract: the first register whose term isn't listed.
use Rattle.std.proofs.Common.{◌<◌, ◌≤◌, ◌∙◌, ap, get_or, rules}
use Rattle.std.proofs.lemmas.Iterator.{first_from_Range}
use Rattle.base.specs.Computed.{fails_at}
use Rattle.base.proofs.Find.{place_found}
use Rattle.readback.specs.Computed.{off_table}
use Rattle.readback.proofs.ReadReturns.{off_first}
use Rattle.readback.proofs.check_listed.Goals as goal

pub returns : goal.returns
returns c =
    let l = c.args.numbers.now in
    let n = c.from-terms.result in
    let h = first_from_Range _ _ _ _ (λ i. n ≤ get_or l i 0) (λ i. get_or l i 0 < n) c.find.ensures.ran (λ x q k. search rules) (λ x q k. search rules) in
    c.at_first.ensures ∙ ap (fails_at 17) (place_found (off_table c.args.checked.submission.bytes.now c.args.checked.program.now) c.find.result
    (off_first c.requires c.terms.ensures c.from-terms.ensures c.register_count.ensures.count c.find.result h) c.register_count.ensures.count)
