-- `write_found` meets its contract: the page's room, then the bytes.
use Rattle.std.proofs.Common.{rules, ◌∙◌}
use Rattle.std.proofs.lemmas.Result.{err_from_is_err_and}
use Rattle.inverse.proofs.CallReturns.{writing_none, first_terms, writing_more, page_short, page_found}
use Rattle.inverse.proofs.write_found.Goals as goal

pub returns-in_err-check_room : goal.returns-in_err-check_room
returns-in_err-check_room c =
    let p = err_from_is_err_and c.from_residual.result c.from_residual.ensures.1 in
    page_short _ c.args.table.read (c.from-needed.ensures ∙ c.terms-n.ensures) c.check_room.ensures c.in_err-check_room.was (rw (p.1, p.2))

pub loop-inverse-init : goal.loop-inverse-init
loop-inverse-init c = writing_none

pub loop-inverse-preserved : goal.loop-inverse-preserved
loop-inverse-preserved c =
    writing_more c.args.table.read (c.from.ensures ∙ c.terms-n.ensures) c.find.ensures c.loop-inverse.invariant c.loop-inverse-test.true c.unwrap_or.ensures c.put.ensures

pub returns : goal.returns
returns c =
    let read = c.args.table.read in
    let all = first_terms read (c.from.ensures ∙ c.terms-n.ensures) c.find.ensures in
    page_found _ read (c.from-needed.ensures ∙ c.terms-n.ensures) c.check_room.ensures c.in_ok-check_room.was c.new-writer.ensures.now c.new-writer.ensures.at
    c.loop-inverse.invariant all c.loop-inverse-test.false (search rules)
