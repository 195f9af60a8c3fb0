-- `put_term` meets its contract: a term that the first lists, and one that is missing.
use Rattle.std.proofs.Common.{rules, ◌∙◌, ◌≡◌}
use Rattle.base.specs.Code.{check_of}
use Rattle.pool.proofs.TermReturns.{renumbered_right, found_number, not_found, listed_answer, listed_page, listed_numbers, missing_refused, missing_answer, missing_numbers, missing_page}
use Rattle.pool.proofs.put_term.Goals as goal

pub returns-in-Some-clause-answer : goal.returns-in-Some-clause-answer
returns-in-Some-clause-answer c =
    let (i, f) = found_number c.args.first.table.read c.args.second.read c.requires.bound c.requires.numbers c.term.ensures c.renumbered-t.ensures.kind c.renumbered-t.ensures.operands _ c.find.ensures _ c.in-Some.is in
    listed_answer c.args.second.read c.requires.bound c.requires.numbers i

pub returns-in-Some-clause-numbers : goal.returns-in-Some-clause-numbers
returns-in-Some-clause-numbers c =
    let (i, f) = found_number c.args.first.table.read c.args.second.read c.requires.bound c.requires.numbers c.term.ensures c.renumbered-t.ensures.kind c.renumbered-t.ensures.operands _ c.find.ensures _ c.in-Some.is in
    listed_numbers c.args.second.read c.requires.bound c.requires.numbers i c.from.ensures f

pub returns-in-Some-clause-page : goal.returns-in-Some-clause-page
returns-in-Some-clause-page c =
    let (i, f) = found_number c.args.first.table.read c.args.second.read c.requires.bound c.requires.numbers c.term.ensures c.renumbered-t.ensures.kind c.renumbered-t.ensures.operands _ c.find.ensures _ c.in-Some.is in
    listed_page c.args.second.read c.requires.bound c.requires.numbers i

pub returns-in_err-add-clause-answer : goal.returns-in_err-add-clause-answer
returns-in_err-add-clause-answer c =
    let i = not_found c.args.first.table.read c.args.second.read c.requires.bound c.requires.numbers c.term.ensures c.renumbered-t.ensures.kind c.renumbered-t.ensures.operands _ c.find.ensures c.in_default.is in
    let e : check_of c.from_residual.result ≡ check_of c.add.result = search rules in
    e ∙ missing_refused c.args.second.read c.requires.bound c.requires.numbers i c.add.ensures.answer c.in_err-add.was

pub returns-clause-answer : goal.returns-clause-answer
returns-clause-answer c =
    let i = not_found c.args.first.table.read c.args.second.read c.requires.bound c.requires.numbers c.term.ensures c.renumbered-t.ensures.kind c.renumbered-t.ensures.operands _ c.find.ensures c.in_default.is in
    missing_answer c.args.second.read c.requires.bound c.requires.numbers i c.add.ensures.answer c.in_ok-add.was

pub returns-clause-numbers : goal.returns-clause-numbers
returns-clause-numbers c =
    let i = not_found c.args.first.table.read c.args.second.read c.requires.bound c.requires.numbers c.term.ensures c.renumbered-t.ensures.kind c.renumbered-t.ensures.operands _ c.find.ensures c.in_default.is in
    missing_numbers c.args.second.read c.requires.bound c.requires.numbers i c.add.ensures.answer c.in_ok-add.was c.in_ok-add.ensures.of c.in_ok-add.ensures.next

pub returns-clause-page : goal.returns-clause-page
returns-clause-page c =
    let i = not_found c.args.first.table.read c.args.second.read c.requires.bound c.requires.numbers c.term.ensures c.renumbered-t.ensures.kind c.renumbered-t.ensures.operands _ c.find.ensures c.in_default.is in
    let bytes = renumbered_right c.args.first.table.read c.args.second.read c.requires.bound c.requires.numbers c.term.ensures c.renumbered-t.ensures.kind c.renumbered-t.ensures.operands in
    missing_page c.args.second.read c.requires.bound c.requires.numbers i bytes c.put_array.ensures
