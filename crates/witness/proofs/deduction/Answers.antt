-- `deduction` meets its contract: checks 1 to 4, then 12, then 19, then the deduction.
use Rattle.std.proofs.Common.{rules}
use Rattle.std.proofs.lemmas.Result.{err_from_is_err_and}
use Rattle.witness.proofs.CallReturns.{check_refused, no_term, short_sheet, count_fits}
use Rattle.witness.proofs.deduction.Goals as goal

pub returns-in_err-table : goal.returns-in_err-table
returns-in_err-table c =
    let p = err_from_is_err_and c.from_residual.result c.from_residual.ensures.1 in
    check_refused _ _ _ c.in_err-table.was (rw (p.1, p.2)) c.read.ensures.answer

pub returns-in_err-check_term : goal.returns-in_err-check_term
returns-in_err-check_term c =
    let p = err_from_is_err_and c.from_residual-in_err-check_term.result c.from_residual-in_err-check_term.ensures.1 in
    no_term _ _ _ c.in_err-check_term.was (rw (p.1, p.2)) c.in_ok-table.table.read c.in_ok-table.ensures.same c.check_term.ensures

pub returns-in_err-when : goal.returns-in_err-when
returns-in_err-when c =
    let p = err_from_is_err_and c.from_residual-in_err-when.result c.from_residual-in_err-when.ensures.1 in
    let read = c.in_ok-table.table.read in
    short_sheet _ _ _ c.in_err-when.was (rw (p.1, p.2)) read c.in_ok-table.ensures.same c.check_term.ensures c.in_ok-check_term.was
    (rw (c.at.ensures.fault, c.at.ensures.place) at c.when.ensures)

pub overflow_add-result : goal.overflow_add-result
overflow_add-result c = search (count_fits, rules)
