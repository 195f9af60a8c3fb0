-- The second's terms before j have their numbers, and those of them that are missing are put.
use Rattle.std.proofs.Common.{rules, ◌∙◌, ◌≡◌, ◌+◌, arith}
use Rattle.base.specs.Code.{check_of}
use Rattle.submission.specs.Record.{terms}
use Rattle.pool.proofs.Theory.PoolNumbers.{rank_kept}
use Rattle.pool.proofs.{MostLaws.most_reached, PutLaws.records_none, PutLaws.records_more}
use Rattle.pool.proofs.put_missing.Goals as goal

pub loop-j-init : goal.loop-j-init
loop-j-init c = (c.requires, records_none _ _)

pub returns-in_err-put_term-clause-answer : goal.returns-in_err-put_term-clause-answer
returns-in_err-put_term-clause-answer c =
    let e : check_of c.from_residual.result ≡ check_of c.put_term.result = search rules in
    let k = rank_kept c.args.first.table.bytes.now c.args.second.bytes.now (c.loop-j.j + 1) (terms c.args.second.bytes.now) (omega arith) in
    e ∙ most_reached 0 _ c.put_term.ensures.answer c.in_err-put_term.was (omega arith)

pub loop-j-preserved : goal.loop-j-preserved
loop-j-preserved c = (c.in_ok-put_term.ensures.numbers, records_more _ _ c.loop-j.j c.loop-j.invariant.1 c.in_ok-put_term.ensures.page)
