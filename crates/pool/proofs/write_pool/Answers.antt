-- `write_pool` meets its contract: check 20 of the terms and of the entries, then the pool.
use Rattle.std.proofs.Common.{rules}
use Rattle.pool.proofs.CallReturns.{noted_none, bodies_are, terms_refused, entries_refused, pool_written}
use Rattle.pool.proofs.write_pool.Goals as goal

pub pool_terms-requires : goal.pool_terms-requires
pool_terms-requires c = noted_none c.table-given.result.read c.terms.ensures c.new-numbers.ensures.of c.new-numbers.ensures.next

pub returns-in_err-terms_end : goal.returns-in_err-terms_end
returns-in_err-terms_end c =
    terms_refused c.args.first.read c.args.second.read c.args.page.now _ (rw (c.table-given.ensures, c.table-added.ensures) at c.pool_terms.ensures.answer) c.in_err-terms_end.was (search rules)

pub returns-in_err-knowledge_end : goal.returns-in_err-knowledge_end
returns-in_err-knowledge_end c =
    entries_refused c.args.first.read c.args.second.read c.args.page.now _ (rw (c.table-given.ensures, c.table-added.ensures) at c.pool_knowledge.ensures.answer) c.in_err-knowledge_end.was (search rules)

pub returns : goal.returns
returns c =
    let made = bodies_are _ _ (rw (c.table-given.ensures, c.table-added.ensures) at c.in_ok-terms_end.ensures.bytes.1) (rw (c.table-given.ensures, c.table-added.ensures) at c.in_ok-knowledge_end.ensures.bytes.1) (rw c.table-given.ensures at c.of-own.ensures) in
    pool_written c.args.first.read c.args.second.read c.args.page.now (rw (c.table-given.ensures, c.table-added.ensures) at c.pool_terms.ensures.answer) c.in_ok-terms_end.was
    (rw (c.table-given.ensures, c.table-added.ensures) at c.pool_knowledge.ensures.answer) c.in_ok-knowledge_end.was _ made c.write.ensures
