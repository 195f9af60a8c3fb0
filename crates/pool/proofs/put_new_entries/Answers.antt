-- Of the second's entries before r those that are new are put, and the pool has room for them.
use Rattle.std.proofs.Common.{rules, ◌≡◌, ◌∙◌, ap, arith}
use Rattle.base.specs.Code.{check_of}
use Rattle.submission.specs.Body.{Bodies}
use Rattle.pool.proofs.EntryReturns.{entries_none, entry_number, entry_test, known_kept, new_put, new_refused}
use Rattle.pool.proofs.put_new_entries.Goals.{then-not-contains+in_ok-when, else-not-contains}
use Rattle.pool.proofs.put_new_entries.Goals as goal

pub loop-r-init : goal.loop-r-init
loop-r-init c = entries_none _ c.args.first.read

pub returns-in_err-when-clause-answer : goal.returns-in_err-when-clause-answer
returns-in_err-when-clause-answer c =
    let k = entry_number c.args.second.read c.requires.numbers (omega arith) c.entry.ensures c.from.ensures in
    let t = entry_test c.args.first.read _ (ap (λ (b : Bodies). b.knowledge) c.of.ensures) c.contains.ensures.value in
    let e : check_of c.from_residual.result ≡ check_of c.when.result = search rules in
    let h = rw (c.at.ensures.fault, c.at.ensures.place) at c.when.ensures in
    e ∙ new_refused _ _ c.loop-r.r c.requires.at c.requires.room c.loop-r.invariant.0 c.loop-r.invariant.1 k t c.if-not-contains.true h c.in_err-when.was (omega arith)

pub loop-r-preserved : goal.loop-r-preserved
loop-r-preserved c =
    let k = entry_number c.args.second.read c.requires.numbers (omega arith) c.entry.ensures c.from.ensures in
    let t = entry_test c.args.first.read _ (ap (λ (b : Bodies). b.knowledge) c.of.ensures) c.contains.ensures.value in
    elim c.if-not-contains.branch [
      | then-not-contains+in_ok-when w ↦ rw w.page-is (new_put _ _ c.loop-r.r c.requires.at c.requires.room c.loop-r.invariant.0 c.loop-r.invariant.1 k t w.if-not-contains.true (rw (w.at.ensures.fault, w.at.ensures.place) at w.when.ensures) w.in_ok-when.was w.put.ensures)
      | else-not-contains w ↦ rw w.page-is (known_kept _ _ c.loop-r.r c.requires.at c.requires.room c.loop-r.invariant.0 c.loop-r.invariant.1 k t w.if-not-contains.false)
    ]
