-- The entries of the bodies before this one are written.
use Rattle.std.proofs.Common.{rules, length-append, ◌∙◌}
use Rattle.std.proofs.lemmas.Result.{OkIff-at_ok}
use Rattle.std.proofs.lemmas.Iterator.Consumers.{YieldsList-turn, YieldsList-end}
use Rattle.base.specs.Words.{fours}
use Rattle.base.proofs.PutLaws.{wrote_none}
use Rattle.form.proofs.ContentsReturns.{walks, walked_length, count_fits, start_fits, entry_put, contents_put}
use Rattle.form.proofs.writable.WritableBodies.put_contents.Goals as goal

pub loop-letter-init : goal.loop-letter-init
unfolding fours
loop-letter-init c = wrote_none

pub unwrap-requires : goal.unwrap-requires
unwrap-requires c =
    let turn = YieldsList-turn (walks c.counts-counts.result c.starts-starts.result (cc) (cc) (cc)) c.loop-letter.yielded _ c.loop-letter.yielded_by _ c.next.new.self _ c.in-Some.is c.next.ensures.steps in
    let l = start_fits c.args.self.writable _ _ c.counts-counts.ensures c.starts-starts.ensures turn in
    search rules

pub unwrap-requires-in-loop-letter : goal.unwrap-requires-in-loop-letter
unwrap-requires-in-loop-letter c =
    let turn = YieldsList-turn (walks c.counts-counts.result c.starts-starts.result (cc) (cc) (cc)) c.loop-letter.yielded _ c.loop-letter.yielded_by _ c.next.new.self _ c.in-Some.is c.next.ensures.steps in
    let l = count_fits c.args.self.writable _ _ c.counts-counts.ensures c.starts-starts.ensures turn in
    search rules

pub loop-letter-preserved : goal.loop-letter-preserved
loop-letter-preserved c =
    let turn = YieldsList-turn (walks c.counts-counts.result c.starts-starts.result (cc) (cc) (cc)) c.loop-letter.yielded _ c.loop-letter.yielded_by _ c.next.new.self _ c.in-Some.is c.next.ensures.steps in
    let n = (OkIff-at_ok _ _ _ _ c.try_from-in-loop-letter.ensures c.unwrap-in-loop-letter.ensures).1 in
    let m = (OkIff-at_ok _ _ _ _ c.try_from.ensures c.unwrap.ensures).1 in
    rw (length-append c.loop-letter.yielded) (entry_put c.args.self.writable _ _ c.counts-counts.ensures c.starts-starts.ensures turn n m c.to_be_bytes.ensures c.loop-letter.invariant c.put_array.ensures)

pub returns : goal.returns
returns c =
    let end = YieldsList-end (walks c.counts-counts.result c.starts-starts.result (cc) (cc) (cc)) c.loop-letter.yielded _ c.loop-letter.yielded_by _ c.next.new.self c.in-None.is c.next.ensures.steps in
    contents_put _ (end.1 ∙ walked_length _ _ c.counts-counts.ensures c.starts-starts.ensures) c.loop-letter.invariant
