-- `check_terms` meets its contract: the records before i are good, and chained.
use mathlib.Core.Path.{refl, sym, ◌∙◌}
use Rattle.base.proofs.Scan.{scan}
use Rattle.base.proofs.First.{passed_none}
use Rattle.base.proofs.StageLaws.{fails_hit, passes_all}
use Rattle.submission.proofs.check_terms.Goals as goal

pub loop-i-init : goal.loop-i-init
loop-i-init c = (passed_none, c.new-chains.ensures _)

pub returns-then-is_term_bad : goal.returns-then-is_term_bad
returns-then-is_term_bad c =
    fails_hit c.at.ensures.fault refl c.loop-i.invariant.0 c.loop-i-test.true c.terms-n.ensures (c.at.ensures.place ∙ c.from.ensures) (sym c.is_term_bad.ensures ∙ c.if-is_term_bad.true)

pub loop-i-preserved : goal.loop-i-preserved
loop-i-preserved c =
    (search scan, c.add.ensures _ c.loop-i.invariant.1 c.term_at-t.ensures)

pub returns : goal.returns
returns c = search (passes_all, scan)
