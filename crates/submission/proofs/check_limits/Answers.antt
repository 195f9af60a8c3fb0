-- `check_limits` meets its contract: the counts before this one are within their limits.
use Rattle.std.proofs.Common.{rules, arith, ◌≡◌, refl, ◌∙◌, length}
use Rattle.std.proofs.lemmas.Iterator.{YieldsList-from_slice, YieldsList-from_range, YieldsList-from_zip}
use Rattle.std.proofs.lemmas.Iterator.Consumers.{YieldsList-turn, YieldsList-end}
use Rattle.base.specs.Code.{check_of}
use Rattle.submission.proofs.ContentsTests.{limits, limits_broken, limits_kept}
use Rattle.submission.proofs.check_limits.Goals.{then-count-least, else-count-least}
use Rattle.submission.proofs.check_limits.Goals as goal

pub returns-in_err-when : goal.returns-in_err-when
returns-in_err-when c =
    let turn = YieldsList-turn (YieldsList-from_zip (YieldsList-from_range 0 4 4 (cc) refl) (YieldsList-from_zip (YieldsList-from_slice c.args.counts (cc)) (YieldsList-from_slice limits (cc))))
    c.loop-i.yielded _ c.loop-i.yielded_by _ c.next.new.self _ c.in-Some.is c.next.ensures.steps in
    let e : check_of c.from_residual.result ≡ check_of c.when.result = search rules in
    let h = rw (c.at.ensures.fault, c.at.ensures.place) at c.when.ensures in
    elim c.if-count-least.branch [
      | then-count-least w ↦ e ∙ limits_broken c.args.counts turn c.loop-i.invariant (search rules) h c.in_err-when.was
      | else-count-least w ↦ e ∙ limits_broken c.args.counts turn c.loop-i.invariant (search rules) h c.in_err-when.was
    ]

pub returns : goal.returns
returns c =
    let end = YieldsList-end (YieldsList-from_zip (YieldsList-from_range 0 4 4 (cc) refl) (YieldsList-from_zip (YieldsList-from_slice c.args.counts (cc)) (YieldsList-from_slice limits (cc))))
    c.loop-i.yielded _ c.loop-i.yielded_by _ c.next.new.self c.in-None.is c.next.ensures.steps in
    let four : length c.args.counts ≡ 4 = omega arith in
    limits_kept c.args.counts c.loop-i.invariant four end.1
