-- `known_parts` meets its contract: the terms from i on are treated.
use mathlib.Core.Path.{refl}
use native.Mathlib.Omega.{arith}
use Rattle.machine.proofs.Theory.MarkedParts.{parts_none, parts_fit, term_fits, parts_more, parts_all}
use Rattle.machine.proofs.Theory.StaleSearch.{table_read}
use Rattle.std.proofs.Common.{rules}
use Rattle.machine.proofs.stale.ListedTerms.known_parts.Goals as goal

pub loop-i-init : goal.loop-i-init
loop-i-init c =
    let terms_are = rw c.table.ensures at c.terms.ensures in
    (omega (arith, terms_are), parts_none (table_read c.args.self.submission.read) (search rules) c.knowledge_marks-marks.ensures terms_are c.from-n.ensures)

pub mark_parts-requires : goal.mark_parts-requires
mark_parts-requires c = record { t_bound = term_fits (table_read c.args.self.submission.read) c.loop-i-test.true c.loop-i.invariant.0 refl; below = parts_fit (table_read c.args.self.submission.read) c.args.self.listed c.loop-i-test.true c.loop-i.invariant.0 refl }

pub loop-i-preserved : goal.loop-i-preserved
loop-i-preserved c = (omega arith, parts_more (table_read c.args.self.submission.read) c.args.self.listed c.loop-i.invariant.1 c.loop-i-test.true c.loop-i.invariant.0 refl c.mark_parts.ensures)

pub returns : goal.returns
returns c = parts_all (table_read c.args.self.submission.read) c.loop-i.invariant.1 c.loop-i-test.false
