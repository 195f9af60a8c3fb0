-- `knowledge_marks` meets its contract: the terms of the first i entries are marked.
use native.Mathlib.Omega.{arith}
use Rattle.std.proofs.Common.{rules}
use Rattle.base.proofs.Stores.{flagged_none, flagged_more}
use Rattle.deduction.proofs.KnowledgeMarks.{entered_all}
use Rattle.deduction.proofs.knowledge_marks.Goals as goal

pub loop-i-init : goal.loop-i-init
loop-i-init c = (omega arith, flagged_none)

pub loop-i-preserved : goal.loop-i-preserved
loop-i-preserved c = (omega arith, search (flagged_more, rules))

pub returns : goal.returns
returns c = search (entered_all, rules)
