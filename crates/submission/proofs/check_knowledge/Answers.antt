-- `check_knowledge` meets its contract: the entries before i are good, and noted.
use Rattle.base.proofs.Scan.{scan}
use Rattle.base.proofs.First.{passed_none}
use Rattle.base.proofs.StageLaws.{fails_hit, passes_all}
use Rattle.base.proofs.Stores.{flagged_none, flagged_more}
use Rattle.submission.proofs.check_knowledge.Goals as goal

pub loop-i-init : goal.loop-i-init
loop-i-init c = (passed_none, flagged_none)

pub returns-then-is_entry_bad : goal.returns-then-is_entry_bad
returns-then-is_entry_bad c = search (fails_hit, scan)

pub loop-i-preserved : goal.loop-i-preserved
loop-i-preserved c = (search scan, search (flagged_more, scan))

pub returns : goal.returns
returns c = search (passes_all, scan)
