-- `pool_knowledge` meets its contract: the first's entries, and then the new ones, for which the buffer has room.
use Rattle.std.proofs.Common.{ap}
use Rattle.submission.specs.Body.{Bodies}
use Rattle.pool.proofs.EntryReturns.{own_put, entries_room}
use Rattle.pool.proofs.PutLaws.{filled}
use Rattle.pool.proofs.pool_knowledge.Goals as goal

pub put_new_entries-requires-clause-at : goal.put_new_entries-requires-clause-at
put_new_entries-requires-clause-at c = (own_put c.args.first.read c.new-page.ensures.now c.told-buffer c.new-page.ensures.at (ap (λ (b : Bodies). b.knowledge) c.of.ensures) c.put_all.ensures).0

pub put_new_entries-requires-clause-room : goal.put_new_entries-requires-clause-room
put_new_entries-requires-clause-room c = (own_put c.args.first.read c.new-page.ensures.now c.told-buffer c.new-page.ensures.at (ap (λ (b : Bodies). b.knowledge) c.of.ensures) c.put_all.ensures).1

pub returns-clause-bytes : goal.returns-clause-bytes
returns-clause-bytes c =
    filled c.new-page.ensures.now c.told-buffer c.new-page.ensures.at (ap (λ (b : Bodies). b.knowledge) c.of.ensures) c.put_all.ensures c.in_ok-put_new_entries.ensures.page
    (entries_room c.args.first.read _ _ c.put_new_entries.ensures.answer c.in_ok-put_new_entries.was)
