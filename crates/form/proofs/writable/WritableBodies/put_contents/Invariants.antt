-- The entries of the bodies before this one are written.
use lib.ListN.{length}
use Rattle.base.specs.Words.{fours}
use Rattle.base.specs.Code.{Wrote}
use Rattle.submission.specs.Body.{records, contents_entry}
use Rattle.form.specs.Code.{bodies_in}
use Rattle.form.proofs.writable.WritableBodies.put_contents.Given as goal

abbrev pub invariant-loop-letter : goal.invariant-loop-letter
invariant-loop-letter l = Wrote l.initial.page (fours (contents_entry (records (bodies_in l.fn.self.bodies))) (length l.yielded)) l.page
