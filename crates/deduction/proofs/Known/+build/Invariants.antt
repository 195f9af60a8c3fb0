-- The number of the term falls at each call of itself: its parts are earlier records.
use Rattle.deduction.proofs.Known.+build.Given as goal

abbrev pub decreases-build : goal.decreases-build
decreases-build l = l.t
