-- `check_program` meets its contract: nothing is asked where check 13 fails.
use mathlib.Core.Path.{ap}
use Rattle.base.specs.Answer.{number_of}
use Rattle.program.proofs.Theory.Check13.{program_checked}
use Rattle.program.proofs.check_program.Goals as goal

pub returns : goal.returns
returns c =
    let w = program_checked _ _ c.asked.result c.at.result (ap number_of c.at.ensures.fault) c.at.ensures.place c.asked.ensures in
    rw c.ok_or.ensures.value (record { answer = w.0; asks = w.1 })
