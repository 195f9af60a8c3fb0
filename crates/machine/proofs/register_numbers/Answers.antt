-- `register_numbers` meets its contract: the state after the run with the right guess.
use mathlib.Core.Path.{refl}
use Rattle.machine.proofs.Theory.RunLoop.{run_executable_each}
use Rattle.machine.proofs.Theory.ListedRegisters.{right_registers}
use Rattle.machine.proofs.register_numbers.Goals as goal

pub after-requires : goal.after-requires
after-requires c =
    let same = c.of-submission.ensures in
    run_executable_each c.requires.submission_read c.requires.program_value (rw same at c.start.ensures) (rw same at c.guess_node-guess.ensures)

pub returns : goal.returns
returns c =
    let same = c.of-submission.ensures in
    right_registers _ c.requires.submission_read c.requires.program_value (rw same at c.right_name.ensures) (rw same at c.guess_node-guess.ensures) (rw same at c.start.ensures) c.after.ensures refl
