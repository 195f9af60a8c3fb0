-- `tried` meets its contract: a stale name; or all instructions are executed.
use mathlib.Core.Path.{refl, ap}
use Rattle.base.specs.Answer.{number_of}
use Rattle.machine.proofs.Theory.StartState.{guess_left, start_found}
use Rattle.machine.proofs.Theory.RunLoop.{run_executable_each, run_all}
use Rattle.machine.proofs.Theory.RunAnswer.{tried_stale, tried_fresh, tried_left, tried_right, tried_done}
use Rattle.std.proofs.Common.{rules}
use Rattle.machine.proofs.tried.Goals as goal

pub is_stale-requires : goal.is_stale-requires
is_stale-requires c = record { v_value = search guess_left; found_value = search start_found }

pub returns-in_err-when : goal.returns-in_err-when
returns-in_err-when c = tried_stale _ c.args.checked.program.now _ c.guess_node-guess.ensures c.is_stale.ensures _ (ap number_of c.at.ensures.fault) c.at.ensures.place c.when.ensures _ c.in_err-when.was (search rules)

pub after-m-requires : goal.after-m-requires
after-m-requires c = run_executable_each c.args.checked.submission.read c.args.checked.good c.start-found.ensures c.guess_node-guess.ensures

pub signal-requires : goal.signal-requires
signal-requires c =
    let run = run_all c.args.checked.submission.read c.args.checked.good c.start-found.ensures c.guess_node-guess.ensures _ refl c.after-m.ensures in
    record { left_bound = tried_left run c.test_at.ensures; right_bound = tried_right run c.test_at.ensures }

pub returns : goal.returns
returns c =
    let run = run_all c.args.checked.submission.read c.args.checked.good c.start-found.ensures c.guess_node-guess.ensures _ refl c.after-m.ensures in
    tried_done run c.test_at.ensures c.args.checked.asks (tried_fresh _ c.args.checked.program.now _ c.guess_node-guess.ensures c.is_stale.ensures _ (ap number_of c.at.ensures.fault) c.at.ensures.place c.when.ensures c.in_ok-when.was) c.signal.ensures
