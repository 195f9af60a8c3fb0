-- `write` meets its contract: the count, the instructions on the lent rest, and the test behind them.
use Rattle.std.proofs.Common.{rules, refl, ap}
use Rattle.std.proofs.lemmas.Result.{OkIff-at_ok}
use Rattle.std.specs.Prelude.{set}
use Rattle.program.proofs.Theory.Writing.{program_written}
use Rattle.program.proofs.write.Goals as goal

pub returns : goal.returns
returns c = program_written c.args.program _ _ _ refl refl c.requires.count_in_bounds (ap (set c.args.page.now 0) (OkIff-at_ok _ _ _ _ c.try_from.ensures c.unwrap.ensures).1) c.write_instructions.ensures (search rules)
