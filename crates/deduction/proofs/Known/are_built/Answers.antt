-- `are_built` meets its contract: a missing atom, and the two build tests.
use Rattle.deduction.proofs.BuildMemo.{memo_none}
use Rattle.std.proofs.Common.{rules}
use Rattle.deduction.proofs.Known.are_built.Goals as goal

pub build-requires-clause-memo : goal.build-requires-clause-memo
build-requires-clause-memo c = search (memo_none, rules)
