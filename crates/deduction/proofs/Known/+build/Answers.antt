-- `build` meets its contract: a decided term, a known one, an atom, and one that has parts.
use Rattle.std.specs.Prelude.{◌<◌}
use native.Mathlib.Omega.{arith}
use Rattle.std.proofs.Common.{rules}
use Rattle.deduction.proofs.MarkArrays.{told_none}
use Rattle.deduction.proofs.BuildMemo.{small, memo_more, now_known, now_atom, now_left, now_both, x_falls, y_falls}
use Rattle.deduction.proofs.Known.+build.Goals as goal
use Rattle.deduction.proofs.Known.+build.Goals.{then-build, else-build}

pub returns-then-is_some-clause-built : goal.returns-then-is_some-clause-built
returns-then-is_some-clause-built t c = search (now_known, rules)

pub returns-then-is_some-clause-memo : goal.returns-then-is_some-clause-memo
returns-then-is_some-clause-memo t c = search (memo_more, small, now_known, rules)

pub returns-in_default-parts_of-clause-built : goal.returns-in_default-parts_of-clause-built
returns-in_default-parts_of-clause-built t c = search (now_atom, rules)

pub returns-in_default-parts_of-clause-memo : goal.returns-in_default-parts_of-clause-memo
returns-in_default-parts_of-clause-memo t c = search (memo_more, small, now_atom, rules)

pub build-requires : goal.build-requires
build-requires t c =
    let f : c.in-Some-parts_of.x < t = search (x_falls, rules) in (f, (omega (arith, c.requires.t_bound, c.decreases), search rules))

pub build-answer-requires : goal.build-answer-requires
build-answer-requires t c =
    let f : c.in-Some-parts_of.y < t = search (y_falls, rules) in (f, (omega (arith, c.requires.t_bound, c.decreases), search rules))

pub returns-clause-built : goal.returns-clause-built
returns-clause-built t c =
    elim c.if-build.branch [
      | then-build w ↦ rw w.answer-is (search (now_both, told_none, rules))
      | else-build w ↦ rw w.answer-is (search (now_left, told_none, rules))
    ]

pub returns-clause-memo : goal.returns-clause-memo
returns-clause-memo t c =
    let answer = returns-clause-built t c in
    elim c.if-build.branch [
      | then-build w ↦ rw w.memo-is (search (memo_more, small, answer, rules))
      | else-build w ↦ rw w.memo-is (search (memo_more, small, answer, rules))
    ]
