-- The rules that answer the needs of a loop that looks for the first failing place.
use mathlib.Core.Path.{◌≡◌, sym}
use mathlib.Core.Bool.{Bool, true, false}
use Prim.Native.Nat.{ℕ, ◌<◌, ◌≤◌}
use borrow.Author.Rules.{rules}
use borrow.Author.Tests.{eq-eqb, ne_eqb, le-leb, lt-leb, lt-ltb, le-ltb}
use Rattle.base.specs.Computed.{any}
use Rattle.base.proofs.First.{Passed, passed_none, passed_more, passed_any, passed_not_any}
use Rattle.base.proofs.BoolLaws.{or_left, or_right, or_neither, and_both, and_left, and_right, flag, picked_then, picked_else, not_of_true, not_of_false}

pub true_any : {p : ℕ → Bool} {n i : ℕ} → Passed p n i → i < n → p i ≡ true → true ≡ any p n
true_any s l t = sym (passed_any s l t)

pub false_any : {p : ℕ → Bool} {n i : ℕ} → Passed p n i → n ≤ i → false ≡ any p n
false_any s l = sym (passed_not_any s l)

pub ruleset scan = (passed_none, passed_more, true_any, false_any, or_left, or_right, or_neither, and_both, and_left, and_right, not_of_true, not_of_false, eq-eqb, ne_eqb, le-leb, lt-leb, lt-ltb, le-ltb, flag, rules)

pub ruleset cases = (picked_then, picked_else, or_left, or_right, or_neither, and_both, and_left, and_right, not_of_true, not_of_false, eq-eqb, ne_eqb, le-leb, lt-leb, lt-ltb, le-ltb, flag, rules)
