-- What a mark of the working says.
use mathlib.Core.Path.{◌≡◌, sym, ◌∙◌}
use mathlib.Core.Bool.{Bool, false, true, not, true≢false}
use Prim.Native.Nat.{ℕ}
use native.Mathlib.Omega.{arith}
use lib.ListN.{get_or-map}
use Rattle.std.specs.Prelude.{Option as Maybe, Some, None, is_some}
use Rattle.base.proofs.Says.{Says}
use Rattle.deduction.specs.declared.worklist.Origin.{Origin}
use Rattle.deduction.specs.declared.worklist.Origin.TheVariants.{Record}
use Rattle.deduction.specs.Computed.{at}
use Rattle.deduction.specs.Saturation.{start_mark}
use Rattle.deduction.specs.Code.{Marks, mark_of, reached_of, Reached}

pub at_reached : (l : Marks) (n : ℕ) → at (reached_of l) n ≡ is_some (mark_of l n)
at_reached l n = get_or-map (λ v. is_some v) l n None

pub says_reached : (l : Marks) (n : ℕ) → Says (at (reached_of l) n) (Reached l n)
says_reached l n = (λ e. sym (at_reached l n) ∙ e, λ r. at_reached l n ∙ r)

-- a term that is not reached is not
pub not_reached : {A : Type 0} (v : Maybe Origin) → is_some v ≡ false → is_some v ≡ true → A
not_reached v d r = absurd (true≢false (sym r ∙ d))

-- what a test on a mark has told
module _ (v : Maybe Origin) {b : Bool} where
  pub told_some : b ≡ is_some v → b ≡ true → is_some v ≡ true
  told_some e f = sym e ∙ f

  pub told_none : b ≡ is_some v → b ≡ false → is_some v ≡ false
  told_none e f = sym e ∙ f

  pub told_not_none : is_some v ≡ not b → b ≡ false → is_some v ≡ true
  told_not_none e f = e ∙ rw f

pub ruleset told_marks = (told_some, told_none, told_not_none)

-- one from the start is reached
pub started : {v : Maybe Origin} → v ≡ start_mark → is_some v ≡ true
started e = rw e

-- one that comes from a record is not from the start
pub not_started : {A : Type 0} {u : ℕ} → Some (Record u) ≡ start_mark → A
not_started e = absurd (let z : ◌≡◌ {A = ℕ} 0 1 = cc in omega arith)
