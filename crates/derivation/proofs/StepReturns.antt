-- Checks 6 and 7, one step after the other: what each test of a step says, and what the loop over the steps knows.
use mathlib.Core.Path.{◌≡◌, refl}
use mathlib.Core.Bool.{Bool, true, false, ◌||◌, not, not-not, cond}
use mathlib.Core.List.{List}
use Prim.Native.Nat.{ℕ, ◌+◌, ◌≤◌, ◌<◌}
use native.Mathlib.Omega.{arith}
use Rattle.base.proofs.First.{Passed as PassedTo, passed_more, passed_hit, passed_all}
use Rattle.base.specs.Computed.{passes, fails, fails_if, and_then}
use Rattle.submission.specs.Record.{steps, second_for}
use Rattle.base.specs.Code.{check_of}
use Rattle.std.specs.Prelude.{Result, Ok, Err, Option as Maybe, is_some as is_held}
use Rattle.base.specs.declared.refusal.Refusal.{Refusal}
use Rattle.base.specs.Answer.{number_of}
use Rattle.derivation.specs.declared.Step.{Step}
use Rattle.derivation.specs.declared.Registers.{Registers}
use Rattle.derivation.specs.Step.{written}
use Rattle.derivation.specs.{Computed.bad_step, Computed.unfounded, Computed.check_steps}
use Rattle.derivation.specs.Code.{IsStep, Lowest, Registered, register_in, check_step, StepsChecked}
use Rattle.derivation.proofs.RegistersHeld.{held_any}

-- ---- check 7 of a step
module _ {s : List ℕ} {i : ℕ} {f : List (Maybe ℕ)} {st : Step} (h : Lowest s (written s i) f) (x : IsStep s i st) (l : st.p < 256) {v : Maybe ℕ} (e : v ≡ register_in f st.p) where
  pub first_unknown : {b : Bool} → is_held v ≡ not b → b ≡ true → b ≡ unfounded s i
  unfolding unfounded
  first_unknown k d = rw (← x.first, held_any h st.p l, ← e, k, d)

  pub second_decides : {a b : Bool} {u : ℕ} {w : Maybe ℕ} → is_held v ≡ not a → a ≡ false → u ≡ second_for st.rule st.p st.q → u < 256 → w ≡ register_in f u → is_held w ≡ not b → b ≡ unfounded s i
  unfolding unfounded
  second_decides {u = u} n d k m g y =
      rw (← x.first, ← x.second, ← x.rule, ← k, held_any h st.p l, ← e, n, d, held_any h u m, ← g, y, not-not)

-- ---- the loop over the steps
abbrev pub faulty : List ℕ → ℕ → Bool
faulty s i = bad_step s i || unfounded s i

both_right : (a b : Bool) (i : ℕ) → passes ≡ and_then (fails_if a 6 i) (fails_if b 7 i) → (a || b) ≡ false
both_right true b i e = absurd (let z : ◌≡◌ {A = ℕ} 0 1 = cc in omega arith)
both_right false true i e = absurd (let z : ◌≡◌ {A = ℕ} 0 1 = cc in omega arith)
both_right false false i e = refl

one_wrong : (a b : Bool) (i number place : ℕ) → fails number place ≡ and_then (fails_if a 6 i) (fails_if b 7 i)
    → ((a || b) ≡ true) × (fails number place ≡ fails (cond a 6 7) i)
one_wrong true b i number place e = (refl, e)
one_wrong false true i number place e = (refl, e)
one_wrong false false i number place e = absurd (let z : ◌≡◌ {A = ℕ} 0 1 = cc in omega arith)

module _ (s : List ℕ) {i n : ℕ} (p : PassedTo (faulty s) (steps s) i) (e : n ≡ steps s) where
  module _ {st : Result (Unit {0}) Refusal} (l : i < n) (f : check_of st ≡ check_step s i) where
    pub steps_go_on : {v : (Unit {0})} → st ≡ Ok v → PassedTo (faulty s) (steps s) (i + 1)
    steps_go_on g = passed_more p (omega arith) (both_right (bad_step s i) (unfounded s i) i (rw g at f))

    pub steps_stop : {x : Refusal} → st ≡ Err x → StepsChecked s (Err x)
    unfolding check_steps
    steps_stop {x} g =
        let (t, w) = one_wrong (bad_step s i) (unfounded s i) i (number_of x.fault) x.place (rw g at f) in
        record {
          answer = rw (passed_hit p (omega arith) t) w;
          registers = λ k z. absurd (let q : ◌≡◌ {A = ℕ} 0 1 = cc in omega arith);
        }

  pub steps_end : {r : Registers} → n ≤ i → Registered s (written s i) r → StepsChecked s (Ok r)
  unfolding check_steps
  steps_end {r} l h =
      let z : i ≡ steps s = omega (arith, p.within) in
      record { answer = rw (passed_all p (omega arith)); registers = λ g w. let q : r ≡ g = cc in rw (← q) (rw z at h) }
