-- What a check answers, from its tests: a scan that found its first failing place or none, a test that held or did not; and the checks in order.
use mathlib.Core.Path.{◌≡◌, sym, ◌∙◌, ap}
use mathlib.Core.Bool.{Bool, true}
use mathlib.Core.List.{List}
use Prim.Native.Nat.{ℕ, ◌<◌, ◌≤◌}
use mir.Syntax.{w8}
use mir.Val.{Fits}
use Rattle.base.specs.Words.{first, byte, Bytes}
use Rattle.base.proofs.First.{Passed, passed_hit, passed_all}
use Rattle.std.specs.Prelude.{Result, Ok}
use Rattle.base.specs.declared.refusal.Refusal.{Refusal}
use Rattle.base.specs.declared.refusal.Fault.{Fault}
use Rattle.base.specs.Answer.{number_of}
use Rattle.base.specs.Code.{check_of}
use Rattle.base.specs.Computed.{Check, passes, fails, fails_at}

-- a scan: its bound and the place were returned by calls, and are k and i; and a refusal r is that of row m
module _ {m : ℕ} {r : Refusal} {f : Fault} (q : r.fault ≡ f) (w : number_of f ≡ m) where
  pub fails_hit : {n k i : ℕ} {p : ℕ → Bool} → Passed p n i → i < n → n ≡ k → r.place ≡ i → p i ≡ true → fails (number_of r.fault) r.place ≡ fails_at m (first p k)
  fails_hit s l g e t = rw (q, w, ← g, e, passed_hit s l t)

pub passes_all : (m : ℕ) {n k i : ℕ} {p : ℕ → Bool} → Passed p n i → n ≤ i → n ≡ k → passes ≡ fails_at m (first p k)
passes_all m s l f = rw (← f, passed_all s l)

-- ---- the checks in order: the result r of the earlier checks d was a refusal, and went out; or they passed, and the later ones e went on
-- ---- what a caller learns of a stage that passed, and of a slice
-- the elements of a slice are bytes: of a function with the parameter `s: &[u8]`, `c .. .shared-slice-known .given` is the premise
pub bytes : (s : List ℕ) → ((i : ℕ) → Fits w8 (byte s i)) → Bytes s
bytes s f i = (f i).fits

pub stage_passes : {T : Type 0} (d : Check) {r : Result T Refusal} {v : T} → check_of r ≡ d → r ≡ Ok v → d ≡ passes
stage_passes d e h = sym e ∙ ap check_of h

-- ---- the answer of a call: the value where the checks d passed, else their refusal
