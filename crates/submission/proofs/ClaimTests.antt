-- Check 5: the way's letter, and a claim that is refused.
use mathlib.Core.Path.{◌≡◌}
use mathlib.Core.Bool.{Bool, false, and-false, not}
use mathlib.Core.List.{List}
use mathlib.Core.Option.{none}
use Prim.Native.Nat.{ℕ}
use borrow.Author.Tests.{ne_eqb}
use Rattle.base.specs.Computed.{fails_if}
use Rattle.std.specs.Prelude.{Err}
use Rattle.base.specs.declared.refusal.Fault.TheVariants.{Claim as ClaimFault}
use Rattle.base.specs.declared.refusal.Refusal.{Refusal}
use Rattle.submission.specs.Record.{way_at}
use Rattle.submission.specs.Check.{way_of}
use Rattle.submission.specs.Computed.{good_claim}
use Rattle.submission.specs.Code.{ClaimRead}

-- ---- the letters
pub no_way : {l : ℕ} → (l ≡ 0x61 → ⊥) → (l ≡ 0x62 → ⊥) → (l ≡ 0x63 → ⊥) → (l ≡ 0x6B → ⊥) → (l ≡ 0x6A → ⊥) → way_of l ≡ none
unfolding way_of
no_way u v w x y = rw (ne_eqb _ _ u, ne_eqb _ _ v, ne_eqb _ _ w, ne_eqb _ _ x, ne_eqb _ _ y)

-- ---- check 5
pub stranger_refused : {s : List ℕ} {y : Refusal} → way_of (way_at s) ≡ none → y.fault ≡ ClaimFault → y.place ≡ 0 → ClaimRead s (fails_if (not (good_claim s)) 5 0) (Err y)
unfolding good_claim
stranger_refused n f g = record { answer = rw (f, g, n, and-false, and-false); claim = λ c z. cc }

pub claim_bad : {s : List ℕ} {r : Bool} {y : Refusal} → r ≡ good_claim s → r ≡ false → y.fault ≡ ClaimFault → y.place ≡ 0 → ClaimRead s (fails_if (not (good_claim s)) 5 0) (Err y)
claim_bad e q f g = record { answer = rw (f, g, ← e, q); claim = λ c z. cc }
