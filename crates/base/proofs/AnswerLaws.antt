-- Laws of answers: when the checks pass, when a call is done or refuses, and what it leaves on its page.
use mathlib.Core.Path.{◌≡◌, refl, sym, ap}
use mathlib.Core.Logic.{◌↔◌}
use mathlib.Core.Bool.{Bool, true, false}
use mathlib.Core.Option.{Option, none, some}
use mathlib.Core.List.{List}
use Prim.Native.Nat.{ℕ}
use native.Mathlib.Omega.{arith}
use Rattle.base.specs.Answer.{Answer, done, refused, page_after}
use Rattle.base.specs.Computed.{Check, passes, fails, fails_at, fails_if, and_then, answered}

-- a failed check has not passed, and a refusal is not done
pub fails_not_passes : {A : Type 0} {number place : ℕ} → fails number place ≡ passes → A
fails_not_passes e = absurd (let z : ◌≡◌ {A = ℕ} 0 1 = cc in omega arith)

pub refused_not_done : {A : Type 0} {number place n : ℕ} → refused number place ≡ done n → A
refused_not_done e = absurd (let z : ◌≡◌ {A = ℕ} 0 1 = cc in omega arith)

pub if_passes : (b : Bool) (number place : ℕ) → (fails_if b number place ≡ passes) ↔ (b ≡ false)
if_passes true number place = (fails_not_passes, λ e. cc)
if_passes false number place = (λ e. refl, λ e. refl)

pub at_passes : (number : ℕ) (o : Option ℕ) → (fails_at number o ≡ passes) ↔ (o ≡ none)
at_passes number none = (λ e. refl, λ e. refl)
at_passes number (some place) = (fails_not_passes, λ e. cc)

pub then_passes : (c d : Check) → (and_then c d ≡ passes) ↔ ((c ≡ passes) × (d ≡ passes))
then_passes passes d = (λ e. (refl, e), λ u. u.1)
then_passes (fails number place) d = (fails_not_passes, λ u. u.0)

pub answered_done : (c : Check) (m n : ℕ) → (answered c (done m) ≡ done n) ↔ ((c ≡ passes) × (m ≡ n))
answered_done passes m n = (λ e. (refl, cc), λ u. cc)
answered_done (fails number place) m n = (refused_not_done, λ u. fails_not_passes u.0)

pub answered_refused : (c : Check) (m n p : ℕ) → (answered c (done m) ≡ refused n p) ↔ (c ≡ fails n p)
answered_refused passes m n p = (λ e. refused_not_done (sym e), λ e. fails_not_passes (sym e))
answered_refused (fails number place) m n p = (λ e. cc, λ e. cc)

-- "Every refusal carries number and place, and the page keeps its bytes."
pub refused_page : {a : Answer} (bytes page : List ℕ) {number place : ℕ} → a ≡ refused number place → page_after a bytes page ≡ page
refused_page bytes page e = ap (λ x. page_after x bytes page) e
