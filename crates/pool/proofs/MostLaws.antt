-- Check 20: the pool has no more than the most terms, body 0, and no more than the most entries, body 1.
use mathlib.Core.Path.{◌≡◌, refl, sym, ap, ◌∙◌}
use mathlib.Core.Logic.{⊎_elim}
use mathlib.Core.Bool.{Bool, true, false}
use Prim.Native.Nat.{ℕ, ◌≤◌, ◌<◌}
use native.Mathlib.Omega.{arith}
use lib.Dec.{eqb, ltb}
use borrow.Author.Tests.{le-ltb, lt-ltb}
use Rattle.std.specs.Prelude.{Result, Ok, Err}
use Rattle.base.specs.declared.refusal.Refusal.{Refusal}
use Rattle.base.specs.{Answer.number_of, Code.check_of, Computed.passes, Computed.fails, Computed.fails_if}
use Rattle.base.proofs.{AnswerLaws.fails_not_passes, AnswerLaws.if_passes, Order.lt_or_ge, Says.denies, Says.says_eqb, Says.says_ltb}
use Rattle.submission.specs.{Record.most}
use Rattle.pool.specs.Code.{check_most}

module _ (i n : ℕ) where
  pub within_most : n ≤ most i → passes ≡ check_most i n
  within_most l = let e : ltb (most i) n ≡ false = le-ltb (most i) n l in rw e

  pub above_most : most i < n → fails 20 0 ≡ check_most i n
  above_most l = let e : ltb (most i) n ≡ true = lt-ltb (most i) n l in rw e

-- ---- r answers the check of n
module _ (i n : ℕ) {T : Type 0} {r : Result T Refusal} (e : check_of r ≡ check_most i n) where
  pub most_passed : {v : T} → r ≡ Ok v → ltb (most i) n ≡ false
  most_passed f = (if_passes _ 20 0).0 (sym e ∙ ap check_of f)

  pub most_failed : {x : Refusal} → r ≡ Err x → (ltb (most i) n ≡ true) × (number_of x.fault ≡ 20) × (x.place ≡ 0)
  most_failed {x} f = go (ltb (most i) n) refl (sym (ap check_of f) ∙ e)
    where
      go : (t : Bool) → ltb (most i) n ≡ t → fails (number_of x.fault) x.place ≡ fails_if t 20 0 → (ltb (most i) n ≡ true) × (number_of x.fault ≡ 20) × (x.place ≡ 0)
      go true g h = (g, cc, cc)
      go false g h = fails_not_passes h

  -- where n are too many, so are more
  pub most_reached : {x : Refusal} {m : ℕ} → r ≡ Err x → n ≤ m → check_of r ≡ check_most i m
  most_reached {m = m} f l = go (ltb (most i) n) refl e
    where
      go : (t : Bool) → ltb (most i) n ≡ t → check_of r ≡ fails_if t 20 0 → check_of r ≡ check_most i m
      go true g h = h ∙ above_most i m (let k : most i < n = (says_ltb (most i) n).0 g in omega arith)
      go false g h = fails_not_passes (sym (ap check_of f) ∙ h)

-- ---- r answers whether there is room for one more, where there are n
module _ (i n : ℕ) {T : Type 0} {r : Result T Refusal} (e : check_of r ≡ fails_if (eqb n (most i)) 20 0) where
  pub room_left : {v : T} → r ≡ Ok v → n ≤ most i → n < most i
  room_left f l =
      let d = (denies _ (says_eqb n (most i))).0 ((if_passes _ 20 0).0 (sym e ∙ ap check_of f)) in
      ⊎_elim (λ m. m) (λ m. absurd (d (omega arith))) (lt_or_ge n (most i))

  pub full_refused : {x : Refusal} {m : ℕ} → r ≡ Err x → n < m → check_of r ≡ check_most i m
  full_refused {m = m} f l = go (eqb n (most i)) refl e
    where
      go : (t : Bool) → eqb n (most i) ≡ t → check_of r ≡ fails_if t 20 0 → check_of r ≡ check_most i m
      go true g h = h ∙ above_most i m (let k : n ≡ most i = (says_eqb n (most i)).0 g in omega arith)
      go false g h = fails_not_passes (sym (ap check_of f) ∙ h)
