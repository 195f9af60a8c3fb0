-- What a test says: it comes out true exactly when a proposition holds. Laws for the joined tests, and for a test at some number below n.
use mathlib.Core.Path.{◌≡◌, refl, sym, ◌∙◌}
use mathlib.Core.Logic.{◌↔◌, ◌⊎◌, inl, inr, ⊎_elim}
use mathlib.Core.Bool.{Bool, true, false, ◌||◌, ◌&&◌, not, true≢false, false≢true}
use mathlib.Core.Option.{Option, none, some}
use Prim.Native.Nat.{ℕ, zero, suc, ◌<◌, ◌≤◌}
use lib.Dec.{eqb, ltb}
use native.Mathlib.Omega.{arith}
use borrow.Author.Tests.{ltb-true, ltb-false, eqb-true, lt-ltb, le-ltb, eq-eqb}
use Rattle.base.specs.{Words.first, Words.first_from, Computed.any, Code.is_some}
use Rattle.base.proofs.First.{first_none, first_some, passed_all, passed_not_any}

abbrev pub Says : Bool → Type 0 → Type 0
Says b P = (b ≡ true) ↔ P

pub true_or_false : (b : Bool) → (b ≡ true) ⊎ (b ≡ false)
true_or_false true = inl refl
true_or_false false = inr refl

pub says_true : (b : Bool) → Says b (b ≡ true)
says_true b = (λ e. e, λ e. e)

pub not_is_true : (a : Bool) → (not a ≡ true) ↔ (a ≡ false)
not_is_true true = (λ e. absurd (false≢true e), λ e. absurd (true≢false e))
not_is_true false = (λ e. refl, λ e. refl)

pub says_eqb : (m n : ℕ) → Says (eqb m n) (m ≡ n)
says_eqb m n = (eqb-true m n, eq-eqb m n)

pub says_ltb : (m n : ℕ) → Says (ltb m n) (m < n)
says_ltb m n = (ltb-true m n, lt-ltb m n)

pub says_not_ltb : (m n : ℕ) → Says (not (ltb m n)) (n ≤ m)
says_not_ltb m n = (λ e. ltb-false m n ((not_is_true _).0 e), λ l. (not_is_true _).1 (le-ltb m n l))

pub says_and : {P Q : Type 0} (a b : Bool) → Says a P → Says b Q → Says (a && b) (P × Q)
says_and true b p q = (λ e. (p.0 refl, q.0 e), λ u. q.1 u.1)
says_and false b p q = (λ e. absurd (false≢true e), λ u. p.1 u.0)

pub says_or : {P Q : Type 0} (a b : Bool) → Says a P → Says b Q → Says (a || b) (P ⊎ Q)
says_or true b p q = (λ e. inl (p.0 refl), λ u. refl)
says_or false b p q = (λ e. inr (q.0 e), ⊎_elim (λ x. absurd (false≢true (p.1 x))) q.1)

pub says_not : {P : Type 0} (a : Bool) → Says a P → Says (not a) (P → ⊥)
says_not true p = (λ e. absurd (false≢true e), λ f. absurd (f (p.0 refl)))
says_not false p = (λ e x. false≢true (p.1 x), λ f. refl)

-- not both
pub says_not_both : {P Q : Type 0} (a b : Bool) → Says a P → Says b Q → Says (not (a && b)) ((P → ⊥) ⊎ (Q → ⊥))
says_not_both true b p q =
    let w = says_not b q in
    (λ e. inr (w.0 e), ⊎_elim (λ f. absurd (f (p.0 refl))) w.1)
says_not_both false b p q = (λ e. inl (λ x. false≢true (p.1 x)), λ u. refl)

-- two tests that say the same are equal
pub same_test : {P : Type 0} (a b : Bool) → Says a P → Says b P → a ≡ b
same_test true b p q = sym (q.1 (p.0 refl))
same_test false true p q = p.1 (q.0 refl)
same_test false false p q = refl

-- what the test says that came out false
pub denies : {P : Type 0} (a : Bool) → Says a P → (a ≡ false) ↔ (P → ⊥)
denies true p = (λ e. absurd (true≢false e), λ f. absurd (f (p.0 refl)))
denies false p = (λ e x. false≢true (p.1 x), λ f. refl)

-- and a test that comes out false exactly when something holds
pub refutes : {P : Type 0} (a : Bool) → (a ≡ false) ↔ P → Says a (P → ⊥)
refutes true p = (λ e x. true≢false (p.1 x), λ f. refl)
refutes false p = (λ e. absurd (false≢true e), λ f. absurd (f (p.0 refl)))

pub not_not_false : (a : Bool) → (not a ≡ false) ↔ (a ≡ true)
not_not_false true = (λ e. refl, λ e. refl)
not_not_false false = (λ e. absurd (true≢false e), λ e. absurd (false≢true e))

pub or-false : (a b : Bool) → (a || b ≡ false) ↔ ((a ≡ false) × (b ≡ false))
or-false true b = (λ e. absurd (true≢false e), λ u. u.0)
or-false false b = (λ e. (refl, e), λ u. u.1)

pub or_other : (a b : Bool) → (a || b) ≡ true → a ≡ false → b ≡ true
or_other true b e f = absurd (true≢false f)
or_other false b e f = e

pub and-false : (a b : Bool) → (a && b ≡ false) ↔ ((a ≡ false) ⊎ (b ≡ false))
and-false true b = (λ e. inr e, ⊎_elim (λ e. absurd (true≢false e)) (λ e. e))
and-false false b = (λ e. inl refl, λ u. refl)

-- no place fails, and some place does
pub none_fails : (p : ℕ → Bool) (n : ℕ) → (first p n ≡ none) ↔ ((k : ℕ) → k < n → p k ≡ false)
none_fails p n = (first_none p n, λ f. passed_all (record { within = omega arith; failed = f }) (omega arith))

pub says_any : {P : ℕ → Type 0} (p : ℕ → Bool) (n : ℕ) → ((k : ℕ) → k < n → Says (p k) (P k)) → Says (any p n) ((k : ℕ) × (k < n) × P k)
unfolding any
says_any {P} p n h = go (first p n) refl
  where
    go : (o : Option ℕ) → first p n ≡ o → Says (is_some o) ((k : ℕ) × (k < n) × P k)
    go none e = (λ i. absurd (false≢true i), λ (k, l, x). absurd (true≢false (sym ((h k l).1 x) ∙ first_none p n e k l)))
    go (some i) e = let r = first_some p n i e in (λ _. (i, r.0, (h i r.0).0 r.1), λ _. refl)

pub any_false : (p : ℕ → Bool) (n : ℕ) → (any p n ≡ false) ↔ ((k : ℕ) → k < n → p k ≡ false)
any_false p n = (there, λ f. passed_not_any (record { within = omega arith; failed = f }) (omega arith))
  where
    there : any p n ≡ false → (k : ℕ) → k < n → p k ≡ false
    there e k l =
        ⊎_elim (λ t. absurd ((denies (any p n) (says_any p n (λ j m. says_true (p j)))).0 e (k, l, t))) (λ f. f) (true_or_false (p k))

-- four places, one after the other
pub any_four : (p : ℕ → Bool) → any p 4 ≡ (p 0 || (p 1 || (p 2 || p 3)))
unfolding any first first_from
any_four p = go (p 0) (p 1) (p 2) (p 3)
  where
    go : (a b c d : Bool) → is_some (elim a [ true ↦ some 0 | false ↦ elim b [ true ↦ some 1 | false ↦ elim c [ true ↦ some 2 | false ↦ elim d [ true ↦ some 3 | false ↦ none ] ] ] ]) ≡ (a || (b || (c || d)))
    go true b c d = refl
    go false true c d = refl
    go false false true d = refl
    go false false false true = refl
    go false false false false = refl

-- what holds at each of four places
pub each_of_four : (P : ℕ → Type 0) → P 0 → P 1 → P 2 → P 3 → (i : ℕ) → i < 4 → P i
each_of_four P p q r s zero l = p
each_of_four P p q r s (suc zero) l = q
each_of_four P p q r s (suc (suc zero)) l = r
each_of_four P p q r s (suc (suc (suc zero))) l = s
each_of_four P p q r s (suc (suc (suc (suc i)))) l = absurd (omega arith)
