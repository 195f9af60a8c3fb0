-- Tables: what is computed once over a whole table holds at each of its numbers.
use mathlib.Core.Path.{◌≡◌, refl, ap, sym, ◌∙◌}
use mathlib.Core.Logic.{⊎_elim}
use mathlib.Core.Bool.{Bool, true, false, ◌&&◌, cond}
use mathlib.Core.List.{List, [], ◌∷◌}
use mathlib.Core.Option.{Option, none, some}
use Prim.Native.Nat.{ℕ, zero, suc, ◌≤◌, ◌<◌}
use native.Mathlib.Omega.{arith}
use lib.Dec.{eqb, ltb}
use lib.ListN.{length, get_or}
use borrow.Author.Tests.{ne_eqb}
use Rattle.base.proofs.Grow.{listed_at}
use Rattle.base.proofs.Order.{lt_or_ge}
use Rattle.base.proofs.Says.{says_true, says_ltb, says_and}
use Rattle.base.specs.Words.{get_elem?, listed}
use Rattle.term.specs.Computed.{place}

-- two functions of a number are equal below N where their listed values are
pub same_below : {A : Type 0} (f g : ℕ → A) (N : ℕ) → listed f N ≡ listed g N → (n : ℕ) → n < N → f n ≡ g n
same_below f g N e n l = sym (listed_at f n N (f 0) l) ∙ ap (λ z. get_or z n (f 0)) e ∙ listed_at g n N (f 0) l

-- n is none of the numbers below N
abbrev pub Apart : ℕ → ℕ → Type 0
Apart n zero = Unit {0}
Apart n (suc k) = Apart n k × (n ≡ k → ⊥)

pub entry_past : {A : Type 0} (l : List A) (n : ℕ) → length l ≤ n → get_elem? l n ≡ none
entry_past [] n b = refl
entry_past (a ∷ l) zero b = absurd (omega arith)
entry_past (a ∷ l) (suc n) b = entry_past l n (omega arith)

abbrev placed : {A : Type 0} → Discrete A → List A → Option A → Option ℕ
placed same l none = none
placed same l (some a) = some (place same l a)

-- an entry's number is its place, where no entry stands twice
pub entry_place : {A : Type 0} (same : Discrete A) (l : List A) → listed (λ n. placed same l (get_elem? l n)) (length l) ≡ listed some (length l) →
    (n : ℕ) (a : A) → get_elem? l n ≡ some a → n ≡ place same l a
entry_place same l once n a e =
    ⊎_elim (λ b. let q = same_below (λ n. placed same l (get_elem? l n)) some (length l) once n b in let p : some n ≡ some (place same l a) = sym q ∙ ap (placed same l) e in cc)
    (λ b. let q = entry_past l n b in absurd (let z : ◌≡◌ {A = ℕ} 0 1 = cc in omega arith)) (lt_or_ge n (length l))

-- the number b is this one
abbrev pub is : ℕ → Option ℕ → Bool
is b none = false
is b (some n) = eqb b n

-- ---- a function of the code, as its arms: a number and what it gives, and what the others give
abbrev pub Arms : Type 0 → Type 0
Arms A = List (ℕ × A)

abbrev pub choice : {A : Type 0} → Arms A → A → ℕ → A
choice [] d n = d
choice (a ∷ l) d n = cond (eqb n a.0) a.1 (choice l d n)

abbrev pub all_below : {A : Type 0} → Arms A → ℕ → Bool
all_below [] N = true
all_below (a ∷ l) N = ltb a.0 N && all_below l N

choice_past : {A : Type 0} (l : Arms A) (d : A) (N n : ℕ) → all_below l N ≡ true → N ≤ n → choice l d n ≡ d
choice_past [] d N n e b = refl
choice_past (a ∷ l) d N n e b =
    let (f, g) = (says_and (ltb a.0 N) (all_below l N) (says_ltb a.0 N) (says_true (all_below l N))).0 e in
    rw (ne_eqb n a.0 (λ q. omega arith)) (choice_past l d N n g b)

-- the arms give what g does: computed below N, and above it g gives what the others get
pub choice_is : {A : Type 0} (l : Arms A) (d : A) (g : ℕ → A) (N : ℕ) → listed (choice l d) N ≡ listed g N → all_below l N ≡ true →
    ((n : ℕ) → N ≤ n → g n ≡ d) → (n : ℕ) → choice l d n ≡ g n
choice_is l d g N e f h n = ⊎_elim (same_below (choice l d) g N e n) (λ b. choice_past l d N n f b ∙ sym (h n b)) (lt_or_ge n N)

-- the arm of the number k, and past the arms
pub arm : {A : Type 0} (l : Arms A) (d : A) {n k : ℕ} {r : A} → n ≡ k → r ≡ choice l d k → r ≡ choice l d n
arm l d e f = rw e f

pub past : {A : Type 0} {n k : ℕ} {r y : A} (x : A) → (n ≡ k → ⊥) → r ≡ y → r ≡ cond (eqb n k) x y
past x d f = rw (ne_eqb _ _ d) f

pub ruleset arms = (arm, past)
