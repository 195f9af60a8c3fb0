-- What a loop knows that looks for the first number at which a test holds, and what its caller learns of the answer.
use mathlib.Core.Path.{◌≡◌, refl, sym, ◌∙◌, ap}
use mathlib.Core.Bool.{Bool, true, false, true≢false}
use mathlib.Core.Option.{Option, none, some}
use mathlib.Core.Logic.{⊎_elim}
use Prim.Native.Nat.{ℕ, zero, suc, ◌+◌, ◌≤◌, ◌<◌}
use native.Mathlib.Nat.{eq-or-lt_of_le, not-suc-le-zero}
use native.Mathlib.Omega.{arith}
use borrow.Author.Count.{below_more}
use Rattle.base.specs.{Words.first_from, Words.first, Code.is_some, Computed.any}
use Rattle.base.proofs.Order.{lt_or_ge}

-- what a loop has shown that looks for it and has come to i
pub record Passed (p : ℕ → Bool) (n i : ℕ) : Type 0 where
  pub within : i ≤ n
  pub failed : (k : ℕ) → k < i → p k ≡ false

hit : (p : ℕ → Bool) (n b i : ℕ) → b ≤ i → i < b + n → ((k : ℕ) → k < i → p k ≡ false) → p i ≡ true → first_from p b n ≡ some i
unfolding first_from
hit p zero b i l u f t = absurd (omega arith)
hit p (suc n) b i l u f t =
    ⊎_elim (λ e. let q : p b ≡ true = ap p e ∙ t in rw (q, first_from) (ap some e))
    (λ lt. rw (f b lt, first_from) (hit p n (suc b) i lt (omega arith) f t))
    (eq-or-lt_of_le l)

miss : (p : ℕ → Bool) (n b : ℕ) → ((k : ℕ) → k < b + n → p k ≡ false) → first_from p b n ≡ none
unfolding first_from
miss p zero b f = refl
miss p (suc n) b f = rw (f b (omega arith), first_from) (miss p n (suc b) (λ k l. f k (omega arith)))

-- the loop's invariant: at its start, after a turn, and at the two ways out
module _ {p : ℕ → Bool} {n : ℕ} where
  pub passed_none : Passed p n 0
  passed_none = record { within = omega arith; failed = λ k l. absurd (not-suc-le-zero l) }

  pub passed_more : {i : ℕ} → Passed p n i → i < n → p i ≡ false → Passed p n (i + 1)
  passed_more {i} s l e = record { within = omega arith; failed = below_more (λ k. p k ≡ false) i s.failed e }

  pub passed_hit : {i : ℕ} → Passed p n i → i < n → p i ≡ true → first p n ≡ some i
  unfolding first
  passed_hit {i} s l t = hit p n 0 i (omega arith) (omega arith) s.failed t

  pub passed_all : {i : ℕ} → Passed p n i → n ≤ i → first p n ≡ none
  unfolding first
  passed_all s l = miss p n 0 (λ k h. s.failed k (omega arith))

  pub passed_any : {i : ℕ} → Passed p n i → i < n → p i ≡ true → any p n ≡ true
  unfolding any
  passed_any s l t = ap is_some (passed_hit s l t)

  pub passed_not_any : {i : ℕ} → Passed p n i → n ≤ i → any p n ≡ false
  unfolding any
  passed_not_any s l = ap is_some (passed_all s l)

-- ---- what a caller learns of the answer
none_inv : (p : ℕ → Bool) (n b : ℕ) → first_from p b n ≡ none → (k : ℕ) → b ≤ k → k < b + n → p k ≡ false
unfolding first_from
none_inv p zero b e k l u = absurd (omega arith)
none_inv p (suc n) b e k l u = go (p b) refl (none_inv p n (suc b))
  where
    go : (t : Bool) → p b ≡ t → (first_from p (suc b) n ≡ none → (k : ℕ) → suc b ≤ k → k < suc b + n → p k ≡ false) → p k ≡ false
    go true t ih = let z : some b ≡ none = rw (t, first_from) at e in absurd (let o : ◌≡◌ {A = ℕ} 0 1 = cc in omega arith)
    go false t ih =
        ⊎_elim (λ q. ap p (sym q) ∙ t)
        (λ lt. ih (rw (t, first_from) at e) k lt (omega arith))
        (eq-or-lt_of_le l)

some_inv : (p : ℕ → Bool) (n b i : ℕ) → first_from p b n ≡ some i → (b ≤ i) × (i < b + n) × (p i ≡ true) × ((k : ℕ) → b ≤ k → k < i → p k ≡ false)
unfolding first_from
some_inv p zero b i e = absurd (let o : ◌≡◌ {A = ℕ} 0 1 = cc in omega arith)
some_inv p (suc n) b i e = go (p b) refl (some_inv p n (suc b) i)
  where
    go : (t : Bool) → p b ≡ t → (first_from p (suc b) n ≡ some i → (suc b ≤ i) × (i < suc b + n) × (p i ≡ true) × ((k : ℕ) → suc b ≤ k → k < i → p k ≡ false)) → (b ≤ i) × (i < b + suc n) × (p i ≡ true) × ((k : ℕ) → b ≤ k → k < i → p k ≡ false)
    go true t ih =
        let z : some b ≡ some i = rw (t, first_from) at e in
        let q : b ≡ i = cc in
        (omega arith, omega arith, ap p (sym q) ∙ t, λ k l u. absurd (omega arith))
    go false t ih =
        let r = ih (rw (t, first_from) at e) in
        (omega arith, omega arith, r.2, λ k l u. ⊎_elim (λ q. ap p (sym q) ∙ t) (λ lt. r.3 k lt u) (eq-or-lt_of_le l))

module _ (p : ℕ → Bool) (n : ℕ) where
  -- no place fails
  pub first_none : first p n ≡ none → (k : ℕ) → k < n → p k ≡ false
  unfolding first
  first_none e k l = none_inv p n 0 e k (omega arith) (omega arith)

  -- the place fails, and none before it
  pub first_some : (i : ℕ) → first p n ≡ some i → (i < n) × (p i ≡ true) × ((k : ℕ) → k < i → p k ≡ false)
  unfolding first
  first_some i e = let r = some_inv p n 0 i e in (omega arith, r.2, λ k l. r.3 k (omega arith) l)

-- the first place at which a test holds is found no later than any such place
pub first_found : (p : ℕ → Bool) (n r : ℕ) → r < n → p r ≡ true → (k : ℕ) × (first p n ≡ some k) × (k ≤ r) × (p k ≡ true)
first_found p n r l e = go (first p n) refl
  where
    go : (o : Option ℕ) → first p n ≡ o → (k : ℕ) × (first p n ≡ some k) × (k ≤ r) × (p k ≡ true)
    go none f = absurd (true≢false (sym e ∙ first_none p n f r l))
    go (some k) f =
        let u = first_some p n k f in
        (k, f, ⊎_elim (λ b. absurd (true≢false (sym e ∙ u.2 r b))) (λ b. b) (lt_or_ge r k), u.1)

-- tests that agree below n hold first at the same place
pub first_equal : (p q : ℕ → Bool) (n : ℕ) → ((k : ℕ) → k < n → p k ≡ q k) → first p n ≡ first q n
first_equal p q n f = go (first q n) refl
  where
    go : (o : Option ℕ) → first q n ≡ o → first p n ≡ first q n
    go none e = passed_all {i = n} (record { within = omega arith; failed = λ k l. f k l ∙ first_none q n e k l }) (omega arith) ∙ sym e
    go (some i) e =
        let (l, h, b) = first_some q n i e in
        passed_hit {i = i} (record { within = omega arith; failed = λ k m. f k (omega arith) ∙ b k m }) l (f i l ∙ h) ∙ sym e
