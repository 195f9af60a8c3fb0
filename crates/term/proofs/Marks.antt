-- Marks on the numbers below N, and rounds that add marks: N rounds are enough.
use mathlib.Core.Path.{◌≡◌, refl, ap, sym, ◌∙◌, subst}
use mathlib.Core.Logic.{◌⊎◌, inl, inr, ⊎_elim}
use mathlib.Core.Bool.{Bool, true, false, ◌||◌, ◌&&◌, not, true≢false, false≢true}
use mathlib.Core.List.{List}
use Prim.Native.Nat.{ℕ, zero, suc, ◌+◌, ◌≤◌, ◌<◌}
use native.Mathlib.Omega.{arith}
use lib.ListN.{length, get_or}
use lib.Seq.{ext_get_or}
use Rattle.base.specs.Words.{listed}
use Rattle.base.proofs.Order.{lt_or_ge}
use Rattle.base.proofs.BoolLaws.{or_left, or_right, or_neither}
use Rattle.base.proofs.Says.{Says, true_or_false, says_and, says_any, denies}
use Rattle.base.proofs.Grow.{length_listed, listed_at}
use Rattle.base.specs.Computed.{any}

not-true : (b : Bool) → Says (not b) (b ≡ false)
not-true true = (λ e. absurd (false≢true e), λ e. absurd (true≢false e))
not-true false = (λ e. refl, λ e. refl)

-- ---- how many of the first n numbers are marked
one : Bool → ℕ
one true = 1
one false = 0

count : (ℕ → Bool) → ℕ → ℕ
count m zero = 0
count m (suc n) = count m n + one (m n)

one_le : (b : Bool) → one b ≤ 1
unfolding one
one_le true = omega arith
one_le false = omega arith

one_mono : (b c : Bool) → (b ≡ true → c ≡ true) → one b ≤ one c
unfolding one
one_mono true c f = rw (f refl) (omega arith)
one_mono false c f = omega arith

-- m is within k, and k marks a number that m does not
count_mono : (m k : ℕ → Bool) (N : ℕ) → ((n : ℕ) → n < N → m n ≡ true → k n ≡ true) → count m N ≤ count k N
unfolding count
count_mono m k zero f = omega arith
count_mono m k (suc N) f = omega (arith, count_mono m k N (λ n b. f n (omega arith)), one_mono (m N) (k N) (f N (omega arith)))

count_more : (m k : ℕ → Bool) (N : ℕ) → ((n : ℕ) → n < N → m n ≡ true → k n ≡ true) →
    (n : ℕ) → n < N → m n ≡ false → k n ≡ true → count m N < count k N
unfolding count one
count_more m k zero f n b x y = absurd (omega arith)
count_more m k (suc N) f n b x y =
    ⊎_elim (λ l. omega (arith, count_more m k N (λ n b. f n (omega arith)) n l x y, one_mono (m N) (k N) (f N (omega arith))))
    (λ l. let e : n ≡ N = omega arith in
    omega (arith, count_mono m k N (λ n b. f n (omega arith)), ap one (sym (ap m e) ∙ x), ap one (sym (ap k e) ∙ y)))
    (lt_or_ge n N)

count_le : (m : ℕ → Bool) (N : ℕ) → count m N ≤ N
unfolding count
count_le m zero = omega arith
count_le m (suc N) = omega (arith, count_le m N, one_le (m N))

-- ---- rounds: each marks what is marked, and what the test p says of the marks
abbrev marked : List Bool → ℕ → Bool
marked m n = get_or m n false

-- the test leads to no mark that is not there
abbrev pub Closed : ℕ → (List Bool → ℕ → Bool) → List Bool → Type 0
Closed N p m = (n : ℕ) → n < N → p m n ≡ true → marked m n ≡ true

-- the test leads to this one, which is not marked
abbrev Lacks : ℕ → (List Bool → ℕ → Bool) → List Bool → Type 0
Lacks N p m = (n : ℕ) × (n < N) × ((marked m n ≡ false) × (p m n ≡ true))

lacks_or_closed : (N : ℕ) (p : List Bool → ℕ → Bool) (m : List Bool) → Lacks N p m ⊎ Closed N p m
lacks_or_closed N p m = go (any (λ n. not (marked m n) && p m n) N) refl
  where
    at : (n : ℕ) → n < N → Says (not (marked m n) && p m n) ((marked m n ≡ false) × (p m n ≡ true))
    at n b = says_and (not (marked m n)) (p m n) (not-true (marked m n)) (λ e. e, λ e. e)

    found : Says (any (λ n. not (marked m n) && p m n) N) (Lacks N p m)
    found = says_any (λ n. not (marked m n) && p m n) N at

    go : (b : Bool) → any (λ n. not (marked m n) && p m n) N ≡ b → Lacks N p m ⊎ Closed N p m
    go true e = inl (found.0 e)
    go false e = inr (λ n b x. ⊎_elim (λ t. t) (λ f. absurd ((denies _ found).0 e (n, b, (f, x)))) (true_or_false (marked m n)))

module _ (N : ℕ) (p : List Bool → ℕ → Bool) (R : ℕ → List Bool) (start : length (R 0) ≡ N)
    (next : (i : ℕ) → R (suc i) ≡ listed (λ n. marked (R i) n || p (R i) n) N) where
  rounds_length : (i : ℕ) → length (R i) ≡ N
  rounds_length zero = start
  rounds_length (suc i) = ap length (next i) ∙ length_listed _ N

  round_at : (i n : ℕ) → n < N → marked (R (suc i)) n ≡ (marked (R i) n || p (R i) n)
  round_at i n b = ap (λ l. marked l n) (next i) ∙ listed_at _ n N false b

  keeps : (i n : ℕ) → n < N → marked (R i) n ≡ true → marked (R (suc i)) n ≡ true
  keeps i n b e = round_at i n b ∙ or_left (marked (R i) n) (p (R i) n) e

  pub rounds_keep : (i n : ℕ) → n < N → marked (R 0) n ≡ true → marked (R i) n ≡ true
  rounds_keep zero n b e = e
  rounds_keep (suc i) n b e = keeps i n b (rounds_keep i n b e)

  -- what holds of the first marks and is handed on holds of all
  pub rounds_sound : (Q : ℕ → Type 0) → ((n : ℕ) → n < N → marked (R 0) n ≡ true → Q n) →
      ((m : List Bool) → ((n : ℕ) → n < N → marked m n ≡ true → Q n) → (n : ℕ) → n < N → p m n ≡ true → Q n) →
      (i n : ℕ) → n < N → marked (R i) n ≡ true → Q n
  rounds_sound Q f g zero n b e = f n b e
  rounds_sound Q f g (suc i) n b e =
      ⊎_elim (rounds_sound Q f g i n b)
      (λ u. g (R i) (rounds_sound Q f g i) n b (rw u at (sym (round_at i n b) ∙ e)))
      (true_or_false (marked (R i) n))

  stays : (i : ℕ) → Closed N p (R i) → R (suc i) ≡ R i
  stays i c = ext_get_or false (R (suc i)) (R i) (rounds_length (suc i) ∙ sym (rounds_length i)) (λ n b. same n (omega (arith, rounds_length (suc i))))
    where
      same : (n : ℕ) → n < N → marked (R (suc i)) n ≡ marked (R i) n
      same n b =
          round_at i n b ∙ ⊎_elim (λ t. or_left (marked (R i) n) (p (R i) n) t ∙ sym t)
          (λ f. ⊎_elim (λ t. absurd (true≢false (sym (c n b t) ∙ f)))
          (λ g. or_neither (marked (R i) n) (p (R i) n) f g ∙ sym f) (true_or_false (p (R i) n))) (true_or_false (marked (R i) n))

  -- each round marks a number, until none is left
  progress : (i : ℕ) → Closed N p (R i) ⊎ (i ≤ count (marked (R i)) N)
  progress zero = inr (omega arith)
  progress (suc i) = ⊎_elim still (λ c. ⊎_elim (more c) still (lacks_or_closed N p (R i))) (progress i)
    where
      still : Closed N p (R i) → Closed N p (R (suc i)) ⊎ (suc i ≤ count (marked (R (suc i))) N)
      still c = inl (subst (Closed N p) (sym (stays i c)) c)

      more : i ≤ count (marked (R i)) N → Lacks N p (R i) → Closed N p (R (suc i)) ⊎ (suc i ≤ count (marked (R (suc i))) N)
      more c (n, b, (f, t)) =
          let h = count_more (marked (R i)) (marked (R (suc i))) N (keeps i) n b f (round_at i n b ∙ or_right (marked (R i) n) (p (R i) n) t) in
          inr (omega arith)

  -- where as many as there are numbers are marked, none is left
  all_marked : (m : List Bool) → N ≤ count (marked m) N → Closed N p m
  all_marked m c n b x =
      ⊎_elim (λ t. t) (λ f. let h = count_more (marked m) (λ n. true) N (λ n b e. refl) n b f refl in absurd (omega (arith, count_le (λ n. true) N)))
      (true_or_false (marked m n))

  pub rounds_closed : Closed N p (R N)
  rounds_closed = ⊎_elim (λ c. c) (all_marked (R N)) (progress N)
