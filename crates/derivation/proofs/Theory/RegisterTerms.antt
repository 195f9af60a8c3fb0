-- The terms of the registers, and when a term number is known before a step.
use mathlib.Core.Path.{◌≡◌, refl, sym, ap, ◌∙◌}
use mathlib.Core.Logic.{◌⊎◌, inl, inr, ⊎_elim}
use mathlib.Core.Bool.{true}
use mathlib.Core.List.{List}
use Prim.Native.Nat.{ℕ, ◌+◌, ◌-◌, ◌<◌}
use native.Mathlib.Omega.{arith}
use borrow.Author.Tests.{lt-ltb, le-ltb, eq-eqb, ne_eqb}
use Rattle.base.proofs.Order.{lt_or_ge}
use Rattle.base.proofs.Says.{Says, says_eqb, says_true, says_and, says_any}
use Rattle.submission.specs.{Record.entries, Record.entry_at, Record.guess, Record.conclusion_at, Check.claims}
use Rattle.derivation.specs.{Step.guess_counts, Step.register_term, Step.register_counts, Step.written, Step.holds_term, Computed.is_known}

module _ (s : List ℕ) where
  -- ---- the three sorts of registers
  pub entry_register : (r : ℕ) → r < entries s → register_term s r ≡ entry_at s r
  unfolding register_term
  entry_register r l = rw (lt-ltb r (entries s) l)

  pub guess_register : register_term s (entries s) ≡ guess s
  unfolding register_term
  guess_register = rw (le-ltb (entries s) (entries s) (omega arith), eq-eqb (entries s) (entries s) refl)

  pub result_register : (j : ℕ) → register_term s (written s j) ≡ conclusion_at s j
  unfolding register_term
  result_register j =
      rw (le-ltb (written s j) (entries s) (omega arith), ne_eqb (written s j) (entries s) (λ e. omega arith)) (ap (conclusion_at s) (omega arith))

  -- a register that is written before step i is one of them
  pub data Written (i r : ℕ) : Type 0 where
    entry : r < entries s → Written i r
    guessed : r ≡ entries s → Written i r
    result : (j : ℕ) → j < i → r ≡ written s j → Written i r

  pub written_cases : (i r : ℕ) → r < written s i → Written i r
  written_cases i r l =
      ⊎_elim (λ a. entry a)
      (λ a. ⊎_elim (λ b. guessed (omega arith)) (λ b. result (r - (entries s + 1)) (omega arith) (omega arith)) (lt_or_ge r (entries s + 1)))
      (lt_or_ge r (entries s))

  -- ---- which registers count
  pub counts_other : (r : ℕ) → (r ≡ entries s → ⊥) → register_counts s r ≡ true
  unfolding register_counts
  counts_other r d = rw (ne_eqb r (entries s) d)

  pub counts_guess : register_counts s (entries s) ≡ guess_counts (claims s)
  unfolding register_counts
  counts_guess = rw (eq-eqb (entries s) (entries s) refl)

-- "A premise is known if it is in the knowledge, is the guess, or was concluded by an earlier step", of term numbers
abbrev pub KnownNumber : List ℕ → ℕ → ℕ → Type 0
KnownNumber s i t =
    ((r : ℕ) × (r < entries s) × (t ≡ entry_at s r))
    ⊎ (((guess_counts (claims s) ≡ true) × (t ≡ guess s)) ⊎ ((j : ℕ) × (j < i) × (t ≡ conclusion_at s j)))

pub says_holds : (s : List ℕ) (t r : ℕ) → Says (holds_term s t r) ((register_counts s r ≡ true) × (register_term s r ≡ t))
says_holds s t r = says_and _ _ (says_true _) (says_eqb _ _)

pub says_known : (s : List ℕ) (i t : ℕ) → Says (is_known s i t) (KnownNumber s i t)
says_known s i t =
    let w = says_any {P = λ r. (register_counts s r ≡ true) × (register_term s r ≡ t)} (holds_term s t) (written s i) (λ r l. says_holds s t r) in
    (λ e. let (r, l, q) = w.0 e in from r q (written_cases s i r l), λ k. w.1 (back k))
  where
    from : (r : ℕ) → (register_counts s r ≡ true) × (register_term s r ≡ t) → Written s i r → KnownNumber s i t
    from r (z, q) (entry l) = inl (r, l, sym q ∙ entry_register s r l)
    from r (z, q) (guessed e) = inr (inl (sym (ap (register_counts s) e ∙ counts_guess s) ∙ z, sym q ∙ ap (register_term s) e ∙ guess_register s))
    from r (z, q) (result j l e) = inr (inr (j, l, sym q ∙ ap (register_term s) e ∙ result_register s j))

    back : KnownNumber s i t → (r : ℕ) × (r < written s i) × ((register_counts s r ≡ true) × (register_term s r ≡ t))
    back (inl (r, l, e)) = (r, omega arith, (counts_other s r (λ f. omega arith), entry_register s r l ∙ sym e))
    back (inr (inl (z, e))) = (entries s, omega arith, (counts_guess s ∙ z, guess_register s ∙ sym e))
    back (inr (inr (j, l, e))) = (written s j, omega arith, (counts_other s (written s j) (λ f. omega arith), result_register s j ∙ sym e))
