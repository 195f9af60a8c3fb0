-- The pigeonhole law: different numbers below m are at most m.
use mathlib.Core.Path.{◌≡◌, sym, ◌∙◌}
use mathlib.Core.Bool.{cond}
use mathlib.Core.Logic.{◌⊎◌, inl, inr, ⊎_elim}
use Prim.Native.Nat.{ℕ, zero, suc, ◌-◌, ◌<◌, ◌≤◌}
use native.Mathlib.Omega.{arith}
use lib.Dec.{eqb}
use borrow.Author.Tests.{eq-eqb, ne_eqb}
use Rattle.base.proofs.Order.{lt_or_ge}

equal_or_not : (x y : ℕ) → (x ≡ y) ⊎ (x ≡ y → ⊥)
equal_or_not x y =
    ⊎_elim (λ l. inr (λ e. omega arith)) (λ l. ⊎_elim (λ k. inr (λ e. omega arith)) (λ k. inl (omega arith)) (lt_or_ge y x)) (lt_or_ge x y)

-- v takes the place of the highest number
abbrev moved : ℕ → ℕ → ℕ → ℕ
moved top v x = cond (eqb x top) v x

moved_top : (top v x : ℕ) → x ≡ top → moved top v x ≡ v
moved_top top v x e = rw (eq-eqb x top e)

moved_other : (top v x : ℕ) → (x ≡ top → ⊥) → moved top v x ≡ x
moved_other top v x d = rw (ne_eqb x top d)

pub pigeonhole : (n m : ℕ) (f : ℕ → ℕ) → ((i : ℕ) → i < n → f i < m) → ((i j : ℕ) → i < j → j < n → f i ≡ f j → ⊥) → n ≤ m
pigeonhole zero m f below apart = omega arith
pigeonhole (suc n) m f below apart =
    let last = below n (omega arith) in
    let l = pigeonhole n (m - 1) (λ i. moved (m - 1) (f n) (f i)) lower different in
    omega arith
  where
    lower : (i : ℕ) → i < n → moved (m - 1) (f n) (f i) < m - 1
    lower i l =
        let b = below n (omega arith) in
        let a = below i (omega arith) in
        ⊎_elim
        (λ e. let d : (f n ≡ m - 1 → ⊥) = λ g. apart i n l (omega arith) (e ∙ sym g) in let w = moved_top (m - 1) (f n) (f i) e in ⊎_elim (λ k. omega arith) (λ k. absurd (d (omega arith))) (lt_or_ge (f n) (m - 1)))
        (λ d. let w = moved_other (m - 1) (f n) (f i) d in ⊎_elim (λ k. omega arith) (λ k. absurd (d (omega arith))) (lt_or_ge (f i) (m - 1)))
        (equal_or_not (f i) (m - 1))

    different : (i j : ℕ) → i < j → j < n → moved (m - 1) (f n) (f i) ≡ moved (m - 1) (f n) (f j) → ⊥
    different i j l k e =
        ⊎_elim
        (λ x. ⊎_elim
        (λ y. apart i j l (omega arith) (x ∙ sym y))
        (λ y. apart j n k (omega arith) (sym (sym (moved_top (m - 1) (f n) (f i) x) ∙ e ∙ moved_other (m - 1) (f n) (f j) y)))
        (equal_or_not (f j) (m - 1)))
        (λ x. ⊎_elim
        (λ y. apart i n (omega arith) (omega arith) (sym (moved_other (m - 1) (f n) (f i) x) ∙ e ∙ moved_top (m - 1) (f n) (f j) y))
        (λ y. apart i j l (omega arith) (sym (moved_other (m - 1) (f n) (f i) x) ∙ e ∙ moved_other (m - 1) (f n) (f j) y))
        (equal_or_not (f j) (m - 1)))
        (equal_or_not (f i) (m - 1))
