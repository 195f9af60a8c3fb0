-- Laws of refusals: checks that answer as rows of the table of verdicts say, one alone and one after the other; and that the rows then
-- determine the answer.
use mathlib.Core.Path.{◌≡◌, refl, sym, ◌∙◌, subst}
use mathlib.Core.Logic.{◌↔◌, ◌⊎◌, inl, inr, ⊎_elim}
use mathlib.Core.Bool.{Bool, true, false, true≢false, false≢true}
use mathlib.Core.List.{List, [], ◌∷◌, ◌++◌}
use mathlib.Core.Option.{Option, none, some}
use Prim.Native.Nat.{ℕ, ◌<◌, ◌≤◌}
use native.Mathlib.Omega.{arith}
use lib.Dec.{ltb}
use Rattle.base.specs.Words.{first}
use Rattle.base.specs.Answer.{Answer, done, refused, numbered, row11, First, Clear, Refuses, Answers}
use Rattle.base.specs.Computed.{Check, passes, fails, fails_at, fails_if, check_room, and_then, answered}
use Rattle.base.proofs.Order.{lt_or_ge}
use Rattle.base.proofs.First.{first_none, first_some}
use Rattle.base.proofs.Says.{Says, says_ltb}
use Rattle.base.proofs.AnswerLaws.{fails_not_passes, answered_done, answered_refused}

-- ---- at most one refusal
first_unique : {Row : ℕ → ℕ → Type 0} {n p m q : ℕ} → First Row n p → First Row m q → (n ≡ m) × (p ≡ q)
first_unique {n = n} {p} {m} {q} a b =
    ⊎_elim
    (λ l. ⊎_elim (λ k. absurd (omega arith)) (λ (f, k). absurd (omega arith)) (b.lowest n p a.holds))
    (λ (e, l). ⊎_elim (λ k. absurd (omega arith)) (λ (f, k). (omega arith, e)) (b.lowest n p a.holds))
    (a.lowest m q b.holds)

refuses_unique : (rows : List (ℕ → ℕ → Type 0)) {n p m q : ℕ} → Refuses rows n p → Refuses rows m q → (n ≡ m) × (p ≡ q)
refuses_unique [] a b = absurd a
refuses_unique (r ∷ rows) (inl a) (inl b) = first_unique a b
refuses_unique (r ∷ rows) {n} {p} (inl a) (inr (c, b)) = absurd (c n p a.holds)
refuses_unique (r ∷ rows) {m = m} {q} (inr (c, a)) (inl b) = absurd (c m q b.holds)
refuses_unique (r ∷ rows) (inr (c, a)) (inr (d, b)) = refuses_unique rows a b

clear_refuses : (rows : List (ℕ → ℕ → Type 0)) (n p : ℕ) → Clear rows → Refuses rows n p → ⊥
clear_refuses [] n p c a = a
clear_refuses (r ∷ rows) n p c (inl a) = c.0 n p a.holds
clear_refuses (r ∷ rows) n p c (inr (d, a)) = clear_refuses rows n p c.1 a

-- ---- some row holds where there is a refusal
abbrev pub SomeHolds : List (ℕ → ℕ → Type 0) → ℕ → ℕ → Type 0
SomeHolds [] n p = ⊥
SomeHolds (Row ∷ later) n p = Row n p ⊎ SomeHolds later n p

pub refuses_some : (rows : List (ℕ → ℕ → Type 0)) (n p : ℕ) → Refuses rows n p → SomeHolds rows n p
refuses_some [] n p a = a
refuses_some (r ∷ rows) n p (inl a) = inl a.holds
refuses_some (r ∷ rows) n p (inr (c, a)) = inr (refuses_some rows n p a)

-- each row's number is such a one
abbrev pub Numbers : (ℕ → Type 0) → List (ℕ → ℕ → Type 0) → Type 0
Numbers Such [] = Unit {0}
Numbers Such (Row ∷ later) = ((n p : ℕ) → Row n p → Such n) × Numbers Such later

pub some_number : (Such : ℕ → Type 0) (rows : List (ℕ → ℕ → Type 0)) (n p : ℕ) → Numbers Such rows → SomeHolds rows n p → Such n
some_number Such [] n p l h = absurd h
some_number Such (r ∷ rows) n p l (inl h) = l.0 n p h
some_number Such (r ∷ rows) n p l (inr h) = some_number Such rows n p l.1 h

pub both_numbers : (Such : ℕ → Type 0) (rows later : List (ℕ → ℕ → Type 0)) → Numbers Such rows → Numbers Such later → Numbers Such (rows ++ later)
both_numbers Such [] later l m = m
both_numbers Such (r ∷ rows) later l m = (l.0, both_numbers Such rows later l.1 m)

-- ---- checks that answer as the rows say
pub record Tells (c : Check) (rows : List (ℕ → ℕ → Type 0)) : Type 0 where
  pub refuses : (n p : ℕ) → c ≡ fails n p → Refuses rows n p
  pub clear : c ≡ passes → Clear rows

module _ {c : Check} {rows : List (ℕ → ℕ → Type 0)} (t : Tells c rows) where
  pub fails_iff : (n p : ℕ) → (c ≡ fails n p) ↔ Refuses rows n p
  fails_iff n p = (t.refuses n p, back c refl)
    where
      back : (d : Check) → c ≡ d → Refuses rows n p → c ≡ fails n p
      back passes e r = absurd (clear_refuses rows n p (t.clear e) r)
      back (fails m q) e r = let (f, g) = refuses_unique rows (t.refuses m q e) r in cc

  pub passes_iff : (c ≡ passes) ↔ Clear rows
  passes_iff = (t.clear, back c refl)
    where
      back : (d : Check) → c ≡ d → Clear rows → c ≡ passes
      back passes e k = e
      back (fails m q) e k = absurd (clear_refuses rows m q k (t.refuses m q e))

  -- the rows determine what is answered
  pub answers_iff : (v : ℕ) (Value : ℕ → Type 0) → (Clear rows → (k : ℕ) → (v ≡ k) ↔ Value k) → (a : Answer) → (answered c (done v) ≡ a) ↔ Answers rows Value a
  answers_iff v Value h (done k) =
      let (f, g) = answered_done c v k in
      (λ e. let (x, y) = f e in (t.clear x, (h (t.clear x) k).0 y), λ (x, y). g (passes_iff.1 x, (h x k).1 y))
  answers_iff v Value h (refused n p) =
      let (f, g) = answered_refused c v n p in
      (λ e. (fails_iff n p).0 (f e), λ r. g ((fails_iff n p).1 r))

-- ---- one check alone
-- a row holds first where it holds at no lower place, and at this place with no lower number
pub first_of : {Row : ℕ → ℕ → Type 0} {n p : ℕ} → Row n p → ((m q : ℕ) → Row m q → q < p → ⊥) → ((m : ℕ) → Row m p → n ≤ m) → First Row n p
first_of {Row} {n} {p} h before here = record {
  holds = h;
  lowest = λ m q r.
      ⊎_elim (λ a. absurd (before m q r a)) (λ a. ⊎_elim (λ b. inl b) (λ b. let z : q ≡ p = omega arith in inr (sym z, here m (subst (Row m) z r))) (lt_or_ge p q)) (lt_or_ge q p);
}

pub tells_if : {A : Type 0} (b : Bool) (number place : ℕ) → Says b A → Tells (fails_if b number place) (numbered number (λ p. (p ≡ place) × A) ∷ [])
tells_if {A} true number place s = record {
  refuses = λ n p e.
      let x : n ≡ number = cc in
      let y : p ≡ place = cc in
      inl (first_of (x, (y, s.0 refl)) (λ m q (f, (g, w)) l. omega arith) (λ m (f, w). omega arith));
  clear = fails_not_passes;
}
tells_if {A} false number place s = record {
  refuses = λ n p e. fails_not_passes (sym e);
  clear = λ e. (λ m q (f, (g, w)). false≢true (s.1 w), tt);
}

pub tells_at : {A : ℕ → Type 0} (number : ℕ) (t : ℕ → Bool) (bound : ℕ) → ((i : ℕ) → i < bound → Says (t i) (A i)) →
    Tells (fails_at number (first t bound)) (numbered number (λ i. (i < bound) × A i) ∷ [])
tells_at {A} number t bound s = go (first t bound) refl
  where
    go : (o : Option ℕ) → first t bound ≡ o → Tells (fails_at number o) (numbered number (λ i. (i < bound) × A i) ∷ [])
    go none f = record {
      refuses = λ n p e. fails_not_passes (sym e);
      clear = λ e. (λ m q (g, (l, w)). true≢false (sym ((s q l).1 w) ∙ first_none t bound f q l), tt);
    }
    go (some i) f = record {
      refuses = λ n p e.
          let (l, h, k) = first_some t bound i f in
          let x : n ≡ number = cc in
          let y : i ≡ p = cc in
          inl (first_of (x, (omega arith, rw (← y) ((s i l).0 h))) (λ m q (g, (b, w)) z. true≢false (sym ((s q b).1 w) ∙ k q (omega arith))) (λ m (g, w). omega arith));
      clear = fails_not_passes;
    }

-- check 11
pub tells_room : (needed room : ℕ) → Tells (check_room needed room) (row11 needed room ∷ [])
tells_room needed room = tells_if (ltb room needed) 11 needed (says_ltb room needed)

-- ---- one check after the other; the later one may rest on what the earlier one found clear
pub before_refuses : (rows later : List (ℕ → ℕ → Type 0)) (n p : ℕ) → Refuses rows n p → Refuses (rows ++ later) n p
before_refuses [] later n p r = absurd r
before_refuses (a ∷ rows) later n p (inl r) = inl r
before_refuses (a ∷ rows) later n p (inr (c, r)) = inr (c, before_refuses rows later n p r)

pub after_refuses : (rows later : List (ℕ → ℕ → Type 0)) (n p : ℕ) → Clear rows → Refuses later n p → Refuses (rows ++ later) n p
after_refuses [] later n p c r = r
after_refuses (a ∷ rows) later n p c r = inr (c.0, after_refuses rows later n p c.1 r)

pub both_clear : (rows later : List (ℕ → ℕ → Type 0)) → Clear rows → Clear later → Clear (rows ++ later)
both_clear [] later c d = d
both_clear (a ∷ rows) later c d = (c.0, both_clear rows later c.1 d)

pub refuses_split : (rows later : List (ℕ → ℕ → Type 0)) (n p : ℕ) → Refuses (rows ++ later) n p → Refuses rows n p ⊎ (Clear rows × Refuses later n p)
refuses_split [] later n p r = inr (tt, r)
refuses_split (a ∷ rows) later n p (inl r) = inl (inl r)
refuses_split (a ∷ rows) later n p (inr (c, r)) = ⊎_elim (λ x. inl (inr (c, x))) (λ (d, x). inr ((c, d), x)) (refuses_split rows later n p r)

pub clear_split : (rows later : List (ℕ → ℕ → Type 0)) → Clear (rows ++ later) → Clear rows × Clear later
clear_split [] later c = (tt, c)
clear_split (a ∷ rows) later c = let (x, y) = clear_split rows later c.1 in ((c.0, x), y)

pub tells_then : (c d : Check) {rows later : List (ℕ → ℕ → Type 0)} → Tells c rows → (Clear rows → Tells d later) → Tells (and_then c d) (rows ++ later)
tells_then passes d {rows} {later} t u =
    let k = t.clear refl in
    record { refuses = λ n p e. after_refuses rows later n p k ((u k).refuses n p e); clear = λ e. both_clear rows later k ((u k).clear e) }
tells_then (fails m q) d {rows} {later} t u = record { refuses = λ n p e. before_refuses rows later n p (t.refuses n p e); clear = fails_not_passes }
