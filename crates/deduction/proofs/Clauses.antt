-- Clauses: the returns of `clause_of`, the chains of the records that wait for a term, and that what a clause gives is deducible.
use mathlib.Core.Path.{◌≡◌, refl, sym, ap, ◌∙◌, subst}
use mathlib.Core.Logic.{⊎_elim}
use mathlib.Core.Bool.{Bool, true}
use mathlib.Core.List.{List}
use Prim.Native.Nat.{ℕ, ◌+◌, ◌<◌, ◌≤◌}
use native.Mathlib.Omega.{arith}
use lib.Dec.{eqb}
use lib.ListN.{get_or, set, replicate}
use borrow.Author.Tests.{eq-eqb}
use Rattle.base.specs.Code.{Chaining}
use Rattle.base.proofs.BoolLaws.{or_left, or_right, and_both}
use Rattle.base.proofs.Chains.{chaining_none, chaining_apart, chaining_more}
use Rattle.term.specs.Step.{Deducible}
use Rattle.term.proofs.Reach.{Reach, known, reach_iff}
use Rattle.term.proofs.Deducibility.{built_reach}
use Rattle.submission.specs.Code.{TableRead}
use Rattle.submission.specs.Record.{terms, record_at, term}
use Rattle.submission.proofs.Theory.ListedTerms.{facts}
use Rattle.std.specs.Prelude.{Option as Maybe, Some, None}
use Rattle.deduction.specs.declared.opening.Opening.{Opening}
use Rattle.deduction.specs.declared.opening.Opening.TheVariants.{Freely, With}
use Rattle.deduction.specs.declared.opening.Role.{Role}
use Rattle.deduction.specs.declared.opening.Role.TheVariants.{Key, First, Second}
use Rattle.deduction.specs.declared.opening.Clause.{Clause}
use Rattle.deduction.specs.Computed.{at, parts_built, built, gives, Marked}
use Rattle.deduction.specs.Code.{Marks, reached_of, Reached, parts_of, opening_of, from, key_clause, first_clause, second_clause, clause_of, awaited, linked}
use Rattle.deduction.specs.Saturation.{ComesFrom, from_parts, from_pair, from_key}
use Rattle.deduction.proofs.Theory.{BuildTestLaws.built_eq, BuildTestLaws.says_built, Exactness.gives_reached}
use Rattle.deduction.proofs.MarkArrays.{says_reached}
use Rattle.deduction.proofs.BuildMemo.{same_some, both_parts}
use Rattle.deduction.proofs.RecordOpening.{opening_gives, with_listed}

-- ---- what a clause is of
pub key_clause_lem : {o : Maybe Opening} {t body key : ℕ} → o ≡ Some (With body key) → key_clause t o ≡ from key t body
key_clause_lem e = rw e

pub first_clause_lem : {p : Maybe (ℕ × ℕ)} {t x y : ℕ} → p ≡ Some (x, y) → first_clause t p ≡ from x y t
first_clause_lem e = rw e

pub second_clause_lem : {p : Maybe (ℕ × ℕ)} {t x y : ℕ} → p ≡ Some (x, y) → second_clause t p ≡ from y x t
second_clause_lem e = rw e

-- ---- what stands in a clause
-- two clauses that are one
pub same_clause : {u x y u' x' y' : ℕ} → from u x y ≡ from u' x' y' → (u ≡ u') × (x ≡ x') × (y ≡ y')
same_clause e =
    (ap (λ (k : Clause). k.term) (same_some e), ap (λ (k : Clause). k.other) (same_some e), ap (λ (k : Clause). k.result) (same_some e))

pub no_clause : {A : Type 0} {u x y : ℕ} → None ≡ from u x y → A
no_clause e = absurd (let z : ◌≡◌ {A = ℕ} 0 1 = cc in omega arith)

key_from : (o : Maybe Opening) (t : ℕ) {u x y : ℕ} → key_clause t o ≡ from u x y → (o ≡ Some (With y u)) × (x ≡ t)
key_from (Some (Freely a b)) t e = no_clause e
key_from (Some (With a b)) t e = let (f, g, h) = same_clause e in (rw (f, h), sym g)
key_from None t e = no_clause e

first_from_lem : (p : Maybe (ℕ × ℕ)) (t : ℕ) {u x y : ℕ} → first_clause t p ≡ from u x y → (p ≡ Some (u, x)) × (y ≡ t)
first_from_lem None t e = no_clause e
first_from_lem (Some (a, b)) t e = let (f, g, h) = same_clause e in (rw (f, g), sym h)

second_from : (p : Maybe (ℕ × ℕ)) (t : ℕ) {u x y : ℕ} → second_clause t p ≡ from u x y → (p ≡ Some (x, u)) × (y ≡ t)
second_from None t e = no_clause e
second_from (Some (a, b)) t e = let (f, g, h) = same_clause e in (rw (f, g), sym h)

module _ {s : List ℕ} {t : ℕ} (v : TableRead s) (l : t < terms s) where
  pub parts_listed : {x y : ℕ} → parts_of (record_at s t) ≡ Some (x, y) → (x < terms s) × (y < terms s)
  parts_listed p = let (a, b) = (both_parts (record_at s t) p).0 t ((facts v).table.earlier t l) in (omega arith, omega arith)

  -- its numbers are those of terms
  pub clause_listed : (role : Role) {u x y : ℕ} → clause_of s role t ≡ from u x y → (u < terms s) × (x < terms s) × (y < terms s)
  clause_listed Key e =
      let (o, f) = key_from (opening_of s t) t e in
      let (a, b) = with_listed v l o in
      (b, rw f l, a)
  clause_listed First e =
      let (p, f) = first_from_lem (parts_of (record_at s t)) t e in
      let (a, b) = parts_listed p in
      (a, b, rw f l)
  clause_listed Second e =
      let (p, f) = second_from (parts_of (record_at s t)) t e in
      let (a, b) = parts_listed p in
      (b, a, rw f l)

-- ---- what a clause gives, from terms that are marked
module _ {s : List ℕ} {t : ℕ} (v : TableRead s) (l : t < terms s) (m : List Bool) where
  marked_built : (n : ℕ) → n < terms s → at m n ≡ true → built s m n ≡ true
  marked_built n b e = built_eq s m (facts v).table.earlier n b ∙ or_left _ _ e

  opening_reached : {body key : ℕ} → opening_of s t ≡ Some (With body key) → at m t ≡ true → at m key ≡ true → (body < terms s) × Reach (Marked s m) (term s body)
  opening_reached {body} {key} o e f =
      let (a, b) = with_listed v l o in
      let g : gives s m (record_at s t) body ≡ true = opening_gives v l m body ∙ rw o (and_both _ _ (eq-eqb body body refl) (marked_built key b f)) in
      gives_reached (facts v) m (λ n c p. known (n, c, (p, refl))) t body l (known (t, l, (e, refl))) g

  freely_reached : {x y : ℕ} → opening_of s t ≡ Some (Freely x y) → at m t ≡ true → Reach (Marked s m) (term s x) × Reach (Marked s m) (term s y)
  freely_reached {x} {y} o e =
      let from : (n : ℕ) → gives s m (record_at s t) n ≡ true → Reach (Marked s m) (term s n) = λ n g.
      let w : (n < terms s) × Reach (Marked s m) (term s n) = gives_reached (facts v) m (λ k c p. known (k, c, (p, refl))) t n l (known (t, l, (e, refl))) g in w.1 in (
        from x (opening_gives v l m x ∙ rw o (or_left (eqb x x) (eqb x y) (eq-eqb x x refl))),
        from y (opening_gives v l m y ∙ rw o (or_right (eqb y x) (eqb y y) (eq-eqb y y refl))),
      )

  parts_reached : {x y : ℕ} → parts_of (record_at s t) ≡ Some (x, y) → at m x ≡ true → at m y ≡ true → (t < terms s) × Reach (Marked s m) (term s t)
  parts_reached {x} {y} p e f =
      let (g, h) = both_parts (record_at s t) p in
      let (a, b) = g t ((facts v).table.earlier t l) in
      let c : built s m t ≡ true = built_eq s m (facts v).table.earlier t l ∙ or_right (at m t) (parts_built (built s m) (record_at s t)) (h (built s m) ∙ and_both (built s m x) (built s m y) (marked_built x (omega arith) e) (marked_built y (omega arith) f)) in
      (l, built_reach (λ u k. known k) ((says_built (facts v) m t l).0 c))

-- ---- what a term comes from
module _ {s : List ℕ} {u n : ℕ} (v : TableRead s) (l : u < terms s) where
  -- what is had may be told otherwise
  pub comes_by : {Had Had' : ℕ → Type 0} → ((k : ℕ) → k < terms s → Had k → Had' k) → ComesFrom s Had u n → ComesFrom s Had' u n
  comes_by f (from_parts x y e p a b) =
      let (bx, by) = parts_listed v (rw e at l) p in
      from_parts x y e p (f x bx a) (f y by b)
  comes_by f (from_pair x y a o i) = from_pair x y (f u l a) o i
  comes_by f (from_key k a o b) = from_key k (f u l a) o (f k (with_listed v l o).1 b)

  -- it is deducible
  pub comes_deducible : (m : Marks) → ComesFrom s (Reached m) u n → Deducible (Marked s (reached_of m)) (term s n)
  comes_deducible m (from_parts x y e p a b) =
      (reach_iff _ _).0 (parts_reached v (rw e at l) (reached_of m) p ((says_reached m x).1 a) ((says_reached m y).1 b)).1
  comes_deducible m (from_pair x y a o i) =
      let (f, g) = freely_reached v l (reached_of m) o ((says_reached m u).1 a) in
      (reach_iff _ _).0 (⊎_elim (λ e. rw e f) (λ e. rw e g) i)
  comes_deducible m (from_key k a o b) = (reach_iff _ _).0 (opening_reached v l (reached_of m) o ((says_reached m u).1 a) ((says_reached m k).1 b)).1

-- what a clause gives comes from its record
pub clause_comes : {s : List ℕ} {t : ℕ} {Had : ℕ → Type 0} (role : Role) {u x y : ℕ} → clause_of s role t ≡ from u x y → Had u → Had x → ComesFrom s Had t y
clause_comes {s} {t} {Had} Key {u} e a b = let (o, f) = key_from (opening_of s t) t e in from_key u (subst Had f b) o a
clause_comes {s} {t} {Had} First {u} {x} {y} e a b =
    let (p, f) = first_from_lem (parts_of (record_at s t)) t e in
    from_parts u x (sym f) (ap (λ k. parts_of (record_at s k)) f ∙ p) a b
clause_comes {s} {t} {Had} Second {u} {x} {y} e a b =
    let (p, f) = second_from (parts_of (record_at s t)) t e in
    from_parts x u (sym f) (ap (λ k. parts_of (record_at s k)) f ∙ p) b a

-- ---- the chains of the records that wait for a term
pub linked_start : (s : List ℕ) (role : Role) {b l : List ℕ} → b ≡ replicate 256 255 → l ≡ replicate 256 255 → Chaining (linked s role) 0 b l
linked_start s role e f = rw (e, f) chaining_none

module _ {s : List ℕ} {i n : ℕ} (v : TableRead s) (d : i < n) (k : n ≡ terms s) (role : Role) {o : Maybe Clause} (e : o ≡ clause_of s role i) {b l : List ℕ}
    (p : Chaining (linked s role) i b l) where
  pub linked_apart : o ≡ None → Chaining (linked s role) (i + 1) b l
  unfolding linked
  linked_apart f = chaining_apart p (rw (← e, f) (omega arith))

  pub linked_more : {c : Clause} {b' l' : List ℕ} → o ≡ Some c → b' ≡ set b i (get_or l c.term 255) → l' ≡ set l c.term i → Chaining (linked s role) (i + 1) b' l'
  unfolding linked
  linked_more {c} f g h =
      let f' : clause_of s role i ≡ from c.term c.other c.result = sym e ∙ f in
      let (a, _, _) = clause_listed v (omega arith) role f' in
      rw (g, h) (chaining_more p (omega (arith, (facts v).terms_most)) (ap awaited f') refl (omega (arith, (facts v).terms_most)))

pub linked_end : (s : List ℕ) (role : Role) {b l : List ℕ} {i n : ℕ} → Chaining (linked s role) i b l → i ≤ terms s → n ≤ i → n ≡ terms s → Chaining (linked s role) (terms s) b l
linked_end s role {b} {l} p a c e = subst (λ k. Chaining (linked s role) k b l) (omega arith) p
