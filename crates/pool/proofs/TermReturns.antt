-- One of the second's terms more: its number is noted, and its record is put where the first lacks it.
use mathlib.Core.Path.{◌≡◌, refl, sym, ap, ap₂, ◌∙◌, subst}
use mathlib.Core.Logic.{⊎_elim}
use mathlib.Core.Bool.{cond}
use mathlib.Core.List.{List, [], ◌∷◌}
use mathlib.Core.Option.{some}
use Prim.Native.Nat.{ℕ, ◌+◌, ◌<◌}
use native.Mathlib.Numerals.{add-one}
use native.Mathlib.Omega.{arith}
use lib.Dec.{eqb}
use lib.ListN.{length, get_or, set, length-set}
use lib.Seq.{get_or-set_same, get_or-set_other}
use borrow.Author.{Count.below_more}
use Rattle.std.specs.Prelude.{Option, Some, None, Result, Ok, Err}
use Rattle.base.specs.declared.refusal.Refusal.{Refusal}
use Rattle.base.specs.declared.writer.Writer.{Writer}
use Rattle.base.specs.{Code.Wrote, Code.check_of, Computed.passes, Computed.fails_if}
use Rattle.base.proofs.{PutLaws.wrote_none}
use Rattle.term.specs.{Term.Second, Term.absent, Term.anything, Term.key_for, Term.second, Term.unary, Term.Shape, Term.atomic, Term.compound, Number.shape_of}
use Rattle.submission.specs.declared.Term.{Term}
use Rattle.submission.specs.{Record.terms, Record.kind_at, Record.x_at, Record.y_at, Check.HasSecond, Check.Shaped, Code.IsTerm, Code.RecordFound, Code.TableRead}
use Rattle.submission.proofs.Theory.{ListedTerms.facts}
use Rattle.pool.specs.declared.numbers.Numbers.{Numbers}
use Rattle.pool.specs.Pool.{is_missing, pool_number, operands, renumbered}
use Rattle.pool.specs.Code.{terms_to, check_most, Noted}
use Rattle.pool.proofs.MostLaws.{within_most, room_left, full_refused}
use Rattle.pool.proofs.Theory.PoolNumbers.{InFirst, Missing, in_or_missing, rank_missing, rank_present, same_row, same_term}

-- ---- one term more
module _ {a b : List ℕ} {j : ℕ} {numbers : Numbers} {t u : Term} (z : TableRead a) (y : TableRead b) (l : j < terms b) (p : Noted a b j numbers) (q : IsTerm b j t) (k : u.kind ≡ t.kind)
    (e : u.x ∷ u.y ∷ [] ≡ operands (λ n. get_or numbers.of n 0) (shape_of t.kind) t.x t.y) where
  -- the operands, by the pool's numbers
  operands_right : (o : Shape) → Shaped b j o → operands (λ n. get_or numbers.of n 0) (some o) (x_at b j) (y_at b j) ≡ operands (pool_number a b) (some o) (x_at b j) (y_at b j)
  operands_right (atomic κ) f = refl
  operands_right (compound f) (m, g) = go (second f) g
    where
      go : (o : Second) → HasSecond b j o → get_or numbers.of (x_at b j) 0 ∷ cond (unary o) (y_at b j) (get_or numbers.of (y_at b j) 0) ∷ [] ≡ pool_number a b (x_at b j) ∷ cond (unary o) (y_at b j) (pool_number a b (y_at b j)) ∷ []
      go absent g = rw (p.is (x_at b j) m)
      go anything g = rw (p.is (x_at b j) m, p.is (y_at b j) g)
      go (key_for c) g = rw (p.is (x_at b j) m, p.is (y_at b j) g.0)

  -- u is the renumbered record
  pub renumbered_right : u.kind ∷ u.x ∷ u.y ∷ [] ≡ renumbered a b j
  renumbered_right =
      let g = (facts y).good j l in
      let h : operands (λ n. get_or numbers.of n 0) (shape_of t.kind) t.x t.y ≡ operands (pool_number a b) (shape_of (kind_at b j)) (x_at b j) (y_at b j) = rw (q.kind, q.x, q.y, g.has) (operands_right g.shape g.fits) in
      ap₂ (λ n r. n ∷ r) (k ∙ q.kind) (e ∙ h)

  module _ (o : Option ℕ) (r : RecordFound a (terms a) u o) where
    -- it is found where the first lists the term, and only there
    pub found_number : (n : ℕ) → o ≡ Some n → InFirst a b j × (pool_number a b j ≡ n)
    found_number n f =
        let (m, w) : (n < terms a) × IsTerm a n u = subst (RecordFound a (terms a) u) f r in
        let same = same_row (facts z) (facts y) n j m l (rw (← w.kind, ← w.x, ← w.y) renumbered_right) in
        ⊎_elim
        (λ (i : InFirst a b j). (i, i.is ∙ (facts z).same_number i.number n i.below m (sym i.same ∙ same)))
        (λ (i : Missing a b j). absurd (i.lacks n m same))
        (in_or_missing a b j)

    pub not_found : o ≡ None → Missing a b j
    not_found f = ⊎_elim (λ (i : InFirst a b j). absurd (none i)) (λ (i : Missing a b j). i) (in_or_missing a b j)
      where
        none : InFirst a b j → ⊥
        none i =
            let g : (n : ℕ) → n < terms a → IsTerm a n u → ⊥ = subst (RecordFound a (terms a) u) f r in
            let w = renumbered_right ∙ sym (same_term (facts z) (facts y) i.number j i.below l i.same) in
            g i.number i.below (record { kind = cc; x = cc; y = cc })

-- ---- the returns
module _ {a b : List ℕ} {j : ℕ} {numbers : Numbers} (y : TableRead b) (l : j < terms b) (p : Noted a b j numbers) where
  -- the number of term j is stored
  noted : {n k : ℕ} → k ≡ j → pool_number a b j ≡ n → (m : ℕ) → m < j + 1 → get_or (set numbers.of k n) m 0 ≡ pool_number a b m
  noted {n} {k} e f =
      below_more (λ m. get_or (set numbers.of k n) m 0 ≡ pool_number a b m) j
      (λ m c. get_or-set_other numbers.of k m n 0 (λ g. omega arith) ∙ p.is m c)
      (rw (← e, get_or-set_same numbers.of k n 0 (omega (arith, p.long, e, (facts y).terms_most))) (sym f ∙ ap (pool_number a b) (sym e)))

  -- the first lists it
  module _ (i : InFirst a b j) where
    same_count : terms_to a b (j + 1) ≡ terms_to a b j
    same_count = rw (add-one j) (ap (λ k. terms a + k) (rank_present a b j i.present))

    pub listed_answer : passes ≡ check_most 0 (terms_to a b (j + 1))
    listed_answer = within_most 0 (terms_to a b (j + 1)) (omega (arith, same_count, p.next, p.few))

    pub listed_page : {w : Writer} → Wrote w (cond (is_missing a b j) (renumbered a b j) []) w
    listed_page = rw (i.present, is_missing) wrote_none

    pub listed_numbers : {n k : ℕ} → k ≡ j → pool_number a b j ≡ n → Noted a b (j + 1) (record { of = set numbers.of k n; next = numbers.next })
    listed_numbers {n} {k} e f =
        record { within = omega arith; long = length-set numbers.of k n ∙ p.long; is = noted e f; next = p.next ∙ sym same_count; few = p.few }

  -- it is missing, and r is what giving it a number answered
  module _ (i : Missing a b j) where
    one_more : terms_to a b (j + 1) ≡ numbers.next + 1
    one_more = rw (add-one j) (ap (λ k. terms a + k) (rank_missing a b j i.absent) ∙ omega (arith, p.next))

    pub missing_page : {w v : Writer} {bytes : List ℕ} → bytes ≡ renumbered a b j → Wrote w bytes v → Wrote w (cond (is_missing a b j) (renumbered a b j) []) v
    missing_page f x = rw (i.absent, is_missing, ← f) x

    module _ {r : Result Unit Refusal} (h : check_of r ≡ fails_if (eqb numbers.next 250) 20 0) where
      pub missing_refused : {x : Refusal} → r ≡ Err x → check_of r ≡ check_most 0 (terms_to a b (j + 1))
      missing_refused e = full_refused 0 numbers.next h e (omega (arith, one_more))

      module _ {v : Unit} (e : r ≡ Ok v) where
        next_below : numbers.next < 250
        next_below = room_left 0 numbers.next h e p.few

        pub missing_answer : passes ≡ check_most 0 (terms_to a b (j + 1))
        missing_answer = within_most 0 (terms_to a b (j + 1)) (omega (arith, one_more, next_below))

        pub missing_numbers : {m : Numbers} → m.of ≡ set numbers.of j numbers.next → m.next ≡ numbers.next + 1 → Noted a b (j + 1) m
        missing_numbers f g = record {
          within = omega arith;
          long = ap length f ∙ length-set numbers.of j numbers.next ∙ p.long;
          is = λ k c. ap (λ (s : List ℕ). get_or s k 0) f ∙ noted refl (i.is ∙ sym p.next) k c;
          next = g ∙ sym one_more;
          few = omega (arith, next_below);
        }
