-- Chains of numbers in two arrays: how they grow by one number, and what a walk along one of them has seen.
use mathlib.Core.Path.{◌≡◌, refl, sym, ap, ◌∙◌, subst}
use mathlib.Core.Bool.{Bool, true, false}
use mathlib.Core.List.{List}
use mathlib.Core.Logic.{⊎_elim, by_cases}
use Prim.Native.Nat.{ℕ, ◌+◌, ◌<◌, ◌≤◌}
use native.Mathlib.Nat.{le_refl, eq-or-lt_of_le}
use native.Mathlib.Decide.{ℕ_discrete}
use native.Mathlib.Omega.{arith}
use lib.ListN.{length, get_or, set, replicate, length-set, length-replicate, get_or-replicate}
use lib.Seq.{get_or-set_same, get_or-set_other}
use borrow.Author.{Count.below_more, Tests.ne_eqb}
use Rattle.std.specs.Prelude.{Option as Maybe, Some, None}
use Rattle.base.specs.Code.{After, link_of, Latest, Chained, Chaining, FoundBy, FoundInBoth}
use Rattle.base.proofs.Order.{lt_or_ge}

-- ---- one number more
module _ {c : ℕ → ℕ} {i y : ℕ} where
  latest_here : c i ≡ y → Latest c (i + 1) y (Some i)
  latest_here e = record { is = λ j h. let z : i ≡ j = cc in (omega arith, rw (← z) e); last = λ k u v w. omega arith }

  latest_kept : {b : Maybe ℕ} → Latest c i y b → (c i ≡ y → ⊥) → Latest c (i + 1) y b
  latest_kept {b} p d =
      record {
        is = λ j h. let (l, e) = p.is j h in (omega arith, e);
        last = below_more (λ k. After b k → c k ≡ y → ⊥) i p.last (λ u. d);
      }

-- ---- links
link_here : (i : ℕ) → i < 255 → link_of i ≡ Some i
link_here i l = rw (ne_eqb i 255 (λ e. omega arith))

-- ---- arrays of one value
none_at : (k : ℕ) → k < 256 → link_of (get_or (replicate 256 255) k 255) ≡ None
none_at k l = ap link_of (get_or-replicate {A = ℕ} 256 k 255 255 l)

latest_none : {c : ℕ → ℕ} {y : ℕ} {b : Maybe ℕ} → b ≡ None → Latest c 0 y b
latest_none e = record { is = λ j h. absurd (let f : None ≡ Some j = sym e ∙ h in let z : ◌≡◌ {A = ℕ} 0 1 = cc in omega arith); last = λ k u. absurd (omega arith) }

pub chaining_none : {c : ℕ → ℕ} → Chaining c 0 (replicate 256 255) (replicate 256 255)
chaining_none =
    record {
      chained = record { long = length-replicate {A = ℕ} 256 255; is = λ k b. absurd (omega arith) };
      long = length-replicate {A = ℕ} 256 255;
      is = λ y l. latest_none (none_at y l);
    }

module _ {c : ℕ → ℕ} {before latest : List ℕ} {i : ℕ} (p : Chaining c i before latest) where
  -- it is in no chain
  pub chaining_apart : 256 ≤ c i → Chaining c (i + 1) before latest
  chaining_apart m =
      record {
        chained = record {
          long = p.chained.long;
          is = below_more (λ k. c k < 256 → Latest c k (c k) (link_of (get_or before k 255))) i p.chained.is (λ l. absurd (omega arith));
        };
        long = p.long;
        is = λ y l. latest_kept (p.is y l) (λ e. omega arith);
      }

  -- it is chained by v
  pub chaining_more : {w v : ℕ} → i < 255 → c i ≡ v → w ≡ i → v < 256 → Chaining c (i + 1) (set before w (get_or latest v 255)) (set latest v i)
  chaining_more {w} {v} l y g h =
      let b : w < length before = omega (arith, p.chained.long) in
      record {
        chained = record {
          long = length-set before w (get_or latest v 255) ∙ p.chained.long;
          is = below_more (λ k. c k < 256 → Latest c k (c k) (link_of (get_or (set before w (get_or latest v 255)) k 255))) i
              (λ k a. rw (get_or-set_other before w k (get_or latest v 255) 255 (λ x. let z : k ≡ i = x ∙ g in omega arith)) (p.chained.is k a))
              (λ _. rw (← g, get_or-set_same before w (get_or latest v 255) 255 b, g, y) (p.is v h));
        };
        long = length-set latest v i ∙ p.long;
        is = λ a m. by_cases (ℕ_discrete a v)
            (λ x. rw (x, get_or-set_same latest v i 255 (omega (arith, p.long))) (subst (Latest c (i + 1) v) (sym (link_here i l)) (latest_here y)))
            (λ x. rw (get_or-set_other latest v a i 255 x) (latest_kept (p.is a m) (λ z. x (sym z ∙ y))));
      }

-- ---- the walk along the chain of y, over the first i numbers: P holds of those from `past` on, and o is the latest before
pub record Walk (c : ℕ → ℕ) (P : ℕ → Type 0) (i y : ℕ) (o : Maybe ℕ) : Type 0 where
  pub byte : y < 256
  pub past : ℕ
  pub within : past ≤ i
  pub seen : (k : ℕ) → past ≤ k → k < i → c k ≡ y → P k
  pub next : Latest c past y o

pub walk_start : {c : ℕ → ℕ} {P : ℕ → Type 0} {i y : ℕ} {o : Maybe ℕ} → y < 256 → Latest c i y o → Walk c P i y o
walk_start {i = i} l p = record { byte = l; past = i; within = le_refl i; seen = λ k u v. absurd (omega arith); next = p }

-- a number above all those that the walk has still to see
abbrev pub bound_of : Maybe ℕ → ℕ
bound_of None = 0
bound_of (Some j) = j + 1

latest_bound : {c : ℕ → ℕ} {i y : ℕ} (b : Maybe ℕ) → Latest c i y b → bound_of b ≤ i
latest_bound None p = omega arith
latest_bound (Some j) p = let l = (p.is j refl).0 in omega arith

module _ {c : ℕ → ℕ} {P : ℕ → Type 0} {i y : ℕ} {o : Maybe ℕ} (p : Walk c P i y o) where
  -- a number that the walk has gone past
  passed_by : (k : ℕ) → k < i → After o k → c k ≡ y → P k
  passed_by k l g e = ⊎_elim (λ b. absurd (p.next.last k b g e)) (λ b. p.seen k b l e) (lt_or_ge k p.past)

  pub walk_end : o ≡ None → (k : ℕ) → k < i → c k ≡ y → P k
  walk_end e k l = passed_by k l (rw e tt)

  -- what holds of those seen may be weakened
  pub walk_weaker : {Q : ℕ → Type 0} → ((k : ℕ) → k < i → P k → Q k) → Walk c Q i y o
  walk_weaker f = record { byte = p.byte; past = p.past; within = p.within; seen = λ k u v e. f k v (p.seen k u v e); next = p.next }

  module _ {j : ℕ} (d : o ≡ Some j) where
    pub walk_below : j < i
    walk_below = let l = (p.next.is j d).0 in omega (arith, p.within)

    pub walk_chain : c j ≡ y
    walk_chain = (p.next.is j d).1

    pub walk_seen : (k : ℕ) → j < k → k < i → c k ≡ y → P k
    walk_seen k a l = passed_by k l (rw d a)

    module _ {n w : ℕ} {before : List ℕ} (q : Chained c n before) (m : i ≤ n) (g : w ≡ j) where
      lower : Latest c j y (link_of (get_or before w 255))
      lower = let b = walk_below in rw (g, ← walk_chain) (q.is j (omega arith) (rw walk_chain p.byte))

      pub walk_more : P j → Walk c P i y (link_of (get_or before w 255))
      walk_more f =
          let b = walk_below in
          record {
            byte = p.byte;
            past = j;
            within = omega arith;
            seen = λ k u v e. ⊎_elim (λ x. rw (← x) f) (λ x. walk_seen k x v e) (eq-or-lt_of_le u);
            next = lower;
          }

      -- the numbers fall
      pub walk_less : bound_of (link_of (get_or before w 255)) < bound_of o
      walk_less = let l = latest_bound _ lower in rw d (omega arith)

-- ---- the walk along the chain of y, for each function that the arrays have the chains of; Gave says what the test gave
pub record Searched (before latest : List ℕ) (y : ℕ) (Gave : ℕ → Bool → Type 0) (o : Maybe ℕ) : Type 0 where
  pub walk : (c : ℕ → ℕ) (i : ℕ) → Chaining c i before latest → Walk c (λ k. Gave k false) i y o

pub searched_start : {before latest : List ℕ} {y : ℕ} {Gave : ℕ → Bool → Type 0} {o : Maybe ℕ} → y < 256 → o ≡ link_of (get_or latest y 255) → Searched before latest y Gave o
searched_start l e = record { walk = λ c i h. walk_start l (rw e (h.is _ l)) }

module _ {before latest : List ℕ} {y : ℕ} {Gave : ℕ → Bool → Type 0} {o : Maybe ℕ} (p : Searched before latest y Gave o) where
  pub searched_end : o ≡ None → (c : ℕ → ℕ) (i : ℕ) → Chaining c i before latest → FoundBy c i y Gave None
  searched_end e c i h = record { is = λ j f. absurd (let z : ◌≡◌ {A = ℕ} 0 1 = cc in omega arith); last = λ k l u. walk_end (p.walk c i h) e k l }

  module _ {j : ℕ} (e : o ≡ Some j) where
    pub searched_hit : Gave j true → (c : ℕ → ℕ) (i : ℕ) → Chaining c i before latest → FoundBy c i y Gave (Some j)
    searched_hit f c i h =
        let w = p.walk c i h in
        record { is = λ k q. let z : j ≡ k = cc in rw (← z) (walk_below w e, walk_chain w e, f); last = λ k l u. walk_seen w e k u l }

    module _ {o' : Maybe ℕ} (g : o' ≡ link_of (get_or before j 255)) where
      pub searched_more : Gave j false → Searched before latest y Gave o'
      searched_more f = record { walk = λ c i h. rw g (walk_more (p.walk c i h) e h.chained (le_refl i) refl f) }

      pub searched_less : (c : ℕ → ℕ) × (i : ℕ) × Chaining c i before latest → bound_of o' < bound_of o
      searched_less (c, i, h) = rw g (walk_less (p.walk c i h) e h.chained (le_refl i) refl)

both_hit : {c d : ℕ → ℕ} {i y z j : ℕ} {Gave : ℕ → Bool → Type 0} → ((n : ℕ) → Some j ≡ Some n → (n < i) × Gave n true) → FoundInBoth c d i y z Gave (Some j)
both_hit f = record { is = f; none = λ e. absurd (let z : ◌≡◌ {A = ℕ} 0 1 = cc in omega arith) }

both_end : {c d : ℕ → ℕ} {i y z : ℕ} {Gave : ℕ → Bool → Type 0} → ((k : ℕ) → k < i → c k ≡ y → d k ≡ z → Gave k false) → FoundInBoth c d i y z Gave None
both_end f = record { is = λ j e. absurd (let z : ◌≡◌ {A = ℕ} 0 1 = cc in omega arith); none = λ _. f }

-- ---- two walks at once: what the one found, and what holds where one of them has come to its end
module _ {before latest before' latest' : List ℕ} {y z : ℕ} {Gave : ℕ → Bool → Type 0} {o o' : Maybe ℕ} (p : Searched before latest y Gave o) (q : Searched before' latest' z Gave o') where
  pub here_hit : {j : ℕ} → o ≡ Some j → Gave j true → (c d : ℕ → ℕ) (i : ℕ) → Chaining c i before latest → Chaining d i before' latest' → FoundInBoth c d i y z Gave (Some j)
  here_hit {j} e f c d i h k = both_hit (λ n g. let (l, _, t) = (searched_hit p e f c i h).is n g in (l, t))

  pub there_hit : {j : ℕ} → o' ≡ Some j → Gave j true → (c d : ℕ → ℕ) (i : ℕ) → Chaining c i before latest → Chaining d i before' latest' → FoundInBoth c d i y z Gave (Some j)
  there_hit {j} e f c d i h k = both_hit (λ n g. let (l, _, t) = (searched_hit q e f d i k).is n g in (l, t))

  pub here_end : o ≡ None → (c d : ℕ → ℕ) (i : ℕ) → Chaining c i before latest → Chaining d i before' latest' → FoundInBoth c d i y z Gave None
  here_end e c d i h k = both_end (λ n l u v. (searched_end p e c i h).last n l tt u)

  pub there_end : o' ≡ None → (c d : ℕ → ℕ) (i : ℕ) → Chaining c i before latest → Chaining d i before' latest' → FoundInBoth c d i y z Gave None
  there_end e c d i h k = both_end (λ n l u v. (searched_end q e d i k).last n l tt v)
