-- Marks, and the order in which terms were marked: what pushing a term does to them. The returns of `push` and `push_with`.
use mathlib.Core.Path.{◌≡◌, refl, sym, ap, ◌∙◌}
use mathlib.Core.Logic.{◌⊎◌, inl, inr, ⊎_elim}
use mathlib.Core.Bool.{Bool, true, false, cond}
use mathlib.Core.List.{List, [], ◌∷◌}
use Prim.Native.Nat.{ℕ, zero, suc, ◌+◌, ◌≤◌, ◌<◌}
use native.Mathlib.Omega.{arith}
use lib.ListN.{length, get_or, set, length-set}
use lib.Seq.{get_or-set_same, get_or-set_other}
use borrow.Author.Count.{below_more}
use Rattle.base.proofs.Stores.{each_set}
use Rattle.term.specs.Step.{Deducible}
use Rattle.submission.specs.Code.{TableRead}
use Rattle.submission.specs.Record.{terms, term}
use Rattle.base.proofs.Order.{lt_or_ge}
use Rattle.submission.proofs.Theory.ListedTerms.{facts}
use Rattle.std.specs.Prelude.{Option as Maybe, Some, None, is_some}
use Rattle.deduction.specs.declared.worklist.Origin.{Origin}
use Rattle.deduction.specs.declared.worklist.Origin.TheVariants.{Start, Record}
use Rattle.deduction.specs.Computed.{Marked}
use Rattle.deduction.specs.Code.{Marks, mark_of, reached_of, Reached, unmarked, Room}
use Rattle.deduction.specs.Saturation.{start_mark, ComesFrom, How, Pushed, Among, Queue, SoundMarks, Grown}
use Rattle.deduction.proofs.Theory.Exactness.{deducible_trans}
use Rattle.deduction.proofs.MarkArrays.{says_reached, not_reached, not_started}
use Rattle.deduction.proofs.Clauses.{comes_by, comes_deducible}

-- ---- fewer terms are unmarked after each mark
unmarked_less : (l : Marks) (t : ℕ) (w : Origin) → t < length l → is_some (mark_of l t) ≡ false → unmarked (set l t (Some w)) < unmarked l
unfolding unmarked
unmarked_less [] t w b d = absurd (omega arith)
unmarked_less (x ∷ l) zero w b d = rw d (omega arith)
unmarked_less (x ∷ l) (suc t) w b d = go (is_some x) (unmarked_less l t w (omega arith) d)
  where
    go : (a : Bool) → unmarked (set l t (Some w)) < unmarked l →
        cond a (unmarked (set l t (Some w))) (suc (unmarked (set l t (Some w)))) < cond a (unmarked l) (suc (unmarked l))
    go true h = h
    go false h = omega arith

pub unmarked_most : (l : Marks) → unmarked l ≤ length l
unfolding unmarked
unmarked_most [] = omega arith
unmarked_most (x ∷ l) = go (is_some x) (unmarked_most l)
  where
    go : (a : Bool) → unmarked l ≤ length l → cond a (unmarked l) (suc (unmarked l)) ≤ suc (length l)
    go true h = omega arith
    go false h = omega arith

-- ---- the returns of `new`, `push` and `push_with`
pub room_none : {m : Marks} {o : List ℕ} {end : ℕ} → length m ≡ 256 → length o ≡ 256 → end ≡ 0 → Room m o end
room_none {m} l f e = record { long = l; order_long = f; enough = let b = unmarked_most m in omega arith }

module _ {m : Marks} {o : List ℕ} {end i : ℕ} where
  pub push_room : Room m o end → i < 256 → is_some (mark_of m i) ≡ false → end < 256
  push_room r b d = let h = unmarked_less m i Start (omega (arith, r.long)) d in omega (arith, r.enough)

  -- there is room for every term still
  pub room_more : (t : ℕ) (w : Origin) → Room m o end → i < 256 → is_some (mark_of m i) ≡ false → Room (set m i (Some w)) (set o end t) (end + 1)
  room_more t w z b d =
      let h = unmarked_less m i w (omega (arith, z.long)) d in
      record { long = length-set m i (Some w) ∙ z.long; order_long = length-set o end t ∙ z.order_long; enough = omega (arith, z.enough) }

-- ---- marks deducible from marks
pub sound_none : {s : List ℕ} {l : Marks} → length l ≡ 256 → SoundMarks s l l
sound_none {s} {l} e = record { long = e; holds = λ n b m. m; reached = λ n b m. ([], (n, b, ((says_reached l n).1 m, refl))) }

pub sound_trans : {s : List ℕ} {start l k : Marks} → SoundMarks s start l → SoundMarks s l k → SoundMarks s start k
sound_trans {s} {start} {l} p q = record {
  long = q.long;
  holds = λ n b m. q.holds n b (p.holds n b m);
  reached = λ n b m. deducible_trans (λ u (k, c, (e, f)). rw f (p.reached k c ((says_reached l k).0 e))) (q.reached n b m);
}

-- ---- growing
pub grown_none : {s : List ℕ} {m : Marks} {o : List ℕ} {end : ℕ} → Queue s m o end → Grown s m o end m o end
grown_none q = record {
  queue = q;
  sound = sound_none q.room.long;
  later = omega arith;
  same = λ k b. refl;
  kept = λ n a. refl;
  fewer = λ n e. e;
}

pub grown_trans : {s : List ℕ} {m m₁ m₂ : Marks} {o o₁ o₂ : List ℕ} {e e₁ e₂ : ℕ} → Grown s m o e m₁ o₁ e₁ → Grown s m₁ o₁ e₁ m₂ o₂ e₂ → Grown s m o e m₂ o₂ e₂
grown_trans p q = record {
  queue = q.queue;
  sound = sound_trans p.sound q.sound;
  later = omega (arith, p.later, q.later);
  same = λ k b. q.same k (omega (arith, p.later)) ∙ p.same k b;
  kept = λ n a. q.kept n (rw (p.kept n a) a) ∙ p.kept n a;
  fewer = λ n e. p.fewer n (q.fewer n e);
}

-- the first terms of the order stay
pub among_back : {s : List ℕ} {m m' : Marks} {o o' : List ℕ} {e e' h n : ℕ} → Grown s m o e m' o' e' → h ≤ e → Among o' h n → Among o h n
among_back g b (k, c, f) = (k, c, sym (g.same k (omega arith)) ∙ f)

pub among_marked : {s : List ℕ} {m : Marks} {o : List ℕ} {e h n : ℕ} → Queue s m o e → h ≤ e → Among o h n → (n < terms s) × Reached m n
among_marked q b (k, c, f) = rw (← f) (q.terms k (omega arith), q.marked k (omega arith))

how_by : {s : List ℕ} {Had Had' : ℕ → Type 0} {w : Maybe Origin} {n : ℕ} → TableRead s → ((k : ℕ) → Had k → Had' k) → How s Had w n → How s Had' w n
how_by v f (inl e) = inl e
how_by v f (inr (u, l, e, x)) = inr (u, l, e, comes_by v l (λ k _. f k) x)

-- one term more
module _ {s : List ℕ} {m m' : Marks} {o o' : List ℕ} {end r t : ℕ} (w : Origin) (v : TableRead s) (q : Queue s m o end) (l : t < terms s) (p : Pushed t w m o end m' o' r) where
  short : t < length m
  short = let b = (facts v).terms_most in omega (arith, q.room.long)

  pub pushed_here : Reached m' t
  pushed_here = ⊎_elim (λ (a, b, _, _). rw b a) (λ (a, b, _, _). rw (b, get_or-set_same m t (Some w) None short)) p

  -- with this mark, also where it had it before
  pub pushed_as : (Reached m t → mark_of m t ≡ Some w) → mark_of m' t ≡ Some w
  pushed_as g = ⊎_elim (λ (a, b, _, _). rw b (g a)) (λ (a, b, _, _). rw b (get_or-set_same m t (Some w) None short)) p

  module _ (d : is_some (mark_of m t) ≡ false) where
    inside : end < length o
    inside = let h = unmarked_less m t w short d in omega (arith, q.room.enough, q.room.order_long)

    -- the terms before are others, and keep their places and marks
    other : (k : ℕ) → k < end → get_or o k 0 ≡ t → ⊥
    other k b e = not_reached _ (rw e d) (q.marked k b)

    place_kept : (k : ℕ) → k < end → get_or (set o end t) k 0 ≡ get_or o k 0
    place_kept k b = get_or-set_other o end k t 0 (λ x. omega arith)

    mark_kept : (k : ℕ) → k < end → mark_of (set m t (Some w)) (get_or o k 0) ≡ mark_of m (get_or o k 0)
    mark_kept k b = get_or-set_other m t (get_or o k 0) (Some w) None (other k b)

    placed : get_or (set o end t) end 0 ≡ t
    placed = get_or-set_same o end t 0 inside

    among_kept : (h : ℕ) → h ≤ end → (n : ℕ) → Among o h n → Among (set o end t) h n
    among_kept h b n (k, c, e) = (k, c, place_kept k (omega arith) ∙ e)

    queue_more : How s (Among o end) (Some w) t → Queue s (set m t (Some w)) (set o end t) (end + 1)
    queue_more x = record {
      room = room_more t w q.room (omega (arith, q.room.long, short)) d;
      listed = λ n b. each_set None (λ k y. k ≡ n → is_some y ≡ true → Among (set o end t) (end + 1) n) m t (Some w) short
          (λ e _. (end, omega arith, placed ∙ e))
          (λ k g e y. let (i, c, z) = q.listed n b (rw e at y) in (i, omega arith, place_kept i c ∙ z)) n refl;
      terms = below_more (λ k. get_or (set o end t) k 0 < terms s) end (λ k b. rw (place_kept k b) (q.terms k b)) (rw placed l);
      marked = below_more (λ k. Reached (set m t (Some w)) (get_or (set o end t) k 0)) end
          (λ k b. rw (place_kept k b, mark_kept k b) (q.marked k b)) (rw (placed, get_or-set_same m t (Some w) None short));
      once = λ j k b c e. ⊎_elim
          (λ x. q.once j k b x (sym (place_kept j (omega arith)) ∙ e ∙ place_kept k x))
          (λ x. let i : k ≡ end = omega arith in other j (omega arith) (sym (place_kept j (omega arith)) ∙ e ∙ ap (λ z. get_or (set o end t) z 0) i ∙ placed)) (lt_or_ge k end);
      how = below_more (λ k. How s (Among (set o end t) k) (mark_of (set m t (Some w)) (get_or (set o end t) k 0)) (get_or (set o end t) k 0)) end
          (λ k b. rw (place_kept k b, mark_kept k b) (how_by v (among_kept k (omega arith)) (q.how k b)))
          (rw (placed, get_or-set_same m t (Some w) None short) (how_by v (among_kept end (omega arith)) x));
    }

    sound_more : Deducible (Marked s (reached_of m)) (term s t) → SoundMarks s m (set m t (Some w))
    sound_more x = record {
      long = length-set m t (Some w) ∙ q.room.long;
      holds = λ n b a. each_set None (λ k y. k ≡ n → is_some y ≡ true) m t (Some w) short (λ _. refl) (λ k g e. rw e a) n refl;
      reached = λ n b. each_set None (λ k y. k ≡ n → is_some y ≡ true → Deducible (Marked s (reached_of m)) (term s n)) m t (Some w) short
          (λ e _. rw (← e) x) (λ k g e y. ([], (n, b, ((says_reached m n).1 (rw e at y), refl)))) n refl;
    }

  pub pushed_queue : How s (Among o end) (Some w) t → Queue s m' o' r
  pushed_queue x = ⊎_elim (λ (_, b, c, e). rw (b, c, e) q) (λ (d, b, c, e). rw (b, c, e) (queue_more d x)) p

  -- what was marked stays marked, and nothing else is marked now
  pub pushed_keeps : (n : ℕ) → Reached m n → mark_of m' n ≡ mark_of m n
  pushed_keeps n a = ⊎_elim (λ (_, b, _, _). rw b) (λ (d, b, _, _). rw b (get_or-set_other m t n (Some w) None (λ e. not_reached _ (rw e d) a))) p

  pub pushed_only : (n : ℕ) → Reached m' n → Reached m n ⊎ (n ≡ t)
  pushed_only n a =
      ⊎_elim (λ (_, b, _, _). inl (rw b at a))
      (λ (_, b, _, _). each_set None (λ k y. k ≡ n → is_some y ≡ true → Reached m n ⊎ (n ≡ t)) m t (Some w) short (λ e _. inr (sym e)) (λ k g e y. inl (rw e at y)) n refl (rw b at a)) p

  -- it comes from a record
  pub pushed_grown : (u : ℕ) → u < terms s → w ≡ Record u → ComesFrom s (Reached m) u t → Grown s m o end m' o' r
  pushed_grown u lu e x =
      ⊎_elim (λ (a, b, c, i). rw (b, c, i) (grown_none q))
      (λ (d, b, c, i). rw (b, c, i) (record {
        queue = queue_more d (inr (u, lu, ap Some e, comes_by v lu q.listed x));
        sound = sound_more d (comes_deducible v lu m x);
        later = omega arith;
        same = place_kept d;
        kept = λ n a. get_or-set_other m t n (Some w) None (λ z. not_reached _ (rw z d) a);
        fewer = λ n. each_set None (λ k y. k ≡ n → y ≡ start_mark → mark_of m n ≡ start_mark) m t (Some w) short
            (λ _ y. not_started (ap Some (sym e) ∙ y)) (λ k g z y. rw z at y) n refl;
      })) p
