-- Clauses that fire: the returns and loops of `fire_one`, `fire`, `take_apart`, `open_all` and `compose_all`.
use mathlib.Core.Path.{◌≡◌, refl, sym, ap, ◌∙◌, subst}
use mathlib.Core.Logic.{◌⊎◌, inl, inr, ⊎_elim, by_cases}
use mathlib.Core.List.{List}
use Prim.Native.Nat.{ℕ, ◌+◌, ◌-◌, ◌≤◌, ◌<◌}
use native.Mathlib.Decide.{ℕ_discrete}
use native.Mathlib.Omega.{arith}
use lib.ListN.{get_or}
use Rattle.base.specs.Code.{link_of, Chaining}
use Rattle.base.proofs.Chains.{Walk, bound_of, walk_start, walk_end, walk_weaker, walk_below, walk_chain, walk_more, walk_less}
use Rattle.submission.specs.Code.{TableRead}
use Rattle.submission.specs.Record.{terms}
use Rattle.submission.proofs.Theory.ListedTerms.{facts}
use Rattle.deduction.specs.declared.opening.Opening.{Opening}
use Rattle.deduction.specs.declared.opening.Opening.TheVariants.{Freely, With}
use Rattle.deduction.specs.declared.opening.Role.{Role}
use Rattle.deduction.specs.declared.opening.Role.TheVariants.{Key, First, Second}
use Rattle.deduction.specs.declared.opening.Clause.{Clause}
use Rattle.std.specs.Prelude.{Option as Maybe, Some, None}
use Rattle.deduction.specs.declared.worklist.Origin.TheVariants.{Record}
use Rattle.deduction.specs.Code.{Marks, Reached, opening_of, from, clause_of, awaited, linked}
use Rattle.deduction.specs.Saturation.{ComesFrom, from_pair, from_key, Pushed, PushedWith, Among, Queue, Grown, Ready, FiredOne, Fired, TakenApart, OpenTo, Composed, ComposedTo}
use Rattle.deduction.proofs.MarkArrays.{not_reached}
use Rattle.deduction.proofs.Clauses.{key_clause_lem, first_clause_lem, second_clause_lem, same_clause, no_clause, clause_listed, clause_comes}
use Rattle.deduction.proofs.RecordOpening.{freely_listed, with_listed}
use Rattle.deduction.proofs.MarkOrder.{grown_none, grown_trans, among_back, among_marked, pushed_here, pushed_grown}

-- ---- one clause
module _ {s : List ℕ} {m : Marks} {o : List ℕ} {m' : Marks} {o' : List ℕ} {end r y : ℕ} (x t : ℕ) (v : TableRead s) (q : Queue s m o end) (l : y < terms s) (p : PushedWith y (Record t) x m o end m' o' r) where
  -- a term that is pushed where another is marked
  pub with_grown : t < terms s → (Reached m x → ComesFrom s (Reached m) t y) → Grown s m o end m' o' r
  with_grown k d =
      ⊎_elim (λ (e, a). pushed_grown _ v q l a t k refl (d e)) (λ (_, a, b, c). rw (a, b, c) (grown_none q)) p

  pub with_here : Reached m x → Reached m' y
  with_here e = ⊎_elim (λ (_, a). pushed_here _ v q l a) (λ (d, _, _, _). not_reached _ d e) p

module _ {s : List ℕ} {m : Marks} {o : List ℕ} {role : Role} {end t : ℕ} {clause : Maybe Clause} (c : clause ≡ clause_of s role t) (q : Queue s m o end) where
  pub fired_absent : clause ≡ None → FiredOne s role t m o end m o end
  fired_absent e = record { grown = grown_none q; gave = λ u x y f. no_clause (sym e ∙ c ∙ f) }

  pub fired_from : {m' : Marks} {o' : List ℕ} {k : Clause} {r : ℕ} → TableRead s → t < terms s → Ready s role m t → clause ≡ Some k →
      PushedWith k.result (Record t) k.other m o end m' o' r → FiredOne s role t m o end m' o' r
  fired_from {k = k} v l d e p =
      let f : clause_of s role t ≡ from k.term k.other k.result = sym c ∙ e in
      let (_, _, b) = clause_listed v l role f in
      record {
        grown = with_grown k.other t v q b p l (clause_comes role f (d.is k.term k.other k.result f));
        gave = λ u' x' y' f'. let (_, ex, ey) = same_clause (sym f ∙ f') in rw (← ex, ← ey) (with_here k.other t v q b p);
      }

-- ---- all clauses that wait for u
pub record Firing (s : List ℕ) (role : Role) (u : ℕ) (m₀ : Marks) (o₀ : List ℕ) (end₀ : ℕ) (m : Marks) (o : List ℕ) (end : ℕ) (n : Maybe ℕ) : Type 0 where
  pub grown : Grown s m₀ o₀ end₀ m o end
  pub walk : Walk (linked s role) (λ t. (x y : ℕ) → clause_of s role t ≡ from u x y → Reached m₀ x → Reached m y) (terms s) u n

pub firing_start : {s : List ℕ} {m : Marks} {o : List ℕ} {before latest : List ℕ} {role : Role} {end u : ℕ} {n : Maybe ℕ} → TableRead s → Chaining (linked s role) (terms s) before latest →
    Queue s m o end → u < terms s → n ≡ link_of (get_or latest u 255) → Firing s role u m o end m o end n
firing_start {u = u} v c q l e =
    let b : u < 256 = omega (arith, (facts v).terms_most) in
    record { grown = grown_none q; walk = walk_start b (rw e (c.is u b)) }

module _ {s : List ℕ} {m₀ : Marks} {o₀ : List ℕ} {m : Marks} {o : List ℕ} {role : Role} {u end₀ end : ℕ} {n : Maybe ℕ} (p : Firing s role u m₀ o₀ end₀ m o end n) where
  pub firing_end : n ≡ None → Fired s role u m₀ o₀ end₀ m o end
  unfolding linked
  firing_end e = record { grown = p.grown; gave = λ t x y l f. walk_end p.walk e t l (ap awaited f) x y f }

  module _ {j : ℕ} (e : n ≡ Some j) where
    pub firing_below : j < terms s
    firing_below = walk_below p.walk e

    pub firing_ready : u < terms s → Reached m₀ u → Ready s role m j
    unfolding linked
    firing_ready l a = record { is = λ u' x y f. let g : u' ≡ u = ap awaited (sym f) ∙ walk_chain p.walk e in rw g (p.grown.sound.holds u l a) }

    module _ {before latest : List ℕ} {n' : Maybe ℕ} (v : TableRead s) (c : Chaining (linked s role) (terms s) before latest) (g : n' ≡ link_of (get_or before j 255)) where
      pub firing_more : {m' : Marks} {o' : List ℕ} {end' : ℕ} → FiredOne s role j m o end m' o' end' → Firing s role u m₀ o₀ end₀ m' o' end' n'
      firing_more f =
          record {
            grown = grown_trans p.grown f.grown;
            walk = rw g (walk_more
                (walk_weaker p.walk (λ k l h x y h' a. f.grown.sound.holds y (clause_listed v l role h').2 (h x y h' a)))
                e c.chained (omega arith) refl
                (λ x y h a. f.gave u x y h (p.grown.sound.holds x (clause_listed v firing_below role h).1 a)));
          }

      pub firing_less : bound_of n' < bound_of n
      firing_less = rw g (walk_less p.walk e c.chained (omega arith) refl)

-- ---- what a marked record gives
module _ {s : List ℕ} {m : Marks} {o : List ℕ} {end u : ℕ} {a : Maybe Opening} (v : TableRead s) (l : u < terms s) (c : a ≡ opening_of s u) (q : Queue s m o end) (e : Reached m u) where
  pub taken_none : a ≡ None → TakenApart s u m o end m o end
  taken_none f = record {
    grown = grown_none q;
    freely = λ x y g. absurd (let z : None ≡ Some (Freely x y) = sym f ∙ c ∙ g in let w : ◌≡◌ {A = ℕ} 0 1 = cc in omega arith);
    opened = λ b k g. absurd (let z : None ≡ Some (With b k) = sym f ∙ c ∙ g in let w : ◌≡◌ {A = ℕ} 0 1 = cc in omega arith);
  }

  pub taken_with : {b : Opening} {body key r : ℕ} {m' : Marks} {o' : List ℕ} → a ≡ Some b → b ≡ With body key → PushedWith body (Record u) key m o end m' o' r → TakenApart s u m o end m' o' r
  taken_with {body = body} {key} d f p =
      let g : opening_of s u ≡ Some (With body key) = sym c ∙ d ∙ ap Some f in
      let (b, k) = with_listed v l g in
      record {
        grown = with_grown key u v q b p l (λ h. from_key key e g h);
        freely = λ x y h. absurd (let z : Some (With body key) ≡ Some (Freely x y) = sym g ∙ h in let w : ◌≡◌ {A = ℕ} 0 1 = cc in omega arith);
        opened = λ b' k' h.
            let z : Some (With body key) ≡ Some (With b' k') = sym g ∙ h in
            let eb : body ≡ b' = cc in
            let ek : key ≡ k' = cc in
            rw (← eb, ← ek) (with_here key u v q b p);
      }

  pub taken_freely : {b : Opening} {x y e₁ r : ℕ} {m₁ : Marks} {o₁ : List ℕ} {m' : Marks} {o' : List ℕ} → a ≡ Some b → b ≡ Freely x y → Pushed x (Record u) m o end m₁ o₁ e₁ → Pushed y (Record u) m₁ o₁ e₁ m' o' r → TakenApart s u m o end m' o' r
  taken_freely {x = x} {y} {m₁ = m₁} d f p₁ p₂ =
      let g : opening_of s u ≡ Some (Freely x y) = sym c ∙ d ∙ ap Some f in
      let (bx, by) = freely_listed v l g in
      let g₁ = pushed_grown _ v q bx p₁ u l refl (from_pair x y e g (inl refl)) in
      let g₂ = pushed_grown _ v g₁.queue by p₂ u l refl (from_pair x y (g₁.sound.holds u l e) g (inr refl)) in
      record {
        grown = grown_trans g₁ g₂;
        freely = λ x' y' h.
            let z : Some (Freely x y) ≡ Some (Freely x' y') = sym g ∙ h in
            let ex : x ≡ x' = cc in
            let ey : y ≡ y' = cc in
            rw (← ex, ← ey) (g₂.sound.holds x bx (pushed_here _ v q bx p₁), pushed_here _ v g₁.queue by p₂);
        opened = λ b k h. absurd (let z : Some (Freely x y) ≡ Some (With b k) = sym g ∙ h in let w : ◌≡◌ {A = ℕ} 0 1 = cc in omega arith);
      }

-- ---- one term more is treated
among_more : (o : List ℕ) (h n : ℕ) → Among o (h + 1) n → Among o h n ⊎ (get_or o h 0 ≡ n)
among_more o h n (k, b, f) = by_cases (ℕ_discrete k h) (λ e. inr (rw e at f)) (λ d. inl (k, omega arith, f))

module _ {s : List ℕ} {m : Marks} {o : List ℕ} {m' : Marks} {o' : List ℕ} {e e' h : ℕ} (v : TableRead s) (q : Queue s m o e) (g : Grown s m o e m' o' e') (b : h ≤ e) where
  -- what holds of the first h terms stays
  pub open_kept : OpenTo s m o h → OpenTo s m' o' h
  open_kept p = record {
    freely = λ t x y i f.
        let j = among_back g b i in
        let (bx, by) = freely_listed v (among_marked q b j).0 f in
        let (mx, my) = p.freely t x y j f in
        (g.sound.holds x bx mx, g.sound.holds y by my);
    opened = λ t body key i k f.
        let j = among_back g b i in
        g.sound.holds body (with_listed v (among_marked q b j).0 f).0 (p.opened t body key j (among_back g b k) f);
  }

  pub composed_kept : ComposedTo s m o h → ComposedTo s m' o' h
  composed_kept p = record { is = λ t x y l f i k. g.sound.holds t l (p.is t x y l f (among_back g b i) (among_back g b k)) }

-- ---- the loops of `open_all` and `compose_all`: more terms are marked, and the first h of the order are treated
pub record Treated (s : List ℕ) (m₀ : Marks) (o₀ : List ℕ) (e₀ : ℕ) (m : Marks) (o : List ℕ) (e h : ℕ) : Type 0 where
  pub grown : Grown s m₀ o₀ e₀ m o e
  pub within : h ≤ e

treated_more : {s : List ℕ} {m₀ : Marks} {o₀ : List ℕ} {m : Marks} {o : List ℕ} {m₁ : Marks} {o₁ : List ℕ} {e₀ e e₁ h : ℕ} → Treated s m₀ o₀ e₀ m o e h → h < e → Grown s m o e m₁ o₁ e₁ → Treated s m₀ o₀ e₀ m₁ o₁ e₁ (h + 1)
treated_more p b g = record { grown = grown_trans p.grown g; within = omega (arith, g.later) }

-- the next term
module _ {s : List ℕ} {m₀ : Marks} {o₀ : List ℕ} {m : Marks} {o : List ℕ} {e₀ e h : ℕ} (p : Treated s m₀ o₀ e₀ m o e h) (b : h < e) where
  pub next_inside : h < 256
  next_inside = omega (arith, p.grown.queue.room.enough)

  pub next_term : get_or o h 0 < terms s
  next_term = p.grown.queue.terms h b

  pub next_marked : Reached m (get_or o h 0)
  next_marked = p.grown.queue.marked h b

  pub next_less : 256 - (h + 1) < 256 - h
  next_less = let c = next_inside in omega arith

-- ---- the loop of `open_all`
pub record OpenLoop (s : List ℕ) (m₀ : Marks) (o₀ : List ℕ) (e₀ : ℕ) (m : Marks) (o : List ℕ) (e h : ℕ) : Type 0 where
  pub treated : Treated s m₀ o₀ e₀ m o e h
  pub apart : OpenTo s m o h

pub open_start : {s : List ℕ} {m : Marks} {o : List ℕ} {e h : ℕ} → Queue s m o e → h ≤ e → OpenTo s m o h → OpenLoop s m o e m o e h
open_start q b p = record { treated = record { grown = grown_none q; within = b }; apart = p }

module _ {s : List ℕ} {m₀ : Marks} {o₀ : List ℕ} {m : Marks} {o : List ℕ} {e₀ e h : ℕ} (p : OpenLoop s m₀ o₀ e₀ m o e h) where
  pub open_end : e ≤ h → OpenTo s m o e
  open_end b = let i : h ≡ e = omega (arith, p.treated.within) in subst (OpenTo s m o) i p.apart

  module _ (b : h < e) where
    pub open_still : {m₁ : Marks} {o₁ : List ℕ} {e₁ : ℕ} → TakenApart s (get_or o h 0) m o e m₁ o₁ e₁ → Reached m₁ (get_or o h 0)
    open_still a = a.grown.sound.holds _ (next_term p.treated b) (next_marked p.treated b)

    pub open_more : {m₁ : Marks} {o₁ : List ℕ} {m₂ : Marks} {o₂ : List ℕ} {e₁ e₂ : ℕ} → TableRead s → TakenApart s (get_or o h 0) m o e m₁ o₁ e₁ →
        Fired s Key (get_or o h 0) m₁ o₁ e₁ m₂ o₂ e₂ → OpenLoop s m₀ o₀ e₀ m₂ o₂ e₂ (h + 1)
    open_more {m₁} {o₁} {m₂} {o₂} v a f =
        let u = get_or o h 0 in
        let q = p.treated.grown.queue in
        let g = grown_trans a.grown f.grown in
        let c : h ≤ e = omega arith in
        let kept = open_kept v q g c p.apart in
        let marked : (n : ℕ) → Among o₂ (h + 1) n → (n < terms s) × (Reached m n) = λ n i. among_marked q (omega arith) (among_back g (omega arith) i) in
        record {
          treated = treated_more p.treated b g;
          apart = record {
            freely = λ t x y i j. ⊎_elim (λ k. kept.freely t x y k j)
                (λ k.
                let ku : u ≡ t = sym (g.same h b) ∙ k in
                let j' : opening_of s u ≡ Some (Freely x y) = rw ku j in
                let (bx, by) = freely_listed v (next_term p.treated b) j' in
                let (mx, my) = a.freely x y j' in
                (f.grown.sound.holds x bx mx, f.grown.sound.holds y by my)) (among_more o₂ h t i);
            opened = λ t body key i i' j. ⊎_elim
                (λ k. ⊎_elim (λ k'. kept.opened t body key k k' j)
                (λ k'.
                let ku : u ≡ key = sym (g.same h b) ∙ k' in
                let (l, w) = marked t i in
                f.gave t t body l (rw ku (key_clause_lem j)) (a.grown.sound.holds t l w)) (among_more o₂ h key i'))
                (λ k.
                let ku : u ≡ t = sym (g.same h b) ∙ k in
                let j' : opening_of s u ≡ Some (With body key) = rw ku j in
                f.grown.sound.holds body (with_listed v (next_term p.treated b) j').0 (a.opened body key j' (marked key i').1)) (among_more o₂ h t i);
          };
        }

-- ---- what is built of one term
module _ {s : List ℕ} {m : Marks} {o : List ℕ} {m₁ : Marks} {o₁ : List ℕ} {e e₁ u : ℕ} (v : TableRead s) (f : Fired s First u m o e m₁ o₁ e₁) where
  pub first_still : u < terms s → Reached m u → Reached m₁ u
  first_still l a = f.grown.sound.holds u l a

  module _ {m₂ : Marks} {o₂ : List ℕ} {e₂ : ℕ} (f' : Fired s Second u m₁ o₁ e₁ m₂ o₂ e₂) where
    pub both_later : e ≤ e₂
    both_later = omega (arith, f.grown.later, f'.grown.later)

    pub both_open : Queue s m o e → OpenTo s m o e → OpenTo s m₂ o₂ e
    both_open q p = open_kept v q (grown_trans f.grown f'.grown) (omega arith) p

    pub composed : {m₃ : Marks} {o₃ : List ℕ} {e₃ : ℕ} → Grown s m₂ o₂ e₂ m₃ o₃ e₃ → OpenTo s m₃ o₃ e₃ → Composed s u m o e m₃ o₃ e₃
    composed g p = record {
      grown = grown_trans (grown_trans f.grown f'.grown) g;
      apart = p;
      first = λ t y l j a. g.sound.holds t l (f'.grown.sound.holds t l (f.gave t y t l (first_clause_lem j) a));
      second = λ t x l j a.
          let b = (clause_listed v l Second (second_clause_lem j)).1 in
          g.sound.holds t l (f'.gave t x t l (second_clause_lem j) (f.grown.sound.holds x b a));
    }

-- ---- the loop of `compose_all`
pub record ComposeLoop (s : List ℕ) (m₀ : Marks) (o₀ : List ℕ) (e₀ : ℕ) (m : Marks) (o : List ℕ) (e h : ℕ) : Type 0 where
  pub treated : Treated s m₀ o₀ e₀ m o e h
  pub apart : OpenTo s m o e
  pub composed_to : ComposedTo s m o h

pub compose_start : {s : List ℕ} {m : Marks} {o : List ℕ} {e : ℕ} → Queue s m o e → OpenTo s m o e → ComposeLoop s m o e m o e 0
compose_start q p = record {
  treated = record { grown = grown_none q; within = omega arith };
  apart = p;
  composed_to = record { is = λ t x y l f (k, b, _). absurd (omega arith) };
}

module _ {s : List ℕ} {m₀ : Marks} {o₀ : List ℕ} {m : Marks} {o : List ℕ} {e₀ e h : ℕ} (p : ComposeLoop s m₀ o₀ e₀ m o e h) where
  pub compose_end : e ≤ h → ComposedTo s m o e
  compose_end b = let i : h ≡ e = omega (arith, p.treated.within) in subst (ComposedTo s m o) i p.composed_to

  pub compose_more : {m₁ : Marks} {o₁ : List ℕ} {e₁ : ℕ} → h < e → TableRead s → Composed s (get_or o h 0) m o e m₁ o₁ e₁ → ComposeLoop s m₀ o₀ e₀ m₁ o₁ e₁ (h + 1)
  compose_more {m₁} {o₁} b v c =
      let u = get_or o h 0 in
      let q = p.treated.grown.queue in
      let g = c.grown in
      let kept = composed_kept v q g (omega arith) p.composed_to in
      let marked : (n : ℕ) → Among o₁ (h + 1) n → Reached m n = λ n i. (among_marked q (omega arith) (among_back g (omega arith) i)).1 in
      record {
        treated = treated_more p.treated b g;
        apart = c.apart;
        composed_to = record {
          is = λ t x y l j i i'. ⊎_elim
              (λ k. ⊎_elim (λ k'. kept.is t x y l j k k')
              (λ k'. let ku : u ≡ y = sym (g.same h b) ∙ k' in c.second t x l (rw ku j) (marked x i)) (among_more o₁ h y i'))
              (λ k. let ku : u ≡ x = sym (g.same h b) ∙ k in c.first t y l (rw ku j) (marked y i')) (among_more o₁ h x i);
        };
      }
