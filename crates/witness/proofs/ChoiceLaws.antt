-- Which steps lead to a term: what `Marked::choose` has done as far as it has gone back over the order.
use mathlib.Core.Path.{◌≡◌, refl, sym, ap, ◌∙◌, subst}
use mathlib.Core.Logic.{◌⊎◌, inl, inr, ⊎_elim}
use mathlib.Core.Bool.{Bool, true, false, true≢false}
use mathlib.Core.List.{List, [], ◌∷◌, ◌++◌}
use Prim.Native.Nat.{ℕ, ◌+◌, ◌-◌, ◌≤◌, ◌<◌}
use native.Mathlib.Omega.{arith}
use lib.ListN.{length, get_or, set, replicate, length-set, length-replicate, length-append, take, drop, take-append-drop}
use lib.Seq.{get_or-set_same, get_or-set_other, get_or-append_seam, length-take-le}
use Rattle.std.proofs.Common.{append_assoc}
use Rattle.std.proofs.lemmas.List.{get_or-replicate, get_or_past}
use Rattle.std.specs.List.{push}
use Rattle.std.specs.Prelude.{Some}
use Rattle.base.proofs.{Order.lt_or_ge, Pigeonhole.pigeonhole}
use Rattle.submission.specs.Record.{terms}
use Rattle.submission.specs.Code.{TableRead}
use Rattle.submission.proofs.Theory.ListedTerms.{facts}
use Rattle.deduction.specs.Saturation.{start_mark, How, Among, Queue}
use Rattle.deduction.specs.Code.{Marks, mark_of, Reached}
use Rattle.deduction.specs.declared.worklist.Origin.{Origin}
use Rattle.deduction.specs.declared.worklist.Origin.TheVariants.{Record}
use Rattle.deduction.proofs.{MarkArrays.not_started, Clauses.comes_by, MarkOrder.among_marked}
use Rattle.witness.specs.declared.marked.Choice.{Choice}
use Rattle.witness.specs.Code.{concluding_step, concluding_second, origin_record, step_by, ConcludingPremise, StepFrom, HasStep, StartedOrHasStep, with_term, ChosenOne, Chosen}
use Rattle.witness.proofs.StepsFrom.{Infers, infers}

-- ---- the step of a term, by its mark
pub step_is : {s : List ℕ} {marks : Marks} {n : ℕ} → HasStep s marks n → step_by s n (mark_of marks n) ≡ Some (concluding_step s marks n)
step_is {s} {n = n} h = ap (step_by s n) h.marked

-- of a mark that names a record
pub step_of : {s : List ℕ} {marks : Marks} {n w u : ℕ} {o : Origin} → StartedOrHasStep s marks n → w ≡ n → mark_of marks w ≡ Some o → o ≡ Record u → StepFrom s u n
step_of {s} {marks} {n} {u = u} h g d f =
    let e : mark_of marks n ≡ Some (Record u) = rw (← g) d ∙ ap Some f in
    ⊎_elim (λ z. not_started (sym e ∙ z)) (λ z. let f : origin_record (mark_of marks n) ≡ u = ap origin_record e in subst (λ k. StepFrom s k n) f z.step) h.is

-- a term that was reached is from the start, or has a step
started_or_has_step : {s : List ℕ} {marks : Marks} {n : ℕ} {Had : ℕ → Type 0} → TableRead s → n < terms s → ((x : ℕ) → Had x → x < terms s) →
    How s Had (mark_of marks n) n → StartedOrHasStep s marks n
started_or_has_step v l f (inl e) = record { is = inl e }
started_or_has_step {s} {marks} {n} v l f (inr (u, a, e, x)) =
    let z : origin_record (mark_of marks n) ≡ u = ap origin_record e in
    record { is = inr (record { marked = e ∙ ap (λ k. Some (Record k)) (sym z); step = rw z (record { from = a; below = l; comes = comes_by v a (λ k _ m. f k m) x }) }) }

-- ---- a term more that is needed
abbrev pub Needed : List Bool → ℕ → Type 0
Needed l x = get_or l x false ≡ true

module _ (l : List Bool) {t : ℕ} (b : t < length l) where
  noted : Needed (set l t true) t
  noted = get_or-set_same l t true false b

  noted_keeps : (x : ℕ) → Needed l x → Needed (set l t true) x
  noted_keeps x r = grind (arith, get_or-set_same, get_or-set_other)

  noted_only : (x : ℕ) → Needed (set l t true) x → Needed l x ⊎ (x ≡ t)
  noted_only x r = grind (arith, get_or-set_same, get_or-set_other)

-- nothing is needed at first
none_needed : (x n : ℕ) → Needed (replicate n false) x → ⊥
none_needed x n e = grind (arith, get_or-replicate, get_or_past, length-replicate)

-- ---- the loop of `choose`: the terms from place k of the order on are treated
pub record Choosing (s : List ℕ) (marks : Marks) (order : List ℕ) (end t : ℕ) (c : Choice) (k : ℕ) : Type 0 where
  pub long : length c.chosen ≡ 256
  pub all : length c.needed ≡ 256
  pub within : c.from ≤ 256
  pub left : k ≤ end
  pub counted : 256 + k ≤ c.from + end
  pub placed : (i : ℕ) → c.from ≤ i → i < 256 → (j : ℕ) × (k ≤ j) × (j < end) × (get_or order j 0 ≡ get_or c.chosen i 0)
  pub new : (i : ℕ) → c.from ≤ i → i < 256 → mark_of marks (get_or c.chosen i 0) ≡ start_mark → ⊥
  pub apart : (i j : ℕ) → c.from ≤ i → i < j → j < 256 → get_or c.chosen i 0 ≡ get_or c.chosen j 0 → ⊥
  pub founded : (i : ℕ) → c.from ≤ i → i < 256 → (x : ℕ) → ConcludingPremise s marks (get_or c.chosen i 0) x →
      (mark_of marks x ≡ start_mark) ⊎ (((j : ℕ) × (c.from ≤ j) × (j < i) × (get_or c.chosen j 0 ≡ x)) ⊎ (Among order k x × Needed c.needed x))
  pub used : (i : ℕ) → c.from ≤ i → i < 255 → (j : ℕ) × (i < j) × (j < 256) × ConcludingPremise s marks (get_or c.chosen j 0) (get_or c.chosen i 0)
  pub asked : (x : ℕ) → Needed c.needed x → (x ≡ t) ⊎ ((i : ℕ) × (c.from ≤ i) × (i < 256) × ConcludingPremise s marks (get_or c.chosen i 0) x)
  pub last : ((c.from ≡ 256) × (mark_of marks t ≡ start_mark))
      ⊎ (((c.from ≡ 256) × Among order k t × Needed c.needed t) ⊎ ((c.from < 256) × (get_or c.chosen 255 0 ≡ t)))

pub choosing_none : {s : List ℕ} {marks : Marks} {order chosen : List ℕ} {end t w : ℕ} → TableRead s → Queue s marks order end → t < terms s → Reached marks t →
    length chosen ≡ 256 → w ≡ t → Choosing s marks order end t (record { needed = set (replicate 256 false) w true; chosen = chosen; from = 256 }) end
choosing_none {s} {t = t} {w} v q l r e f =
    let zeros₀ : List Bool = replicate 256 false in
    let long : length zeros₀ ≡ 256 = length-replicate {A = Bool} 256 false in
    let b : t < length zeros₀ = omega (arith, (facts v).terms_most) in
    rw f (record {
      long = e;
      all = length-set zeros₀ t true ∙ long;
      within = omega arith;
      left = omega arith;
      counted = omega arith;
      placed = λ i c d. absurd (omega arith);
      new = λ i c d. absurd (omega arith);
      apart = λ i j c d g. absurd (omega arith);
      founded = λ i c d x y. absurd (omega arith);
      used = λ i c d. absurd (omega arith);
      asked = λ x a. ⊎_elim (λ z. absurd (none_needed x 256 z)) (λ z. inl z) (noted_only zeros₀ b x a);
      last = inr (inl (refl, q.listed t l r, noted zeros₀ b));
    })

module _ {s : List ℕ} {marks : Marks} {order : List ℕ} {c : Choice} {end t k : ℕ} (v : TableRead s) (q : Queue s marks order end) (p : Choosing s marks order end t c k) (b : 0 < k) where
  abbrev chosen : List ℕ
  chosen = c.chosen

  abbrev needed : List Bool
  needed = c.needed

  abbrev from : ℕ
  from = c.from

  abbrev n : ℕ
  n = get_or order (k - 1) 0

  here : k - 1 < end
  here = omega (arith, p.left)

  pub next_room : 0 < from
  next_room = omega (arith, p.counted, q.room.enough)

  pub next_ends : StartedOrHasStep s marks (get_or order (k - 1) 0)
  next_ends = started_or_has_step v (q.terms (k - 1) here) (λ x m. (among_marked q (omega arith) m).0) (q.how (k - 1) here)

  among_here : (x : ℕ) → Among order k x → Among order (k - 1) x ⊎ (n ≡ x)
  among_here x (j, c, e) = ⊎_elim (λ l. inl (j, l, e)) (λ l. let z : j ≡ k - 1 = omega arith in inr (ap (λ i. get_or order i 0) (sym z) ∙ e)) (lt_or_ge j (k - 1))

  -- the term is passed over
  choosing_past : (get_or needed n false ≡ false) ⊎ (mark_of marks n ≡ start_mark) → Choosing s marks order end t c (k - 1)
  choosing_past w = record {
    long = p.long;
    all = p.all;
    within = p.within;
    left = omega (arith, p.left);
    counted = omega (arith, p.counted);
    placed = λ i c d. let (j, a, x, e) = p.placed i c d in (j, omega arith, x, e);
    new = p.new;
    apart = p.apart;
    founded = λ i c d x y. ⊎_elim (λ z. inl z) (⊎_elim (λ z. inr (inl z)) (λ (a, r). ⊎_elim
        (λ a'. inr (inr (a', r)))
        (λ e. ⊎_elim (λ z. absurd (true≢false (sym r ∙ rw e at z))) (λ z. inl (rw e at z)) w) (among_here x a))) (p.founded i c d x y);
    used = p.used;
    asked = p.asked;
    last = ⊎_elim (λ z. inl z) (⊎_elim
        (λ (f, a, r). ⊎_elim
        (λ a'. inr (inl (f, a', r)))
        (λ e. ⊎_elim (λ z. absurd (true≢false (sym r ∙ rw e at z))) (λ z. inl (f, rw e at z)) w) (among_here t a)) (λ z. inr (inr z))) p.last;
  }

  -- the term is chosen
  module _ (f : Needed needed n) (g : mark_of marks n ≡ start_mark → ⊥) where
    premises : (x : ℕ) → ConcludingPremise s marks n x → Among order (k - 1) x
    premises x y = ⊎_elim (λ e. absurd (g e))
        (λ (u, l, e, c).
        let m : origin_record (mark_of marks n) ≡ u = ap origin_record e in
        let i : Infers s (Among order (k - 1)) n (concluding_step s marks n) = rw m (infers v l (q.terms (k - 1) here) c) in
        ⊎_elim (λ z. rw z i.first) (λ z. rw z i.second) y) (q.how (k - 1) here)

    abbrev x₁ : ℕ
    x₁ = (concluding_step s marks n).p

    abbrev x₂ : ℕ
    x₂ = concluding_second s marks n

    low : (x : ℕ) → ConcludingPremise s marks n x → x < 256
    low x y = let c = (among_marked q (omega (arith, here)) (premises x y)).0 in omega (arith, (facts v).terms_most)

    low₁ : x₁ < length needed
    low₁ = let c = low x₁ (inl refl) in omega (arith, p.all)

    low₂ : x₂ < length (set needed x₁ true)
    low₂ = let c = low x₂ (inr refl) in omega (arith, p.all, length-set needed x₁ true)

    abbrev needed' : List Bool
    needed' = set (set needed x₁ true) x₂ true

    kept : (x : ℕ) → Needed needed x → Needed needed' x
    kept x r = noted_keeps (set needed x₁ true) low₂ x (noted_keeps needed low₁ x r)

    asks : (x : ℕ) → ConcludingPremise s marks n x → Needed needed' x
    asks x y = ⊎_elim (λ z. rw z (noted_keeps (set needed x₁ true) low₂ x₁ (noted needed low₁))) (λ z. rw z (noted (set needed x₁ true) low₂)) y

    only : (x : ℕ) → Needed needed' x → Needed needed x ⊎ ConcludingPremise s marks n x
    only x r = ⊎_elim (λ r'. ⊎_elim (λ z. inl z) (λ z. inr (inl z)) (noted_only needed low₁ x r')) (λ z. inr (inr z)) (noted_only (set needed x₁ true) low₂ x r)

    abbrev chosen' : List ℕ
    chosen' = set chosen (from - 1) n

    inside : from - 1 < length chosen
    inside = let c = next_room in omega (arith, p.long, p.within)

    at_new : get_or chosen' (from - 1) 0 ≡ n
    at_new = get_or-set_same chosen (from - 1) n 0 inside

    at_old : (i : ℕ) → from ≤ i → get_or chosen' i 0 ≡ get_or chosen i 0
    at_old i c = let d = next_room in get_or-set_other chosen (from - 1) i n 0 (λ e. omega arith)

    -- what holds of the new place and of the old ones
    each : (P : ℕ → ℕ → Type 0) → P (from - 1) n → ((i : ℕ) → from ≤ i → P i (get_or chosen i 0)) → (i : ℕ) → from - 1 ≤ i → P i (get_or chosen' i 0)
    each P a o i c =
        ⊎_elim (λ l. rw (at_old i l) (o i l)) (λ e. subst (λ j. P j (get_or chosen' j 0)) (sym e) (subst (P (from - 1)) (sym at_new) a))
        (⊎_elim (λ l. let z : i ≡ from - 1 = omega arith in inr z) (λ l. inl l) (lt_or_ge i from))

    other : (i : ℕ) → from ≤ i → i < 256 → n ≡ get_or chosen i 0 → ⊥
    other i c d e = let (j, a, l, z) = p.placed i c d in q.once (k - 1) j (omega arith) l (e ∙ sym z)

    premise_old : (i x : ℕ) → from ≤ i → ConcludingPremise s marks (get_or chosen i 0) x → ConcludingPremise s marks (get_or chosen' i 0) x
    premise_old i x c y = rw (at_old i c) y

    -- t is needed alone as long as nothing is chosen, and is not needed again
    is_t : from ≡ 256 → n ≡ t
    is_t e = ⊎_elim (λ z. z) (λ (i, c, d, _). absurd (omega arith)) (p.asked n f)

    not_t : from < 256 → n ≡ t → ⊥
    not_t l e = ⊎_elim (λ (z, _). omega arith) (⊎_elim (λ (z, _, _). omega arith) (λ (_, z). other 255 (omega arith) (omega arith) (e ∙ sym z))) p.last

    choosing_new : Choosing s marks order end t (with_term s marks n c) (k - 1)
    choosing_new = let room = next_room in record {
      long = length-set chosen (from - 1) n ∙ p.long;
      all = length-set (set needed x₁ true) x₂ true ∙ length-set needed x₁ true ∙ p.all;
      within = omega (arith, p.within);
      left = omega (arith, p.left);
      counted = omega (arith, p.counted);
      placed = each (λ i w. i < 256 → (j : ℕ) × (k - 1 ≤ j) × (j < end) × (get_or order j 0 ≡ w))
          (λ _. (k - 1, omega arith, here, refl)) (λ i c d. let (j, a, x, e) = p.placed i c d in (j, omega arith, x, e));
      new = each (λ i w. i < 256 → mark_of marks w ≡ start_mark → ⊥) (λ _. g) p.new;
      apart = λ i j c l d. each (λ i w. i < j → w ≡ get_or chosen' j 0 → ⊥)
          (λ l e. other j (omega arith) d (e ∙ at_old j (omega arith))) (λ i c l e. p.apart i j c l d (e ∙ at_old j (omega arith))) i c l;
      founded = each (λ i w. i < 256 → (x : ℕ) → ConcludingPremise s marks w x →
          (mark_of marks x ≡ start_mark) ⊎ (((j : ℕ) × (from - 1 ≤ j) × (j < i) × (get_or chosen' j 0 ≡ x)) ⊎ (Among order (k - 1) x × Needed needed' x)))
          (λ _ x y. inr (inr (premises x y, asks x y)))
          (λ i c d x y. ⊎_elim (λ z. inl z) (⊎_elim
          (λ (j, a, l, e). inr (inl (j, omega arith, l, at_old j a ∙ e)))
          (λ (a, r). ⊎_elim (λ a'. inr (inr (a', kept x r))) (λ e. inr (inl (from - 1, omega arith, omega arith, at_new ∙ e))) (among_here x a))) (p.founded i c d x y));
      used = each (λ i w. i < 255 → (j : ℕ) × (i < j) × (j < 256) × ConcludingPremise s marks (get_or chosen' j 0) w)
          (λ d. ⊎_elim (λ e. absurd (not_t (omega arith) e)) (λ (j, a, l, y). (j, omega arith, l, premise_old j n a y)) (p.asked n f))
          (λ i c d. let (j, a, l, y) = p.used i c d in (j, a, l, premise_old j (get_or chosen i 0) (omega arith) y));
      asked = λ x r. ⊎_elim
          (λ z. ⊎_elim (λ e. inl e) (λ (i, a, l, y). inr (i, omega arith, l, premise_old i x a y)) (p.asked x z))
          (λ y. inr (from - 1, omega arith, omega (arith, p.within), rw at_new y)) (only x r);
      last = ⊎_elim (λ (e, z). absurd (g (rw (is_t e) z)))
          (⊎_elim (λ (e, _, _). let z : from - 1 ≡ 255 = omega arith in inr (inr (omega arith, ap (λ i. get_or chosen' i 0) (sym z) ∙ at_new ∙ is_t e)))
          (λ (l, e). inr (inr (omega arith, at_old 255 (omega arith) ∙ e)))) p.last;
    }

  pub choosing_more : {c' : Choice} → ChosenOne s marks (get_or order (k - 1) 0) c c' → Choosing s marks order end t c' (k - 1)
  choosing_more = ⊎_elim (λ (w, e). rw e (choosing_past w)) (λ (f, g, e). rw e (choosing_new f g))

-- ---- all are treated
module _ {s : List ℕ} {marks : Marks} {order : List ℕ} {h : Choice} {end t k : ℕ} (v : TableRead s) (q : Queue s marks order end) (p : Choosing s marks order end t h k) (b : k ≤ 0) where
  have_steps : (i : ℕ) → h.from ≤ i → i < 256 → HasStep s marks (get_or h.chosen i 0)
  have_steps i c d =
      let (j, _, l, e) = p.placed i c d in
      let w : StartedOrHasStep s marks (get_or h.chosen i 0) = rw e at (started_or_has_step v (q.terms j l) (λ x m. (among_marked q (omega arith) m).0) (q.how j l)) in
      ⊎_elim (λ z. absurd (p.new i c d z)) (λ z. z) w.is

  pub choosing_end : Chosen s marks t h.chosen h.from
  choosing_end = record {
    steps = record {
      long = p.long;
      within = p.within;
      concluded = have_steps;
    };
    few = let m = pigeonhole end (terms s) (λ i. get_or order i 0) q.terms q.once in omega (arith, p.counted);
    below = λ i c d. let (j, _, l, e) = p.placed i c d in rw e at (q.terms j l);
    new = p.new;
    comes = λ i c d. (have_steps i c d).step.comes;
    apart = p.apart;
    founded = λ i c d x y. ⊎_elim (λ z. inl z) (⊎_elim (λ z. inr z) (λ ((j, l, _), _). absurd (omega arith))) (p.founded i c d x y);
    used = p.used;
    last = ⊎_elim (λ z. inl z) (⊎_elim (λ (_, (j, l, _), _). absurd (omega arith)) (λ z. inr z)) p.last;
  }

-- ---- the loop goes back over the reached terms: `rest` is what is left of them
pub record Leaving (s : List ℕ) (marks : Marks) (order : List ℕ) (end t : ℕ) (c : Choice) (rest : List ℕ) : Type 0 where
  pub after : List ℕ
  pub left : order ≡ rest ++ after
  pub choosing : Choosing s marks order end t c (length rest)

pub leaving_none : {s : List ℕ} {marks : Marks} {order chosen rest : List ℕ} {end t w : ℕ} → TableRead s → Queue s marks order end → t < terms s → Reached marks t → length chosen ≡ 256 → w ≡ t → rest ≡ take end order →
    Leaving s marks order end t (record { needed = set (replicate 256 false) w true; chosen = chosen; from = 256 }) rest
leaving_none {order = order} {end = end} v q l r e f g =
    let n : length (take end order) ≡ end = length-take-le end order (omega (arith, q.room.enough, q.room.order_long)) in
    record {
      after = drop end order;
      left = sym (take-append-drop end order) ∙ rw g;
      choosing = subst (Choosing _ _ _ _ _ _) (sym n ∙ ap length (sym g)) (choosing_none v q l r e f);
    }

module _ {s : List ℕ} {marks : Marks} {order rest : List ℕ} {c : Choice} {end t : ℕ} (rest' : List ℕ) (x : ℕ) (v : TableRead s) (q : Queue s marks order end) (p : Leaving s marks order end t c rest) (e : rest ≡ push rest' x) where
  long : length rest ≡ length rest' + 1
  long = ap length e ∙ length-append rest' (x ∷ [])

  some : 0 < length rest
  some = omega (arith, long)

  one_less : length rest - 1 ≡ length rest'
  one_less = omega (arith, long)

  split : order ≡ rest' ++ x ∷ p.after
  split = p.left ∙ rw e (append_assoc rest' (x ∷ []) p.after)

  item : get_or order (length rest - 1) 0 ≡ x
  item = rw (one_less, split) (get_or-append_seam rest' x p.after 0)

  pub leaving_ends : StartedOrHasStep s marks x
  leaving_ends = subst (StartedOrHasStep s marks) item (next_ends v q p.choosing some)

  pub leaving_room : 0 < c.from
  leaving_room = next_room v q p.choosing some

  pub leaving_more : {c' : Choice} → ChosenOne s marks x c c' → Leaving s marks order end t c' rest'
  leaving_more d = record {
    after = x ∷ p.after;
    left = split;
    choosing = subst (Choosing s marks order end t _) one_less (choosing_more v q p.choosing some (rw item d));
  }

pub leaving_end : {s : List ℕ} {marks : Marks} {order rest : List ℕ} {c : Choice} {end t : ℕ} → TableRead s → Queue s marks order end → Leaving s marks order end t c rest → length rest ≡ 0 → Chosen s marks t c.chosen c.from
leaving_end v q p e = choosing_end v q p.choosing (omega (arith, e))
