-- The working: the loops of `enter`, `has_compound_key` and `build_all`, and that the marks that are left are exact.
use mathlib.Core.Path.{◌≡◌, refl, sym, ap, ◌∙◌}
use mathlib.Core.Logic.{◌↔◌, inl, ⊎_elim}
use mathlib.Core.Bool.{Bool, true, false, not, false≢true, true≢false}
use mathlib.Core.List.{List, []}
use mathlib.Core.Option.{some}
use Prim.Native.Nat.{ℕ, zero, suc, ◌+◌, ◌≤◌, ◌<◌}
use native.Mathlib.Omega.{arith}
use Rattle.std.specs.Option.{option_map}
use lib.Dec.{eqb}
use lib.ListN.{replicate}
use borrow.Author.Count.{below_more}
use borrow.Author.Tests.{eq-eqb, ne_eqb}
use Rattle.base.specs.Computed.{any}
use Rattle.base.proofs.BoolLaws.{and_both, or_left}
use Rattle.base.proofs.Order.{lt_or_ge}
use Rattle.base.proofs.Says.{says_and, says_or, says_true, says_eqb, any_false, not_is_true, not_not_false}
use Rattle.base.proofs.Stores.{unset}
use Rattle.term.specs.Step.{Deducible}
use Rattle.term.specs.Term.{Term as TermTree, Kind, symmetric, asymmetric, pair, hash, encryption, Shape, atomic, compound, is_key_for, Rec, leaf, branch}
use Rattle.term.specs.Number.{shape_of}
use Rattle.std.specs.Option.{option_eq}
use Rattle.term.specs.contracts.kind.KindPartialEq.TheImpl.{eq-value}
use Rattle.term.specs.Code.{shape_read}
use Rattle.term.specs.declared.kind.Kind.{Kind as KindRead}
use Rattle.term.specs.declared.kind.Kind.TheVariants.{Plain, Public, Private, Pair, Enc, Enca, Hash}
use Rattle.term.proofs.KindLaws.{shape_kind, kind_number, kind_not}
use Rattle.term.proofs.Reach.{reach_iff}
use Rattle.term.proofs.Reduce.{match_sym, key_is_atom}
use Rattle.term.proofs.Table.{leaf_of}
use Rattle.submission.specs.declared.Term.{Term}
use Rattle.submission.specs.Check.{Shaped}
use Rattle.submission.specs.Code.{TableRead, IsTerm}
use Rattle.submission.specs.{Record.terms, Record.kind_at, Record.x_at, Record.y_at, Record.name_at, Record.record_at, Record.term}
use Rattle.submission.proofs.Theory.ListedTerms.{facts}
use Rattle.inverse.specs.Code.{found_inverse}
use Rattle.std.specs.Prelude.{Option as Maybe, Some, None}
use Rattle.deduction.specs.declared.worklist.Origin.{Origin}
use Rattle.deduction.specs.declared.worklist.Origin.TheVariants.{Start, Record}
use Rattle.deduction.specs.declared.opening.Opening.{Opening}
use Rattle.deduction.specs.declared.opening.Opening.TheVariants.{Freely, With}
use Rattle.deduction.specs.Computed.{at, parts_built, built, gives, Marked}
use Rattle.deduction.specs.Code.{Marks, mark_of, reached_of, Reached, Room, parts_of, opening_of, has_hash_key}
use Rattle.deduction.specs.Saturation.{start_mark, from_parts, Pushed, PushedWith, Queue, Grown, Entered, OpenTo, ComposedTo, Worked, BuiltOne, BuildClosed, BuiltAll, AllReached}
use Rattle.deduction.proofs.Theory.{BuildTestLaws.built_eq, Exactness.built_is_deducible, Exactness.deducible_from_iff, Exactness.deducible_trans}
use Rattle.deduction.proofs.BuildMemo.{shape_record, same_parts, both_parts}
use Rattle.deduction.proofs.MarkArrays.{says_reached, not_reached, started}
use Rattle.deduction.proofs.OpeningKeys.{the_inverse}
use Rattle.deduction.proofs.RecordOpening.{given, opening_gives, with_listed}
use Rattle.deduction.proofs.Clauses.{parts_listed}
use Rattle.deduction.proofs.Firing.{with_grown, with_here}
use Rattle.deduction.proofs.MarkOrder.{grown_none, grown_trans, pushed_as, pushed_queue, pushed_keeps, pushed_only}

-- ---- encryptions under a hash
not_some : {a : KindRead} → None ≡ Some a → ⊥
not_some e = absurd (let o : ◌≡◌ {A = ℕ} 0 1 = cc in omega arith)

-- what `==` says of a kind that a number is read as
told_enc : (n : ℕ) (m : Maybe KindRead) → shape_read m ≡ shape_of n → option_eq eq-value.it m (Some Enc) ≡ eqb n 5
told_enc n None e = sym (ne_eqb n 5 (kind_not Enc e not_some))
told_enc n (Some Plain) e = rw (kind_number {a = Plain} e refl)
told_enc n (Some Public) e = rw (kind_number {a = Public} e refl)
told_enc n (Some Private) e = rw (kind_number {a = Private} e refl)
told_enc n (Some Pair) e = rw (kind_number {a = Pair} e refl)
told_enc n (Some Enc) e = rw (kind_number {a = Enc} e refl)
told_enc n (Some Enca) e = rw (kind_number {a = Enca} e refl)
told_enc n (Some Hash) e = rw (kind_number {a = Hash} e refl)

told_hash : (n : ℕ) (m : Maybe KindRead) → shape_read m ≡ shape_of n → option_eq eq-value.it m (Some Hash) ≡ eqb n 7
told_hash n None e = sym (ne_eqb n 7 (kind_not Hash e not_some))
told_hash n (Some Plain) e = rw (kind_number {a = Plain} e refl)
told_hash n (Some Public) e = rw (kind_number {a = Public} e refl)
told_hash n (Some Private) e = rw (kind_number {a = Private} e refl)
told_hash n (Some Pair) e = rw (kind_number {a = Pair} e refl)
told_hash n (Some Enc) e = rw (kind_number {a = Enc} e refl)
told_hash n (Some Enca) e = rw (kind_number {a = Enca} e refl)
told_hash n (Some Hash) e = rw (kind_number {a = Hash} e refl)

module _ {s : List ℕ} {t : ℕ} {a : Term} (i : IsTerm s t a) where
  module _ (m : Maybe KindRead) {r : Bool} (e : shape_read m ≡ shape_of a.kind) (f : r ≡ not (option_eq eq-value.it m (Some Enc))) where
    pub under_other : r ≡ true → false ≡ has_hash_key s t
    unfolding has_hash_key
    under_other g = rw (← i.kind, ← told_enc a.kind m e, (not_is_true _).0 (sym f ∙ g))

    pub under_told : {b : Term} (n : Maybe KindRead) {o : Bool} → r ≡ false → IsTerm s a.y b → shape_read n ≡ shape_of b.kind →
        o ≡ option_eq eq-value.it n (Some Hash) → o ≡ has_hash_key s t
    unfolding has_hash_key
    under_told {b} n g j h k = rw (← i.kind, ← told_enc a.kind m e, (not_not_false _).0 (sym f ∙ g), ← i.y, ← j.kind, ← told_hash b.kind n h, k)

-- ---- the terms that `start` marks
pub record Entering (s : List ℕ) (start : List Bool) (i : ℕ) (m : Marks) (o : List ℕ) (end : ℕ) : Type 0 where
  pub within : i ≤ terms s
  pub queue : Queue s m o end
  pub entered : (k : ℕ) → k < i → at start k ≡ true → mark_of m k ≡ start_mark
  pub only : (k : ℕ) → Reached m k → at start k ≡ true
  pub all : (k : ℕ) → Reached m k → mark_of m k ≡ start_mark

pub entering_none : {s : List ℕ} {m : Marks} {o : List ℕ} {end : ℕ} (start : List Bool) → m ≡ replicate 256 None → end ≡ 0 → Room m o end → Entering s start 0 m o end
entering_none {m = m} start e f r =
    let none : (k : ℕ) → Reached m k → ⊥ = λ k a. not_reached (mark_of m k) (rw (e, unset {A = Maybe Origin} None k 256)) a in
    record {
      within = omega arith;
      queue = record {
        room = r;
        listed = λ n _ a. absurd (none n a);
        terms = λ k b. absurd (omega arith);
        marked = λ k b. absurd (omega arith);
        once = λ j k b c. absurd (omega arith);
        how = λ k b. absurd (omega arith);
      };
      entered = λ k b. absurd (omega arith);
      only = λ k a. absurd (none k a);
      all = λ k a. absurd (none k a);
    }

module _ {s : List ℕ} {m : Marks} {o : List ℕ} {start : List Bool} {i n end : ℕ} (p : Entering s start i m o end) where
  module _ {w : ℕ} (b : i < n) (e : n ≡ terms s) (f : w ≡ i) where
    pub entering_skip : (at start w ≡ false) → Entering s start (i + 1) m o end
    entering_skip d = record {
      within = omega arith;
      queue = p.queue;
      entered = below_more (λ k. at start k ≡ true → mark_of m k ≡ start_mark) i p.entered (λ a. absurd (false≢true (sym d ∙ rw f a)));
      only = p.only;
      all = p.all;
    }

    pub entering_more : {m' : Marks} {o' : List ℕ} {r : ℕ} → TableRead s → at start w ≡ true → Pushed i Start m o end m' o' r → Entering s start (i + 1) m' o' r
    entering_more {m'} v a q =
        let l : i < terms s = omega arith in
        let kept = pushed_keeps _ v p.queue l q in
        let only = pushed_only _ v p.queue l q in
        let here : mark_of m' i ≡ start_mark = pushed_as _ v p.queue l q (p.all i) in
        record {
          within = omega arith;
          queue = pushed_queue _ v p.queue l q (inl refl);
          entered = below_more (λ k. at start k ≡ true → mark_of m' k ≡ start_mark) i
              (λ k c g. let x = p.entered k c g in kept k (started x) ∙ x) (λ _. here);
          only = λ k g. ⊎_elim (p.only k) (λ h. rw h (rw f at a)) (only k g);
          all = λ k g. ⊎_elim (λ x. kept k x ∙ p.all k x) (λ h. rw h here) (only k g);
        }

  module _ (b : n ≤ i) (e : n ≡ terms s) where
    pub entering_all : Entered s start m
    entering_all = record { holds = λ k c a. p.entered k (omega (arith, p.within)) a; only = p.only }

-- ---- the key of an opening
not_none : {body key : ℕ} → None ≡ Some (With body key) → ⊥
not_none e = let z : ◌≡◌ {A = ℕ} 0 1 = cc in omega arith

not_freely : {x y body key : ℕ} → Some (Freely x y) ≡ Some (With body key) → ⊥
not_freely e = let z : ◌≡◌ {A = ℕ} 0 1 = cc in omega arith

by_key : {x k body key : ℕ} → Some (With x k) ≡ Some (With body key) → k ≡ key
by_key e = cc

pub by_inverse : (o : Maybe ℕ) (x : ℕ) {body key : ℕ} → option_map (With x) o ≡ Some (With body key) → (o ≡ Some key) × (x ≡ body)
by_inverse None x f = absurd (not_none f)
by_inverse (Some k) x {body} {key} f = let e : k ≡ key = by_key f in (ap Some e, cc)

-- ---- a key that can be built is marked
pub record KeysMarked (s : List ℕ) (m : Marks) : Type 0 where
  pub is : (t body key : ℕ) → t < terms s → opening_of s t ≡ Some (With body key) → built s (reached_of m) key ≡ true → Reached m key

-- where a term is marked whose parts are, what can be built is marked
module _ {s : List ℕ} {m' : Marks} (m : Marks) (v : TableRead s) (keeps : (n : ℕ) → n < terms s → Reached m n → Reached m' n) (c : BuildClosed s m' (terms s)) where
  within_marked : (fuel n : ℕ) → n < fuel → n < terms s → built s (reached_of m) n ≡ true → Reached m' n
  within_marked zero n b l f = absurd (omega arith)
  within_marked (suc fuel) n b l f =
      ⊎_elim (λ a. keeps n l ((says_reached m n).0 a)) (go (record_at s n) refl (within_marked fuel))
      ((says_or (at (reached_of m) n) (parts_built (built s (reached_of m)) (record_at s n)) (says_true _) (says_true _)).0 (sym (built_eq s (reached_of m) (facts v).table.earlier n l) ∙ f))
    where
      go : (r : Rec) → record_at s n ≡ r → ((k : ℕ) → k < fuel → k < terms s → built s (reached_of m) k ≡ true → Reached m' k) →
          parts_built (built s (reached_of m)) (record_at s n) ≡ true → Reached m' n
      go (leaf κ x) r ih g = absurd (false≢true (rw r at g))
      go (branch h x y) r ih g =
          let (bx, by) : (x < n) × (y < n) = rw r at ((facts v).table.earlier n l) in
          let (gx, gy) = (says_and (built s (reached_of m) x) (built s (reached_of m) y) (says_true _) (says_true _)).0 (rw r at g) in
          c.is n x y l (ap parts_of r) (ih x (omega arith) (omega arith) gx) (ih y (omega arith) (omega arith) gy)

  built_marked : (n : ℕ) → n < terms s → built s (reached_of m) n ≡ true → Reached m' n
  built_marked n l = within_marked (suc n) n (omega arith) l

pub composed_keys : {s : List ℕ} {m : Marks} {o : List ℕ} {e : ℕ} → TableRead s → Queue s m o e → ComposedTo s m o e → KeysMarked s m
composed_keys {s} {m} v q c = record {
  is = λ t body key l f.
      built_marked {m' = m} m v (λ n b a. a)
      (record { is = λ n x y b p a a'. let (bx, by) = parts_listed v b p in c.is n x y b p (q.listed x bx a) (q.listed y by a') }) key (with_listed v l f).1;
}

-- where no compound term is a key
module _ {s : List ℕ} (v : TableRead s) where
  symmetric_leaf : (k : ℕ) → k < terms s → is_key_for symmetric (shape_of (kind_at s k)) ≡ true → (kind_at s k ≡ 7 → ⊥) → (κ : Kind) × (n : ℕ) × (record_at s k ≡ leaf κ n)
  symmetric_leaf k l f d = go ((facts v).good k l).shape ((facts v).good k l).has
    where
      go : (z : Shape) → shape_of (kind_at s k) ≡ some z → (κ : Kind) × (n : ℕ) × (record_at s k ≡ leaf κ n)
      go (atomic κ) e = (κ, name_at s k, shape_record s k (atomic κ) e)
      go (compound hash) e = absurd (d (shape_kind _ _ e))
      go (compound pair) e = absurd (false≢true (rw e at f))
      go (compound (encryption symmetric)) e = absurd (false≢true (rw e at f))
      go (compound (encryption asymmetric)) e = absurd (false≢true (rw e at f))

  inverse_leaf : (k j : ℕ) → k < terms s → found_inverse s k ≡ Some j → (κ : Kind) × (n : ℕ) × (record_at s j ≡ leaf κ n)
  inverse_leaf k j l d =
      let (b, a) = the_inverse v l d in
      let (κ, n, f) = key_is_atom (term s j) (match_sym asymmetric (term s k) (term s j) (((facts v).inverse_iff k j l b).0 a)).0 in
      (κ, n, leaf_of (facts v).table j b f)

  -- the key that opens record t
  key_leaf : (t : ℕ) {body key : ℕ} → t < terms s → has_hash_key s t ≡ false → opening_of s t ≡ Some (With body key) → (κ : Kind) × (n : ℕ) × (record_at s key ≡ leaf κ n)
  unfolding has_hash_key
  key_leaf t {body} {key} l h f = go ((facts v).good t l).shape ((facts v).good t l).has ((facts v).good t l).fits
    where
      go : (z : Shape) → shape_of (kind_at s t) ≡ some z → Shaped s t z → (κ : Kind) × (n : ℕ) × (record_at s key ≡ leaf κ n)
      go (atomic κ) e w = absurd (not_none (rw (shape_record s t (atomic κ) e) at f))
      go (compound hash) e w = absurd (not_none (rw (shape_record s t (compound hash) e) at f))
      go (compound pair) e w = absurd (not_freely (rw (shape_record s t (compound pair) e) at f))
      go (compound (encryption symmetric)) e (_, (b, i)) =
          let k : y_at s t ≡ key = by_key (rw (shape_record s t (compound (encryption symmetric)) e) at f) in
          let five : eqb (kind_at s t) 5 ≡ true = eq-eqb _ 5 (shape_kind _ _ e) in
          rw (← k) (symmetric_leaf (y_at s t) (omega arith) i (λ c. true≢false (sym (and_both _ _ five (eq-eqb _ 7 c)) ∙ h)))
      go (compound (encryption asymmetric)) e (_, (b, i)) =
          let (c, _) = by_inverse (found_inverse s (y_at s t)) (x_at s t) (rw (shape_record s t (compound (encryption asymmetric)) e) at f) in
          inverse_leaf (y_at s t) key (omega arith) c

  leaf_marked : (m : Marks) {k n : ℕ} {κ : Kind} → k < terms s → record_at s k ≡ leaf κ n → built s (reached_of m) k ≡ true → Reached m k
  leaf_marked m {k} l r f =
      ⊎_elim (λ a. (says_reached m k).0 a) (λ a. absurd (false≢true (rw r at a)))
      ((says_or (at (reached_of m) k) (parts_built (built s (reached_of m)) (record_at s k)) (says_true _) (says_true _)).0 (sym (built_eq s (reached_of m) (facts v).table.earlier k l) ∙ f))

  pub atom_keys : (m : Marks) → any (has_hash_key s) (terms s) ≡ false → KeysMarked s m
  atom_keys m h = record {
    is = λ t body key l f g.
        let (κ, n, r) = key_leaf t l ((any_false (has_hash_key s) (terms s)).0 h t l) f in
        leaf_marked m (with_listed v l f).1 r g;
  }

-- ---- the marks that are left
module _ {s : List ℕ} {m₀ : Marks} {o₀ : List ℕ} {m : Marks} {o : List ℕ} {start : List Bool} {e₀ e : ℕ} (v : TableRead s) (w : Entered s start m₀) (g₀ : Grown s m₀ o₀ e₀ m o e) where
  pub left_start : (n : ℕ) → n < terms s → (mark_of m n ≡ start_mark) ↔ (at start n ≡ true)
  left_start n l = (
    λ f. w.only n (started (g₀.fewer n f)),
    λ f. let x = w.holds n l f in g₀.kept n (started x) ∙ x,
  )

  left_reached : (n : ℕ) → n < terms s → Reached m n → Deducible (Marked s start) (term s n)
  left_reached n l f =
      deducible_trans (λ u (k, c, (a, b)). ([], (k, c, (w.only k ((says_reached m₀ k).0 a), b)))) (g₀.sound.reached n l f)

  module _ (a : OpenTo s m o e) (k : KeysMarked s m) where
    closed : (i n : ℕ) → i < terms s → Reached m i → gives s (reached_of m) (record_at s i) n ≡ true → Reached m n
    closed i n l f g = go (opening_of s i) refl (sym (opening_gives v l (reached_of m) n) ∙ g)
      where
        q : Queue s m o e
        q = g₀.queue

        go : (z : Maybe Opening) → opening_of s i ≡ z → given s (reached_of m) z n ≡ true → Reached m n
        go (Some (Freely x y)) r h =
            let (mx, my) = a.freely i x y (q.listed i l f) r in
            ⊎_elim (λ c. rw c mx) (λ c. rw c my) ((says_or (eqb n x) (eqb n y) (says_eqb n x) (says_eqb n y)).0 h)
        go (Some (With body key)) r h =
            let (c, b) = (says_and (eqb n body) (built s (reached_of m) key) (says_eqb n body) (says_true _)).0 h in
            rw c (a.opened i body key (q.listed i l f) (q.listed key (with_listed v l r).1 (k.is i body key l r b)) r)
        go None r h = absurd (false≢true h)

    pub left_worked : Worked s start m o e
    left_worked = record {
      queue = g₀.queue;
      exact = record {
        is = built_is_deducible (facts v) start (reached_of m) (record {
          holds = λ n b f. (says_reached m n).1 (started ((left_start n b).1 f));
          reached = λ n b f. (reach_iff (Marked s start) (term s n)).1 (left_reached n b ((says_reached m n).0 f));
          closed = λ i n b c f g. (says_reached m n).1 (closed i n b ((says_reached m i).0 f) g);
        });
      };
      from_start = left_start;
    }

-- ---- the returns of `saturate`
pub open_none : {s : List ℕ} {m : Marks} {o : List ℕ} → OpenTo s m o 0
open_none = record { freely = λ t x y (k, b, _). absurd (omega arith); opened = λ t body key (k, b, _). absurd (omega arith) }

module _ {s : List ℕ} {m : Marks} {o : List ℕ} {m₁ : Marks} {o₁ : List ℕ} {start : List Bool} {e e₁ : ℕ} (v : TableRead s) (w : Entered s start m) (g : Grown s m o e m₁ o₁ e₁) where
  -- no compound term is a key
  pub saturated_atoms : {b : Bool} → OpenTo s m₁ o₁ e₁ → b ≡ any (has_hash_key s) (terms s) → b ≡ false → Worked s start m₁ o₁ e₁
  saturated_atoms a h f = left_worked v w g a (atom_keys v m₁ (sym h ∙ f))

  pub saturated_composed : {m₂ : Marks} {o₂ : List ℕ} {e₂ : ℕ} → Grown s m₁ o₁ e₁ m₂ o₂ e₂ → OpenTo s m₂ o₂ e₂ → ComposedTo s m₂ o₂ e₂ → Worked s start m₂ o₂ e₂
  saturated_composed g₂ a c = left_worked v w (grown_trans g g₂) a (composed_keys v g₂.queue c)

-- ---- every term that can be built
module _ {s : List ℕ} {m : Marks} {o : List ℕ} {t end : ℕ} {p : Maybe (ℕ × ℕ)} (v : TableRead s) (l : t < terms s) (c : p ≡ parts_of (record_at s t)) (q : Queue s m o end) where
  pub built_atom : p ≡ None → BuiltOne s t m o end m o end
  built_atom e = record {
    grown = grown_none q;
    gave = λ x y f. absurd (let z : None ≡ Some (x, y) = sym e ∙ c ∙ f in let w : ◌≡◌ {A = ℕ} 0 1 = cc in omega arith);
    only = λ n a. inl a;
  }

  module _ {x y w : ℕ} (e : p ≡ Some (x, y)) (f : w ≡ x) where
    the_parts : (x' y' : ℕ) → parts_of (record_at s t) ≡ Some (x', y') → (x ≡ x') × (y ≡ y')
    the_parts x' y' g = same_parts (sym e ∙ c ∙ g)

    pub built_now : {m' : Marks} {o' : List ℕ} {r : ℕ} → Reached m w → PushedWith t (Record t) y m o end m' o' r → BuiltOne s t m o end m' o' r
    built_now d i = record {
      grown = with_grown y t v q l i l (λ a. from_parts x y refl (sym c ∙ e) (rw f at d) a);
      gave = λ x' y' g a b. with_here y t v q l i (rw (← (the_parts x' y' g).1) at b);
      only = λ n a. ⊎_elim (λ (_, j). pushed_only _ v q l j n a) (λ (_, j, _, _). inl (rw j at a)) i;
    }

-- the loop of `build_all`
pub record Building (s : List ℕ) (m₀ : Marks) (o₀ : List ℕ) (e₀ : ℕ) (m : Marks) (o : List ℕ) (e i : ℕ) : Type 0 where
  pub within : i ≤ terms s
  pub grown : Grown s m₀ o₀ e₀ m o e
  pub closed : BuildClosed s m i

pub building_none : {s : List ℕ} {m : Marks} {o : List ℕ} {e : ℕ} → Queue s m o e → Building s m o e m o e 0
building_none q = record { within = omega arith; grown = grown_none q; closed = record { is = λ t x y b. absurd (omega arith) } }

module _ {s : List ℕ} {m₀ : Marks} {o₀ : List ℕ} {m : Marks} {o : List ℕ} {e₀ e i n : ℕ} (p : Building s m₀ o₀ e₀ m o e i) (k : n ≡ terms s) where
  pub building_more : {m' : Marks} {o' : List ℕ} {e' : ℕ} → i < n → TableRead s → BuiltOne s i m o e m' o' e' → Building s m₀ o₀ e₀ m' o' e' (i + 1)
  building_more {m'} b v u = record {
    within = omega arith;
    grown = grown_trans p.grown u.grown;
    closed = record {
      is = λ t x y c f a a'.
          let l : t < terms s = omega arith in
          let (bx, by) = (both_parts (record_at s t) f).0 t ((facts v).table.earlier t l) in
          let before : (j : ℕ) → j < i → Reached m' j → Reached m j = λ j d r. ⊎_elim (λ z. z) (λ z. absurd (omega arith)) (u.only j r) in
          ⊎_elim
          (λ d. u.grown.sound.holds t l (p.closed.is t x y d f (before x (omega arith) a) (before y (omega arith) a')))
          (λ d.
          let z : t ≡ i = omega arith in
          let g : parts_of (record_at s i) ≡ Some (x, y) = rw z at f in
          rw z (u.gave x y g (before x (omega arith) a) (before y (omega arith) a'))) (lt_or_ge t i);
    };
  }

  pub building_end : n ≤ i → BuiltAll s m₀ o₀ e₀ m o e
  building_end b = let z : i ≡ terms s = omega (arith, p.within) in record { grown = p.grown; closed = rw z at p.closed }

-- ---- the returns of `reach_all`
pub all_reached : {s : List ℕ} {m : Marks} {o : List ℕ} {m' : Marks} {o' : List ℕ} {start : List Bool} {e e' : ℕ} → TableRead s → Worked s start m o e → BuiltAll s m o e m' o' e' → AllReached s start m' o' e'
all_reached {s} {m} {m' = m'} {start} v w b = record {
  queue = b.grown.queue;
  exact = λ n l. (
    λ r. (deducible_from_iff (facts v) start n l).1 (deducible_trans from (b.grown.sound.reached n l r)),
    λ d. built_marked m v (λ k c a. b.grown.sound.holds k c a) b.closed n l (w.exact.is n l ∙ d),
  );
  from_start = λ n l. (
    λ f. (w.from_start n l).0 (b.grown.fewer n f),
    λ f. let x = (w.from_start n l).1 f in b.grown.kept n (started x) ∙ x,
  );
}
  where
    from : (u : TermTree) → Marked s (reached_of m) u → Deducible (Marked s start) u
    from u (k, c, (a, f)) =
        let g : built s (reached_of m) k ≡ true = built_eq s (reached_of m) (facts v).table.earlier k c ∙ or_left _ _ a in
        rw f ((deducible_from_iff (facts v) start k c).0 (sym (w.exact.is k c) ∙ g))
