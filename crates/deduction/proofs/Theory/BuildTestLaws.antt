-- The build test: the definition without its levels, and that it says what can be built from the marked terms.
use mathlib.Core.Path.{◌≡◌, refl, ap, ap₂, sym, ◌∙◌, subst}
use mathlib.Core.Logic.{⊎_elim}
use mathlib.Core.Bool.{Bool, true, ◌&&◌, ◌||◌, false≢true}
use mathlib.Core.List.{List}
use Prim.Native.Nat.{ℕ, zero, suc, ◌<◌}
use native.Mathlib.Omega.{arith}
use Rattle.base.proofs.BoolLaws.{or_left, or_right, and_both}
use Rattle.base.proofs.Says.{Says, says_and, says_or, says_true}
use Rattle.term.specs.Term.{make, Term, Rec, leaf, branch}
use Rattle.term.specs.Code.{Message, Below}
use Rattle.term.proofs.Deducibility.{Built, given, made, built_node}
use Rattle.term.proofs.Table.{branch_of, node_of, part_below}
use Rattle.submission.specs.Record.{terms, record_at, term}
use Rattle.submission.proofs.Theory.ListedTerms.{Listed}
use Rattle.deduction.specs.Computed.{at, parts_built, built_within, built, Marked}
use Rattle.deduction.specs.Code.{SameMarks}

-- ---- parts are earlier, so more levels change nothing
parts_same : (b b' : ℕ → Bool) (n : ℕ) (r : Rec) → Below n r → ((k : ℕ) → k < n → b k ≡ b' k) → parts_built b r ≡ parts_built b' r
parts_same b b' n (leaf κ x) l f = refl
parts_same b b' n (branch h x y) l f = ap₂ ◌&&◌ (f x l.0) (f y l.1)

module _ (s : List ℕ) (m : List Bool) (earlier : (n : ℕ) → n < terms s → Below n (record_at s n)) where
  levels : (f g n : ℕ) → n < f → n < g → n < terms s → built_within f s m n ≡ built_within g s m n
  unfolding built_within
  levels zero g n a b l = absurd (omega arith)
  levels (suc f) zero n a b l = absurd (omega arith)
  levels (suc f) (suc g) n a b l =
      ap (λ c. at m n || c) (parts_same _ _ n (record_at s n) (earlier n l) (λ k d. levels f g k (omega arith) (omega arith) (omega arith)))

  -- a term can be built when it is marked, or when its parts can be
  pub built_eq : (n : ℕ) → n < terms s → built s m n ≡ (at m n || parts_built (built s m) (record_at s n))
  unfolding built_within
  built_eq n l =
      ap (λ c. at m n || c) (parts_same _ _ n (record_at s n) (earlier n l) (λ k d. levels n (suc k) k d (omega arith) (omega arith)))

  -- only the marks of terms count
  module _ {m' : List Bool} (e : SameMarks s m m') where
    same_within : (fuel n : ℕ) → n < terms s → built_within fuel s m n ≡ built_within fuel s m' n
    unfolding built_within
    same_within zero n l = refl
    same_within (suc fuel) n l = ap₂ ◌||◌ (e.same n l) (parts_same _ _ n (record_at s n) (earlier n l) (λ k d. same_within fuel k (omega arith)))

    pub same_built : (n : ℕ) → n < terms s → built s m n ≡ built s m' n
    same_built n l = same_within (suc n) n l

-- ---- what the test says
module _ {s : List ℕ} (z : Listed s) (m : List Bool) where
  within_sound : (fuel n : ℕ) → n < terms s → built_within fuel s m n ≡ true → Built (Marked s m) (term s n)
  unfolding built_within
  within_sound zero n l e = absurd (false≢true e)
  within_sound (suc fuel) n l e =
      ⊎_elim (λ k. given (n, l, (k, refl))) (go (record_at s n) refl (within_sound fuel))
      ((says_or (at m n) (parts_built (built_within fuel s m) (record_at s n)) (says_true _) (says_true _)).0 e)
    where
      go : (r : Rec) → record_at s n ≡ r → ((k : ℕ) → k < terms s → built_within fuel s m k ≡ true → Built (Marked s m) (term s k)) →
          parts_built (built_within fuel s m) r ≡ true → Built (Marked s m) (term s n)
      go (leaf κ x) i ih f = absurd (false≢true f)
      go (branch h x y) i ih f =
          let (a, b) = part_below z.table n l i in
          let t = node_of z.table n l i in
          let (p, q) = (says_and (built_within fuel s m x) (built_within fuel s m y) (says_true _) (says_true _)).0 f in
          built_node h t (subst Message t (z.messages n l)).0 (ih x a p) (ih y b q)

  within_complete : (fuel n : ℕ) → n < fuel → n < terms s → {t : Term} → Built (Marked s m) t → t ≡ term s n → built_within fuel s m n ≡ true
  unfolding built_within
  within_complete zero n b l x e = absurd (omega arith)
  within_complete (suc fuel) n b l (given (k, o, (f, g))) e =
      let i : k ≡ n = z.same_number k n o l (sym g ∙ e) in
      or_left (at m n) _ (ap (at m) (sym i) ∙ f)
  within_complete (suc fuel) n b l (made w x y g i p q) e =
      let (j, k, r, f, f') = branch_of z.table n l (sym e ∙ i) in
      let under : Below n (branch (make w) j k) = subst (Below n) r (z.table.earlier n l) in
      let left = within_complete fuel j (omega arith) (omega arith) p (sym f) in
      let right = within_complete fuel k (omega arith) (omega arith) q (sym f') in
      or_right (at m n) _ (rw r (and_both _ _ left right))

  pub says_built : (n : ℕ) → n < terms s → Says (built s m n) (Built (Marked s m) (term s n))
  says_built n l = (within_sound (suc n) n l, λ x. within_complete (suc n) n (omega arith) l x refl)
