-- The computed answer is exact: from any marks a term number is called deducible exactly when a finite list of steps reaches its term
-- from the terms that are marked. The knowledge is one such start.
use mathlib.Core.Path.{◌≡◌, refl, ap, ap₂, sym, ◌∙◌, subst}
use mathlib.Core.Logic.{◌↔◌, ⊎_elim}
use mathlib.Core.Bool.{Bool, true, false, ◌&&◌, ◌||◌, false≢true}
use mathlib.Core.List.{List, []}
use Prim.Native.Nat.{ℕ, zero, suc, ◌<◌}
use lib.Dec.{eqb}
use lib.ListN.{length}
use borrow.Author.Tests.{eq-eqb}
use Rattle.base.specs.Words.{listed}
use Rattle.base.proofs.Says.{Says, says_eqb, says_and, says_or, says_any, says_true, same_test}
use Rattle.base.proofs.BoolLaws.{or_left, or_right, and_both}
use Rattle.base.proofs.Grow.{length_listed, listed_at}
use Rattle.term.specs.Term.{Cipher, symmetric, asymmetric, left, right, pair, hash, encryption, Head, make, part, decrypt, Term, node, Match, Rec, leaf, branch}
use Rattle.term.specs.Step.{Deducible}
use Rattle.term.proofs.Reduce.{picked, match_sym, key_is_atom}
use Rattle.term.proofs.Reach.{Reach, known, reach_part, reach_opened, reach_reach, reach_iff}
use Rattle.term.proofs.Deducibility.{Built, Analysed, built_reach, built_atom, reach_is_built}
use Rattle.term.proofs.Table.{branch_of, node_of, part_below}
use Rattle.term.proofs.Marks.{rounds_keep, rounds_sound, rounds_closed}
use Rattle.submission.specs.{Record.terms, Record.entries, Record.entry_at, Record.record_at, Computed.are_inverse, Record.term, Record.InKnowledge}
use Rattle.submission.proofs.Theory.ListedTerms.{Listed}
use Rattle.deduction.specs.Computed.{at, built, opens, gives, taken, round, is_entry, entry_marks, rounds, is_deducible, Marked}
use Rattle.deduction.specs.Code.{SameMarks}
use Rattle.deduction.proofs.Theory.BuildTestLaws.{same_built, says_built}
use Rattle.base.specs.Computed.{any}

-- ---- taking apart
module _ {s : List ℕ} (z : Listed s) (m : List Bool) where
  says_opens : (c : Cipher) (k : ℕ) → k < terms s → Says (opens c s m k) ((j : Term) × Match c (term s k) j × Built (Marked s m) j)
  says_opens symmetric k l = (
    λ e. (term s k, refl, (says_built z m k l).0 e),
    λ (j, u, x). (says_built z m k l).1 (subst (Built (Marked s m)) u x),
  )
  says_opens asymmetric k l =
      let w = says_any (λ j. are_inverse s k j && built s m j) (terms s) (λ j o. says_and _ _ (z.inverse_iff k j l o) (says_built z m j o)) in (
        λ e. let (j, o, (u, x)) = w.0 e in (term s j, u, x),
        λ (j, u, x).
            let (n, o, (f, g)) = built_atom (key_is_atom j (match_sym asymmetric (term s k) j u).0) x in
            w.1 (n, o, (subst (Match asymmetric (term s k)) g u, subst (Built (Marked s m)) g x)),
      )

  -- what is taken from a reached term is listed, and reached where the marked ones are
  pub gives_reached : {K : Term → Type 0} → ((n : ℕ) → n < terms s → at m n ≡ true → Reach K (term s n)) →
      (i n : ℕ) → i < terms s → Reach K (term s i) → gives s m (record_at s i) n ≡ true → (n < terms s) × Reach K (term s n)
  gives_reached {K} f i n l at_i = go (record_at s i) refl
    where
      whole : {h : Head} {x y : ℕ} → record_at s i ≡ branch h x y → Reach K (node h (term s x) (term s y))
      whole r = subst (Reach K) (node_of z.table i l r) at_i

      go : (r : Rec) → record_at s i ≡ r → gives s m r n ≡ true → (n < terms s) × Reach K (term s n)
      go (leaf κ x) r g = absurd (false≢true g)
      go (branch (make pair) x y) r g =
          let (a, b) = part_below z.table i l r in
          ⊎_elim (λ q. rw q (a, reach_part left (whole r))) (λ q. rw q (b, reach_part right (whole r)))
          ((says_or (eqb n x) (eqb n y) (says_eqb n x) (says_eqb n y)).0 g)
      go (branch (make hash) x y) r g = absurd (false≢true g)
      go (branch (part j) x y) r g = absurd (false≢true g)
      go (branch (make (encryption c)) x k) r g =
          let (a, b) = part_below z.table i l r in
          let (q, (j, u, o)) = (says_and (eqb n x) (opens c s m k) (says_eqb n x) (says_opens c k b)).0 g in
          rw q (a, reach_opened c (whole r) u (built_reach (λ t (v, d, (p, w)). rw w (f v d p)) o))
      go (branch (decrypt c) x y) r g = absurd (false≢true g)

-- ---- marks that are as they should be when nothing more is to be marked
pub record Saturated (s : List ℕ) (start m : List Bool) : Type 0 where
  pub holds : (n : ℕ) → n < terms s → at start n ≡ true → at m n ≡ true
  pub reached : (n : ℕ) → n < terms s → at m n ≡ true → Reach (Marked s start) (term s n)
  pub closed : (i n : ℕ) → i < terms s → n < terms s → at m i ≡ true → gives s m (record_at s i) n ≡ true → at m n ≡ true

module _ {s : List ℕ} (z : Listed s) (start m : List Bool) (w : Saturated s start m) where
  analysed : Analysed (Marked s start) (Marked s m)
  analysed = record {
    holds = λ t (n, l, (f, g)). (n, l, (w.holds n l f, g));
    reached = λ t (n, l, (f, g)). rw g (w.reached n l f);
    taken = λ i x y (n, l, (f, g)).
        let (j, k, r, p, q) = branch_of z.table n l (sym g) in
        let (a, b) = part_below z.table n l r in
        picked (Marked s m) i
        (j, a, (w.closed n j l a f (rw r (or_left (eqb j j) (eqb j k) (eq-eqb j j refl))), sym p))
        (k, b, (w.closed n k l b f (rw r (or_right (eqb k j) (eqb k k) (eq-eqb k k refl))), sym q));
    opened = λ c x k j (n, l, (f, g)) u b.
        let (i, o, r, p, q) = branch_of z.table n l (sym g) in
        let (a, d) = part_below z.table n l r in
        let v = (says_opens z m c o d).1 (j, subst (λ y. Match c y j) (sym q) u, b) in
        (i, a, (w.closed n i l a f (rw r (and_both (eqb i i) (opens c s m o) (eq-eqb i i refl) v)), sym p));
  }

  -- however they were found, the terms that can be built from such marks are those deducible from the marks at the start
  closed_exact : (n : ℕ) → n < terms s → (built s m n ≡ true) ↔ Deducible (Marked s start) (term s n)
  closed_exact n l =
      let b = says_built z m n l in
      let r = reach_is_built analysed (term s n) in
      let d = reach_iff (Marked s start) (term s n) in
      (λ e. d.0 (r.1 (b.0 e)), λ x. b.1 (r.0 (d.1 x)))

-- ---- the rounds
says_taken : (s : List ℕ) (m : List Bool) (n : ℕ) →
    Says (taken s m n) ((i : ℕ) × (i < terms s) × ((at m i ≡ true) × (gives s m (record_at s i) n ≡ true)))
says_taken s m n =
    says_any (λ i. at m i && gives s m (record_at s i) n) (terms s) (λ i l. says_and (at m i) (gives s m (record_at s i) n) (says_true _) (says_true _))

round_at : (s : List ℕ) (m : List Bool) (n : ℕ) → n < terms s → at (round s m) n ≡ (at m n || taken s m n)
unfolding round
round_at s m n l = listed_at (λ k. at m k || taken s m k) n (terms s) false l

-- ---- only the marks of terms count
same_any : (p q : ℕ → Bool) (n : ℕ) → ((k : ℕ) → k < n → p k ≡ q k) → any p n ≡ any q n
same_any p q n f =
    same_test (any p n) (any q n) (says_any p n (λ k l. says_true (p k))) (says_any q n (λ k l. (λ e. f k l ∙ e, λ e. sym (f k l) ∙ e)))

module _ {s : List ℕ} (z : Listed s) where
  module _ {m m' : List Bool} (e : SameMarks s m m') where
    alike : (n : ℕ) → n < terms s → built s m n ≡ built s m' n
    alike = same_built s m z.table.earlier e

    same_opens : (c : Cipher) (k : ℕ) → k < terms s → opens c s m k ≡ opens c s m' k
    same_opens symmetric k l = alike k l
    same_opens asymmetric k l = same_any _ _ (terms s) (λ j o. ap (λ b. are_inverse s k j && b) (alike j o))

    same_gives : (i n : ℕ) → i < terms s → gives s m (record_at s i) n ≡ gives s m' (record_at s i) n
    same_gives i n l = go (record_at s i) refl
      where
        go : (r : Rec) → record_at s i ≡ r → gives s m r n ≡ gives s m' r n
        go (leaf κ x) r = refl
        go (branch (make pair) x y) r = refl
        go (branch (make hash) x y) r = refl
        go (branch (part j) x y) r = refl
        go (branch (make (encryption c)) x k) r = ap (λ b. eqb n x && b) (same_opens c k (part_below z.table i l r).1)
        go (branch (decrypt c) x y) r = refl

    same_round : SameMarks s (round s m) (round s m')
    same_round = record {
      same = λ n l.
          round_at s m n l
          ∙ ap₂ ◌||◌ (e.same n l) (same_any _ _ (terms s) (λ i o. ap₂ ◌&&◌ (e.same i o) (same_gives i n o)))
          ∙ sym (round_at s m' n l);
    }

  same_rounds : {m m' : List Bool} → SameMarks s m m' → (i : ℕ) → SameMarks s (rounds s m i) (rounds s m' i)
  unfolding rounds
  same_rounds e zero = e
  same_rounds e (suc i) = same_round (same_rounds e i)

  pub same_start : {m m' : List Bool} → SameMarks s m m' → (n : ℕ) → n < terms s → is_deducible s m n ≡ is_deducible s m' n
  unfolding is_deducible
  same_start e n l = alike (same_rounds e _) n l

-- ---- the marks that `rounds` gives
-- the marks of m below T
cut : List ℕ → List Bool → List Bool
cut s m = listed (at m) (terms s)

cut_same : (s : List ℕ) (m : List Bool) → SameMarks s m (cut s m)
unfolding cut
cut_same s m = record { same = λ n l. sym (listed_at (at m) n (terms s) false l) }

module _ {s : List ℕ} (z : Listed s) (m : List Bool) where
  marks : ℕ → List Bool
  marks = rounds s (cut s m)

  marks_length : length (marks 0) ≡ terms s
  unfolding marks rounds cut
  marks_length = length_listed (at m) (terms s)

  marks_next : (i : ℕ) → marks (suc i) ≡ listed (λ n. at (marks i) n || taken s (marks i) n) (terms s)
  unfolding marks rounds round
  marks_next i = refl

  marks_first : (n : ℕ) → n < terms s → at m n ≡ at (marks 0) n
  unfolding marks rounds
  marks_first = (cut_same s m).same

  rounds_saturated : Saturated s m (marks (terms s))
  rounds_saturated = record {
    holds = λ n l e. rounds_keep (terms s) (taken s) marks marks_length marks_next (terms s) n l (sym (marks_first n l) ∙ e);
    reached = rounds_sound (terms s) (taken s) marks marks_length marks_next (λ n. Reach (Marked s m) (term s n))
        (λ n l e. known (n, l, (marks_first n l ∙ e, refl)))
        (λ k f n l e. let (i, o, (p, g)) = (says_taken s k n).0 e in (gives_reached z k f i n o (f i o p) g).1) (terms s);
    closed = λ i n o l p g. rounds_closed (terms s) (taken s) marks marks_length marks_next n l ((says_taken s _ n).1 (i, o, (p, g)));
  }

  -- deducible as computed, from any marks, is deducible by a finite list of steps from the terms that are marked
  pub deducible_from_iff : (n : ℕ) → n < terms s → (is_deducible s m n ≡ true) ↔ Deducible (Marked s m) (term s n)
  unfolding is_deducible marks
  deducible_from_iff n l =
      let e = same_start z (cut_same s m) n l in
      let (f, g) = closed_exact z m (marks (terms s)) rounds_saturated n l in
      (λ d. f (sym e ∙ d), λ d. e ∙ g d)

  -- however a loop finds its marks, its answer is the computed one
  pub built_is_deducible : (k : List Bool) → Saturated s m k → (n : ℕ) → n < terms s → built s k n ≡ is_deducible s m n
  built_is_deducible k w n l = same_test _ _ (closed_exact z m k w n l) (deducible_from_iff n l)

-- ---- the knowledge
-- what is deducible from terms that are deducible is deducible
pub deducible_trans : {J K : Term → Type 0} → ((u : Term) → J u → Deducible K u) → {t : Term} → Deducible J t → Deducible K t
deducible_trans {J} {K} f {t} d = (reach_iff K t).0 (reach_reach (λ u j. (reach_iff K u).1 (f u j)) ((reach_iff J t).1 d))

pub says_entry : (s : List ℕ) (n : ℕ) → n < terms s → Says (at (entry_marks s) n) ((r : ℕ) × (r < entries s) × (entry_at s r ≡ n))
unfolding entry_marks
says_entry s n l =
    let e = listed_at (is_entry s) n (terms s) false l in
    let (f, g) = says_any (λ i. eqb (entry_at s i) n) (entries s) (λ i o. says_eqb (entry_at s i) n) in
    (λ b. f (sym e ∙ b), λ x. e ∙ g x)

module _ {s : List ℕ} (z : Listed s) where
  pub in_knowledge_iff : (t : Term) → InKnowledge s t ↔ Marked s (entry_marks s) t
  in_knowledge_iff t = (
    λ (r, l, e). let b = z.entry_below r l in (entry_at s r, b, ((says_entry s (entry_at s r) b).1 (r, l, refl), e)),
    λ (n, l, (f, g)). let (r, o, q) = (says_entry s n l).0 f in (r, o, g ∙ ap (term s) (sym q)),
  )

  -- deducible as computed, from the marks of the knowledge, is deducible from the knowledge
  pub deducible_iff : (n : ℕ) → n < terms s → (is_deducible s (entry_marks s) n ≡ true) ↔ Deducible (InKnowledge s) (term s n)
  deducible_iff n l =
      let (f, g) = deducible_from_iff z (entry_marks s) n l in (
        λ e. deducible_trans (λ u k. ([], (in_knowledge_iff u).1 k)) (f e),
        λ d. g (deducible_trans (λ u k. ([], (in_knowledge_iff u).0 k)) d),
      )
