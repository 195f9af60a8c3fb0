-- The parts of the knowledge, marked from the last term down: the returns of `mark_parts`, and the loop of `known_parts`.
use mathlib.Core.Path.{◌≡◌, refl, sym, ap, ◌∙◌, subst}
use mathlib.Core.Logic.{◌⊎◌, inl, inr, ⊎_elim}
use mathlib.Core.Bool.{Bool, true, false, false≢true}
use mathlib.Core.List.{List}
use Prim.Native.Nat.{ℕ, ◌+◌, ◌-◌, ◌≤◌, ◌<◌}
use native.Mathlib.Decide.{ℕ_discrete}
use native.Mathlib.Omega.{arith}
use lib.ListN.{length, get_or, set, length-set}
use Rattle.base.proofs.Says.{true_or_false}
use Rattle.base.proofs.Order.{lt_or_ge}
use Rattle.term.specs.{Term.Term, Term.atom_kind, Term.Part, Term.Rec, Term.leaf, Term.branch, Term.node, Term.message, Number.head_of}
use Rattle.term.specs.Code.{Below}
use Rattle.term.proofs.Reduce.{part_self}
use Rattle.term.proofs.PartLaws.{part_trans, OfParts, part_listed}
use Rattle.submission.specs.Record.{terms, entries, entry_at, record_at, term}
use Rattle.submission.specs.Code.{TableRead, KnownPart}
use Rattle.deduction.specs.Computed.{entry_marks}
use Rattle.deduction.specs.Code.{SameMarks}
use Rattle.deduction.proofs.Theory.Exactness.{says_entry}
use Rattle.submission.proofs.Theory.ListedTerms.{facts}
use Rattle.base.proofs.Stores.{each_set}
use Rattle.machine.specs.declared.Node.{Node}
use mathlib.Core.Option.{some}
use Rattle.term.specs.declared.kind.Kind.{Kind as KindRead}
use Rattle.term.specs.Code.{kind_is}
use Rattle.machine.specs.declared.Head.TheVariants.{Atom, Word}
use Rattle.machine.specs.Code.{node_of, record_for, records_in, TermNodes, with_parts, treated, PartMarks}
use Rattle.machine.proofs.Theory.NodeRecords.{term_record}

-- ---- the returns of `mark_parts`
module _ (rec : ℕ → Rec) (l : List Bool) {t i : ℕ} (e : i ≡ t) where
  treated_marked : get_or l i false ≡ true → {r : Rec} → rec t ≡ r → with_parts r l ≡ treated rec t l
  treated_marked m f = let g : get_or l t false ≡ true = rw e at m in rw (g, f)

module _ (ns : List Node) (l : List Bool) {t i : ℕ} {v : Node} (e : i ≡ t) (f : v ≡ node_of ns t) where
  -- an atom's node, and that of a compound term
  leaf_at : {k : KindRead} → v.head ≡ Atom k → records_in ns t ≡ leaf (atom_kind (some (kind_is k))) v.left
  unfolding record_for
  leaf_at b = rw (← f, b)

  branch_at : {r : ℕ} → v.head ≡ Word r → records_in ns t ≡ branch (head_of r) v.left v.right
  unfolding record_for
  branch_at b = rw (← f, b)

  pub treated_atom : {k : KindRead} → get_or l i false ≡ true → v.head ≡ Atom k → l ≡ treated (records_in ns) t l
  treated_atom m b = treated_marked (records_in ns) l e m (leaf_at b)

  pub treated_parts : {x y r : ℕ} → get_or l i false ≡ true → v.head ≡ Word r → x ≡ v.left → y ≡ v.right → set (set l x true) y true ≡ treated (records_in ns) t l
  treated_parts m b g h = rw (g, h) (treated_marked (records_in ns) l e m (branch_at b))

  -- its parts have marks
  module _ {r : ℕ} (w : Below 256 (records_in ns t)) (b : v.head ≡ Word r) where
    parts_below : (v.left < 256) × (v.right < 256)
    parts_below = subst (Below 256) (branch_at b) w

    pub left_marks : {x : ℕ} → x ≡ v.left → x < 256
    left_marks g = rw g parts_below.0

    pub right_marks : {y : ℕ} → y ≡ v.right → y < 256
    right_marks g = rw g parts_below.1

-- ---- one more mark
module _ (l : List Bool) (t : ℕ) (b : t < length l) where
  mark_keeps : (n : ℕ) → get_or l n false ≡ true → get_or (set l t true) n false ≡ true
  mark_keeps n e = each_set false (λ k v. k ≡ n → v ≡ true) l t true b (λ _. refl) (λ k d x. rw x e) n refl

  mark_only : (n : ℕ) → get_or (set l t true) n false ≡ true → (n ≡ t) ⊎ (get_or l n false ≡ true)
  mark_only = each_set false (λ k v. v ≡ true → (k ≡ t) ⊎ (get_or l k false ≡ true)) l t true b (λ _. inl refl) (λ k d x. inr x)

  mark_here : get_or (set l t true) t false ≡ true
  mark_here = each_set false (λ k v. k ≡ t → v ≡ true) l t true b (λ _. refl) (λ k d x. absurd (d x)) t refl

-- ---- the loop of `known_parts`
-- The knowledge is marked, only what is part of it is, and so are the parts of the marked records from i on.
pub record PartsFrom (s : List ℕ) (i : ℕ) (l : List Bool) : Type 0 where
  pub long : length l ≡ 256
  pub holds : (r : ℕ) → r < entries s → get_or l (entry_at s r) false ≡ true
  pub known : (n : ℕ) → n < terms s → get_or l n false ≡ true → KnownPart s (term s n)
  pub closed : (k : ℕ) → i ≤ k → k < terms s → get_or l k false ≡ true → OfParts (λ n. get_or l n false ≡ true) (record_at s k)

pub parts_none : {s : List ℕ} {l : List Bool} {u n : ℕ} → TableRead s → length l ≡ 256 → SameMarks s l (entry_marks s) → u ≡ terms s → n ≡ u → PartsFrom s n l
parts_none {s} {l} w q m e f = record {
  long = q;
  holds = λ r b. let c = (facts w).entry_below r b in m.same _ c ∙ (says_entry s _ c).1 (r, b, refl);
  known = λ n b x. let (r, c, g) = (says_entry s n b).0 (sym (m.same n b) ∙ x) in (term s n, (r, c, ap (term s) (sym g)), part_self (term s n));
  closed = λ k a b x. absurd (omega arith);
}

part_of : (s : List ℕ) (x y : Term) → KnownPart s y → Part x y → KnownPart s x
part_of s x y (t, k, p) q = (t, k, part_trans x y t q p)

module _ {s : List ℕ} {l : List Bool} {i j : ℕ} (w : TableRead s) (p : PartsFrom s i l) (f : i ≡ j + 1) (b : j < terms s) where
  -- the record j is treated already: nothing changes
  parts_same : (get_or l j false ≡ true → OfParts (λ n. get_or l n false ≡ true) (record_at s j)) → PartsFrom s j l
  parts_same h = record { long = p.long; holds = p.holds; known = p.known; closed = λ k a c x. go k a c x (ℕ_discrete k j) }
    where
      go : (k : ℕ) → j ≤ k → k < terms s → get_or l k false ≡ true → Dec (k ≡ j) → OfParts (λ n. get_or l n false ≡ true) (record_at s k)
      go k a c x (yes e) = rw e (h (rw e at x))
      go k a c x (no d) = p.closed k (omega arith) c x

  parts_both : (r : Rec) → record_at s j ≡ r → get_or l j false ≡ true → PartsFrom s j (with_parts r l)
  parts_both (leaf κ n) e m = parts_same (λ _. rw e tt)
  parts_both (branch h x y) e m = record {
    long = length-set (set l x true) y true ∙ length-set l x true ∙ p.long;
    holds = λ r c. keep _ (p.holds r c);
    known = λ n c u. ⊎_elim (λ v. subst (λ k. KnownPart s (term s k)) (sym v) in_right) (λ u. ⊎_elim (λ v. subst (λ k. KnownPart s (term s k)) (sym v) in_left) (p.known n c) (mark_only l x low n u)) (mark_only (set l x true) y high n u);
    closed = λ k a c u. go k a c u (ℕ_discrete k j);
  }
    where
      below : (x < j) × (y < j)
      below = subst (Below j) e ((facts w).table.earlier j b)

      small : terms s ≤ 250
      small = (facts w).terms_most

      low : x < length l
      low = omega (arith, p.long, below.0, small)

      high : y < length (set l x true)
      high = omega (arith, length-set l x true, p.long, below.1, small)

      keep : (n : ℕ) → get_or l n false ≡ true → get_or (set (set l x true) y true) n false ≡ true
      keep n u = mark_keeps (set l x true) y high n (mark_keeps l x low n u)

      reads : term s j ≡ node h (term s x) (term s y)
      reads = (facts w).table.reads j b ∙ ap (message (term s)) e

      in_left : KnownPart s (term s x)
      in_left = part_of s _ _ (p.known j b m) (subst (Part (term s x)) (sym reads) (inr (inl (part_self (term s x)))))

      in_right : KnownPart s (term s y)
      in_right = part_of s _ _ (p.known j b m) (subst (Part (term s y)) (sym reads) (inr (inr (part_self (term s y)))))

      all_keep : (r : Rec) → OfParts (λ n. get_or l n false ≡ true) r → OfParts (λ n. get_or (set (set l x true) y true) n false ≡ true) r
      all_keep (leaf κ n) o = tt
      all_keep (branch g u v) o = (keep u o.0, keep v o.1)

      old : (k : ℕ) → i ≤ k → get_or (set (set l x true) y true) k false ≡ true → get_or l k false ≡ true
      old k a u =
          ⊎_elim (λ v. absurd (omega (arith, below.1))) (λ u. ⊎_elim (λ v. absurd (omega (arith, below.0))) (λ z. z) (mark_only l x low k u)) (mark_only (set l x true) y high k u)

      go : (k : ℕ) → j ≤ k → k < terms s → get_or (set (set l x true) y true) k false ≡ true → Dec (k ≡ j) → OfParts (λ n. get_or (set (set l x true) y true) n false ≡ true) (record_at s k)
      go k a c u (yes z) = rw (z, e) (mark_keeps (set l x true) y high x (mark_here l x low), mark_here (set l x true) y high)
      go k a c u (no z) = all_keep (record_at s k) (p.closed k (omega arith) c (old k (omega arith) u))

module _ {s : List ℕ} {ns : List Node} (w : TableRead s) (z : TermNodes s ns) where
  pub parts_fit : {lowest i j : ℕ} → lowest < i → i ≤ terms s → j ≡ i - 1 → Below 256 (records_in ns j)
  parts_fit {lowest} {i} {j} a c e = let b : j < terms s = omega arith in subst (Below 256) (sym (term_record z j b)) (go (record_at s j) ((facts w).table.earlier j b))
    where
      go : (r : Rec) → Below j r → Below 256 r
      go (leaf κ n) d = tt
      go (branch h x y) d = (omega (arith, c, e, d.0, (facts w).terms_most), omega (arith, c, e, d.1, (facts w).terms_most))

  pub parts_more : {l l' : List Bool} {lowest i j : ℕ} → PartsFrom s i l → lowest < i → i ≤ terms s → j ≡ i - 1 → l' ≡ treated (records_in ns) j l → PartsFrom s j l'
  parts_more {l} {l'} {lowest} {i} {j} p a b e f = rw f (go (true_or_false (get_or l j false)))
    where
      go : (get_or l j false ≡ true) ⊎ (get_or l j false ≡ false) → PartsFrom s j (treated (records_in ns) j l)
      go (inl t) = rw t (parts_both w p (omega arith) (omega arith) (records_in ns j) (sym (term_record z j (omega arith))) t)
      go (inr t) = rw t (parts_same w p (omega arith) (omega arith) (λ m. absurd (false≢true (sym t ∙ m))))

pub term_fits : {s : List ℕ} {lowest i j : ℕ} → TableRead s → lowest < i → i ≤ terms s → j ≡ i - 1 → j < 256
term_fits w a b e = omega (arith, (facts w).terms_most)

pub parts_all : {s : List ℕ} {l : List Bool} {lowest i : ℕ} → TableRead s → PartsFrom s i l → i ≤ lowest → PartMarks s lowest l
parts_all {s} {l} {lowest} {i} w p z = record { long = p.long; known = p.known; whole = marked_from }
  where
    -- a term before the lowest one of interest, or a marked one: so are its parts
    goes_on : (k : ℕ) → k < terms s → (k < lowest) ⊎ (get_or l k false ≡ true) → OfParts (λ n. (n < lowest) ⊎ (get_or l n false ≡ true)) (record_at s k)
    goes_on k b m = go (record_at s k) ((facts w).table.earlier k b) (lt_or_ge k lowest) (λ c x. p.closed k (omega arith) b x)
      where
        go : (r : Rec) → Below k r → (k < lowest) ⊎ (lowest ≤ k) → (lowest ≤ k → get_or l k false ≡ true → OfParts (λ n. get_or l n false ≡ true) r) → OfParts (λ n. (n < lowest) ⊎ (get_or l n false ≡ true)) r
        go (leaf κ n) d c f = tt
        go (branch h x y) d (inl c) f = (inl (omega (arith, d.0)), inl (omega (arith, d.1)))
        go (branch h x y) d (inr c) f = let o = f c (⊎_elim (λ a. absurd (omega arith)) (λ a. a) m) in (inr o.0, inr o.1)

    marked_from : (n : ℕ) → n < terms s → lowest ≤ n → KnownPart s (term s n) → get_or l n false ≡ true
    marked_from n b c (t, (r, d, e), q) =
        let (k, a, (m, f)) = part_listed (facts w).table (λ n. (n < lowest) ⊎ (get_or l n false ≡ true)) goes_on (term s n) (entry_at s r) ((facts w).entry_below r d) (inr (p.holds r d)) (subst (Part (term s n)) e q) in
        let g : k ≡ n = (facts w).same_number k n a b (sym f) in
        ⊎_elim (λ x. absurd (omega arith)) (λ x. rw g at x) m
