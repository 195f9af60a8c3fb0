-- Whether the guess's atom, or its inverse, is part of the knowledge: the returns of `is_stale`.
use mathlib.Core.Path.{◌≡◌, refl, sym, ap, ◌∙◌, subst}
use mathlib.Core.Logic.Iff
use mathlib.Core.Logic.{◌↔◌, ◌⊎◌, inl, inr, ⊎_elim}
use mathlib.Core.Bool.{Bool, false, false≢true}
use mathlib.Core.List.{List}
use Prim.Native.Nat.{ℕ, ◌≤◌, ◌<◌, min}
use native.Mathlib.Omega.{arith}
use Rattle.base.proofs.Says.{Says, says_or, denies, same_test}
use Rattle.term.specs.Term.{Kind, plain, public, private, other_kind, atom, leaf, message}
use Rattle.term.proofs.Table.{leaf_of}
use Rattle.submission.proofs.Theory.ListedTerms.{claim_facts}
use Rattle.submission.specs.Record.{terms, guess, name_at, record_at, term, guessed}
use Rattle.submission.specs.Code.{SubmissionRead, KnownPart}
use Rattle.submission.proofs.{PassedChecks.table_passed, Theory.StaleTests.listed_part}
use Rattle.submission.specs.Code.{TableRead}
use Rattle.machine.specs.declared.Node.{Node}
use Rattle.std.specs.Prelude.{Option as Maybe, Some, None}
use Rattle.std.specs.Option.{unwrap_or}
use Rattle.machine.specs.Run.{StaleName}
use Rattle.machine.specs.Computed.{is_stale_name}
use Rattle.machine.specs.Code.{record_for, node_for, node_of, Finds, guess_node, inverse_node, TermNodes, PartMarks, is_marked, SomeMarked}
use Rattle.machine.proofs.Theory.NodeRecords.{atom_record, record_node}
use Rattle.machine.proofs.Theory.StartState.{atom_node, guess_atom}
use Rattle.machine.proofs.Theory.RunAnswer.{says_stale_name}

-- ---- the number of an atom's node is that of the atom
module _ {s : List ℕ} {ns : List Node} (w : SubmissionRead s) (z : TermNodes s ns) (κ : Kind) (name : ℕ) where
  says_node : (k : ℕ) → k < terms s → (node_of ns k ≡ atom_node κ name) ↔ (term s k ≡ atom κ name)
  says_node k b =
      let t = (claim_facts w).read.table in (
        λ f.
            let g : record_at s k ≡ leaf κ name = sym (record_node (record_at s k)) ∙ ap record_for (sym (z.is k b) ∙ f) ∙ atom_record κ name 0 in
            t.reads k b ∙ ap (message (term s)) g,
        λ e. z.is k b ∙ ap node_for (leaf_of t k b e),
      )

  module _ {n : ℕ} (c : n ≡ terms s) where
    at_term : (k : ℕ) → Finds ns (atom_node κ name) 0 n (Some k) → (k < terms s) × (term s k ≡ atom κ name)
    at_term k (_, l, f, _) = let b : k < terms s = omega arith in (b, (says_node k b).0 f)

    at_none : Finds ns (atom_node κ name) 0 n None → (k : ℕ) → k < terms s → term s k ≡ atom κ name → ⊥
    at_none h k b f = h k (omega arith) (omega arith) ((says_node k b).1 f)

    says_found : {lowest : ℕ} {l : List Bool} (o : Maybe ℕ) → Finds ns (atom_node κ name) 0 n o → PartMarks s lowest l → lowest ≤ unwrap_or o n → Says (is_marked l o) (KnownPart s (atom κ name))
    says_found {lowest} {l} (Some k) e p low =
        let (b, f) = at_term k e in
        (λ m. subst (KnownPart s) f (p.known k b m), λ q. p.whole k b low (subst (KnownPart s) (sym f) q))
    says_found None e p low = (λ t. absurd (false≢true t), λ q. let (j, a, g) = listed_part (claim_facts w).read q in absurd (at_none e j a (sym g)))

    -- an atom that is not listed is part of nothing
    unlisted : (o : Maybe ℕ) → Finds ns (atom_node κ name) 0 n o → n ≤ unwrap_or o n → KnownPart s (atom κ name) → ⊥
    unlisted (Some k) e t q = let (b, f) = at_term k e in omega arith
    unlisted None e t q = let (j, a, g) = listed_part (claim_facts w).read q in at_none e j a (sym g)

inverse_atom : (κ : Kind) (name : ℕ) → inverse_node (atom_node κ name) ≡ atom_node (other_kind κ) name
inverse_atom plain name = refl
inverse_atom public name = refl
inverse_atom private name = refl

-- ---- the returns of `is_stale`
pub table_read : {s : List ℕ} → SubmissionRead s → TableRead s
table_read {s} w = table_passed s w.bytes w.passed

pub terms_fit : {s : List ℕ} {n : ℕ} → SubmissionRead s → n ≡ terms s → n ≤ 384
terms_fit w e = omega (arith, (claim_facts w).read.terms_most)

module _ {s : List ℕ} (v : Node) (w : SubmissionRead s) {m : ℕ} (own_is : m ≡ name_at s (guess s)) where
  pub own_name : m ≡ v.left → false ≡ is_stale_name s v.left
  own_name h = sym ((denies _ (says_stale_name s v.left)).1 (λ (d, _). d (sym h ∙ own_is)))

  module _ (d : m ≡ v.left → ⊥) {ns : List Node} (z : TermNodes s ns) (q : v ≡ guess_node s v.left) (found other : Maybe ℕ) {n : ℕ}
      (x : Finds ns v 0 n found) (c : n ≡ terms s) (y : Finds ns (inverse_node v) 0 n other) where
    abbrev κ : Kind
    κ = (claim_facts w).guess_kind

    is_atom : v ≡ atom_node κ v.left
    is_atom = q ∙ guess_atom w v.left

    guessed_is : guessed s v.left ≡ atom κ v.left
    unfolding guessed
    guessed_is = rw (claim_facts w).guess_shape

    found_is : Finds ns (atom_node κ v.left) 0 n found
    found_is = subst (λ z. Finds ns z 0 n found) is_atom x

    other_is : Finds ns (atom_node (other_kind κ) v.left) 0 n other
    other_is = subst (λ z. Finds ns z 0 n other) (ap inverse_node is_atom ∙ inverse_atom κ v.left) y

    -- the name is stale where the atom or its inverse is part of the knowledge
    stale_iff : (KnownPart s (atom κ v.left) ⊎ KnownPart s (atom (other_kind κ) v.left)) ↔ StaleName s v.left
    stale_iff = rw guessed_is (
      ⊎_elim (λ (t, k, p). (other_name, (t, k, inl p))) (λ (t, k, p). (other_name, (t, k, inr p))),
      λ (_, (t, k, p)). ⊎_elim (λ i. inl (t, k, i)) (λ i. inr (t, k, i)) p,
    )
      where
        other_name : v.left ≡ name_at s (guess s) → ⊥
        other_name h = d (own_is ∙ sym h)

    module _ {i j lowest : ℕ} (h : i ≡ unwrap_or found n) (k : j ≡ unwrap_or other n) (l : lowest ≡ min i j) where
      low : (lowest ≤ i) × (lowest ≤ j)
      low = (omega arith, omega arith)

      pub stale_marked : {r : Bool} → SomeMarked s lowest found other r → r ≡ is_stale_name s v.left
      stale_marked p =
          p.is ∙ same_test _ _ (Iff.trans (says_or _ _ (says_found w z κ v.left c found found_is p.parts (rw (← h) low.0)) (says_found w z (other_kind κ) v.left c other other_is p.parts (rw (← k) low.1))) stale_iff) (says_stale_name s v.left)

      pub stale_unlisted : n ≤ lowest → false ≡ is_stale_name s v.left
      stale_unlisted t = sym ((denies _ (says_stale_name s v.left)).1 (λ a.
          ⊎_elim (unlisted w z κ v.left c found found_is (rw (← h) (omega (arith, low.0)))) (unlisted w z (other_kind κ) v.left c other other_is (rw (← k) (omega (arith, low.1)))) (stale_iff.1 a)))
