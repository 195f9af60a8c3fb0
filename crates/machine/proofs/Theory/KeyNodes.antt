-- Keys of opposite operations, by their nodes.
use mathlib.Core.Path.{◌≡◌, refl, sym, ap, ◌∙◌, subst}
use mathlib.Core.Bool.{Bool, true, false, false≢true}
use mathlib.Core.Logic.{◌⊎◌, inl, inr, ⊎_elim}
use Prim.Native.Nat.{ℕ, ◌<◌}
use lib.Dec.{eqb}
use borrow.Author.Tests.{eq-eqb, eqb-true}
use Rattle.base.proofs.Says.{Says, says_eqb, says_and, same_test}
use Rattle.term.specs.Term as words
use Rattle.term.specs.{Term.Kind, Term.plain, Term.public, Term.private, Term.other_kind, Term.symmetric, Term.asymmetric, Term.Term, Term.atom, Term.node, Term.inverse, Term.is_key, Computed.term?, Term.Match}
use Rattle.base.specs.Words.{ite}
use Rattle.term.specs.Computed.{match?}
use Rattle.term.proofs.Reduce.{says_test}
use Rattle.term.proofs.Table.{decode_inj}
use Rattle.machine.specs.declared.Node.{Node}
use Rattle.machine.specs.declared.Machine.{Machine}
use Rattle.term.specs.declared.kind.Kind.{Kind as KindRead}
use Rattle.term.specs.declared.kind.Kind.TheVariants.{Plain, Public, Private, Pair, Enc, Enca, Hash}
use Rattle.term.specs.Code.{are_inverse_kinds}
use Rattle.machine.specs.declared.Head.{Head as NodeHead}
use Rattle.machine.specs.declared.Head.TheVariants.{Atom, Word}
use Rattle.machine.specs.Code.{atom_head, inverse_heads, inverse_nodes, match_nodes}
use Rattle.machine.proofs.Theory.StateMeaning.{node_in, term_at, SoundState}
use Rattle.machine.proofs.Theory.NodeRecords.{atom_term, atom_node_lem}

-- a test that says what was decided is that decision
decided : {P : Type 0} {b : Bool} (d : Dec P) → Says b P → b ≡ ite d true false
decided {b = b} d w = same_test b (ite d true false) w (says_test d)

-- keys of opposite kinds
abbrev Opposite : {K : Type 0} → K → K → K → K → Type 0
Opposite p q x y = ((x ≡ p) × (y ≡ q)) ⊎ ((x ≡ q) × (y ≡ p))

opposite_kinds : (k j : KindRead) → are_inverse_kinds k j ≡ true → Opposite Public Private k j
opposite_kinds Plain j e = absurd (false≢true e)
opposite_kinds Pair j e = absurd (false≢true e)
opposite_kinds Enc j e = absurd (false≢true e)
opposite_kinds Enca j e = absurd (false≢true e)
opposite_kinds Hash j e = absurd (false≢true e)
opposite_kinds Public Plain e = absurd (false≢true e)
opposite_kinds Public Public e = absurd (false≢true e)
opposite_kinds Public Private e = inl (refl, refl)
opposite_kinds Public Pair e = absurd (false≢true e)
opposite_kinds Public Enc e = absurd (false≢true e)
opposite_kinds Public Enca e = absurd (false≢true e)
opposite_kinds Public Hash e = absurd (false≢true e)
opposite_kinds Private Plain e = absurd (false≢true e)
opposite_kinds Private Public e = inr (refl, refl)
opposite_kinds Private Private e = absurd (false≢true e)
opposite_kinds Private Pair e = absurd (false≢true e)
opposite_kinds Private Enc e = absurd (false≢true e)
opposite_kinds Private Enca e = absurd (false≢true e)
opposite_kinds Private Hash e = absurd (false≢true e)

opposite_heads : (x y : NodeHead) → inverse_heads x y ≡ true → Opposite (atom_head public) (atom_head private) x y
opposite_heads (Atom k) (Atom j) e = ⊎_elim (λ (a, b). inl (ap Atom a, ap Atom b)) (λ (a, b). inr (ap Atom a, ap Atom b)) (opposite_kinds k j e)
opposite_heads (Atom k) (Word r) e = absurd (false≢true e)
opposite_heads (Word r) y e = absurd (false≢true e)

-- the nodes of keys of one name, one public and one private
abbrev InverseHeads : Node → Node → Type 0
InverseHeads x y = Opposite (atom_head public) (atom_head private) x.head y.head × (x.left ≡ y.left)

says_heads : (x y : Node) → Says (inverse_nodes x y) (InverseHeads x y)
unfolding inverse_nodes
says_heads x y = says_and _ _ (opposite_heads x.head y.head, ⊎_elim (λ (a, b). rw (a, b)) (λ (a, b). rw (a, b))) (says_eqb _ _)

module _ {m : Machine} {k j : ℕ} (w : SoundState m) (l : k < m.nodes.used) (n : j < m.nodes.used) where
  pub one_term : eqb k j ≡ ite (term? (term_at m j) (term_at m k)) true false
  one_term = decided (term? _ _) (λ e. sym (ap (term_at m) (eqb-true k j e)), λ u. eq-eqb k j (sym (decode_inj w.table j k n l u)))

  -- a key's node, and its inverse's
  of_kind : (κ : Kind) → is_key (atom κ 0) → (node_in m k).head ≡ atom_head κ → (node_in m j).head ≡ atom_head (other_kind κ) →
      (node_in m k).left ≡ (node_in m j).left → Match asymmetric (term_at m k) (term_at m j)
  of_kind κ i a b q =
      let t = atom_term w l κ a in
      (subst is_key (sym t) (named κ (node_in m k).left i), atom_term w n (other_kind κ) b ∙ ap (atom (other_kind κ)) (sym q) ∙ sym (ap inverse t))
    where
      named : (κ : Kind) (x : ℕ) → is_key (atom κ 0) → is_key (atom κ x)
      named plain x i = i
      named public x i = i
      named private x i = i

  heads_of : (t : Term) → term_at m k ≡ t → is_key t → term_at m j ≡ inverse t → InverseHeads (node_in m k) (node_in m j)
  heads_of (atom plain x) e i f = absurd i
  heads_of (atom public x) e i f = let u = atom_node_lem w l e in let v = atom_node_lem w n f in (inl (u.0, v.0), u.1 ∙ sym v.1)
  heads_of (atom private x) e i f = let u = atom_node_lem w l e in let v = atom_node_lem w n f in (inr (u.0, v.0), u.1 ∙ sym v.1)
  heads_of (node h a b) e i f = absurd i

  says_inverse : Says (inverse_nodes (node_in m k) (node_in m j)) (Match asymmetric (term_at m k) (term_at m j))
  says_inverse =
      let s = says_heads (node_in m k) (node_in m j) in (
        λ e. let u = s.0 e in ⊎_elim (λ v. of_kind public tt v.0 v.1 u.1) (λ v. of_kind private tt v.0 v.1 u.1) u.0,
        λ u. s.1 (heads_of (term_at m k) refl u.0 u.1),
      )

  pub inverse_keys : {x y : Node} → x ≡ node_in m k → y ≡ node_in m j → inverse_nodes x y ≡ ite (match? asymmetric (term_at m k) (term_at m j)) true false
  inverse_keys e g = rw (e, g) (decided (match? asymmetric _ _) says_inverse)

  pub keys_match : (c : words.Cipher) {x y : Node} → x ≡ node_in m k → y ≡ node_in m j → match_nodes c k j x y ≡ ite (match? c (term_at m k) (term_at m j)) true false
  keys_match symmetric e g = decided (match? symmetric _ _) (λ e. sym (ap (term_at m) (eqb-true k j e)), λ u. eq-eqb k j (sym (decode_inj w.table j k n l u)))
  keys_match asymmetric e g = inverse_keys e g
