-- Nodes and records, one for one; and the node of a term, by the term's head.
use mathlib.Core.Path.{◌≡◌, refl, sym, ap, ◌∙◌}
use mathlib.Core.List.{List}
use Prim.Native.Nat.{ℕ, ◌<◌}
use Rattle.term.specs.Term.{Kind, plain, public, private, Head, Term, atom, node, Rec, leaf, branch, message}
use Rattle.term.specs.Code.{rule_of}
use Rattle.term.proofs.Rule.{head_rule}
use Rattle.term.proofs.Table.{part_below, node_of, branch_of, leaf_of}
use Rattle.submission.specs.Record.{terms, record_at}
use Rattle.machine.specs.declared.Node.{Node}
use Rattle.machine.specs.declared.Machine.{Machine}
use Rattle.machine.specs.declared.Head.TheVariants.{Word}
use Rattle.machine.specs.Code.{atom_head, record_for, node_for, records_in, TermNodes}
use Rattle.machine.proofs.Theory.StateMeaning.{node_in, node_at, term_at, SoundState}

-- ---- nodes and records
-- the record of a node of this head
pub rule_record : (h : Head) (l r : ℕ) → record_for (node_for (branch h l r)) ≡ branch h l r
unfolding record_for
rule_record h l r = rw (head_rule h)

pub atom_record : (κ : Kind) (l r : ℕ) → record_for (record { head = atom_head κ; left = l; right = r }) ≡ leaf κ l
unfolding record_for
atom_record plain l r = refl
atom_record public l r = refl
atom_record private l r = refl

pub record_node : (r : Rec) → record_for (node_for r) ≡ r
record_node (leaf κ n) = atom_record κ n 0
record_node (branch h x y) = rule_record h x y

-- the records of the terms' nodes
pub term_record : {s : List ℕ} {ns : List Node} → TermNodes s ns → (k : ℕ) → k < terms s → records_in ns k ≡ record_at s k
term_record {s} z k b = ap record_for (z.is k b) ∙ record_node (record_at s k)

-- ---- the node of a term
module _ {m : Machine} (w : SoundState m) {a : ℕ} (l : a < m.nodes.used) where
  -- a compound term, by its node's head, and the other way round
  compound_record : (h : Head) → (node_in m a).head ≡ Word (rule_of h) → node_at m a ≡ branch h (node_in m a).left (node_in m a).right
  compound_record h e = ap (λ z. record_for (record { head = z; left = (node_in m a).left; right = (node_in m a).right })) e ∙ rule_record h _ _

  pub compound_below : (h : Head) → (node_in m a).head ≡ Word (rule_of h) → ((node_in m a).left < m.nodes.used) × ((node_in m a).right < m.nodes.used)
  compound_below h e = part_below w.table a l (compound_record h e)

  pub compound_term : (h : Head) → (node_in m a).head ≡ Word (rule_of h) → term_at m a ≡ node h (term_at m (node_in m a).left) (term_at m (node_in m a).right)
  compound_term h e = node_of w.table a l (compound_record h e)

  record_in : {r : Rec} → node_at m a ≡ r → node_in m a ≡ node_for r
  record_in e = sym (w.canonical a l) ∙ ap node_for e

  pub compound_node : {h : Head} {x y : Term} → term_at m a ≡ node h x y →
      ((node_in m a).head ≡ Word (rule_of h)) × (term_at m (node_in m a).left ≡ x) × (term_at m (node_in m a).right ≡ y)
  compound_node {h} e =
      let (u, v, r, f, g) = branch_of w.table a l e in
      let q = record_in r in
      (cc, cc, cc)

  -- an atom
  pub atom_term : (κ : Kind) → (node_in m a).head ≡ atom_head κ → term_at m a ≡ atom κ (node_in m a).left
  atom_term κ e =
      w.table.reads a l ∙ ap (message (term_at m)) (ap (λ z. record_for (record { head = z; left = (node_in m a).left; right = (node_in m a).right })) e ∙ atom_record κ _ _)

  pub atom_node_lem : {κ : Kind} {n : ℕ} → term_at m a ≡ atom κ n → ((node_in m a).head ≡ atom_head κ) × ((node_in m a).left ≡ n)
  atom_node_lem e = let q = record_in (leaf_of w.table a l e) in (cc, cc)
