-- A state with one node or one register more: what it holds.
use mathlib.Core.Path.{◌≡◌, refl, sym, ap, ap₂, ◌∙◌, subst}
use mathlib.Core.List.{List, [], ◌∷◌, ◌++◌}
use Prim.Native.Nat.{ℕ, ◌+◌, ◌<◌}
use native.Mathlib.Nat.{zero-add}
use native.Mathlib.Numerals.{add-one}
use native.Mathlib.Omega.{arith}
use lib.ListN.{length, get_or, set, get_or-append}
use lib.Seq.{get_or-set_same, get_or-set_other, get_or_at}
use borrow.Author.Count.{below_more}
use Rattle.base.specs.Words.{grow}
use Rattle.base.proofs.Grow.{length_grow, grow_alike}
use Rattle.term.specs.Term.{Rec, message, void, decoded}
use Rattle.term.specs.Code.{Below, Table}
use Rattle.term.proofs.Table.{extended}
use Rattle.machine.specs.declared.Node.{Node}
use Rattle.std.specs.Prelude.{Option as Maybe, Some, None}
use Rattle.machine.specs.declared.Nodes.{Nodes}
use Rattle.machine.specs.declared.Machine.{Machine}
use Rattle.machine.specs.Code.{blank, record_for, node_for, node_of, with_node, Room}
use Rattle.machine.proofs.Theory.StateMeaning.{node_in, node_at, term_at, register, values, SoundState, Holds, with_new, with_register, Gives}

-- ---- tables that are alike
pub decoded_alike : (r r' : ℕ → Rec) (n : ℕ) → ((i : ℕ) → i < n → r i ≡ r' i) → decoded r n ≡ decoded r' n
unfolding decoded
decoded_alike r r' n h = grow_alike [] _ _ n (λ i l b. ap (message (λ m. get_or l m void)) (h i b))

length_decoded : (r : ℕ → Rec) (n : ℕ) → length (decoded r n) ≡ n
unfolding decoded
length_decoded r n = length_grow [] _ n ∙ zero-add n

-- ---- one register more
-- r is the state m with the node n in the next register
pub record Stored (m : Machine) (n : ℕ) (r : Machine) : Type 0 where
  pub holds : Holds r (values m ++ term_at m n ∷ [])
  pub used : r.used ≡ m.used + 1
  pub nodes : r.nodes.used ≡ m.nodes.used

module _ {m : Machine} {n : ℕ} (w : SoundState m) (l : n < m.nodes.used) (space : m.used < length m.registers) where
  register_old : (r : ℕ) → r < m.used → register (with_register m n) r ≡ register m r
  register_old r b = get_or-set_other m.registers m.used r n 0 (λ e. omega arith)

  register_new : register (with_register m n) m.used ≡ n
  register_new = get_or-set_same m.registers m.used n 0 space

  register_sound : SoundState (with_register m n)
  unfolding term_at
  register_sound = record {
    table = w.table;
    canonical = w.canonical;
    written = below_more (λ r. register (with_register m n) r < m.nodes.used) m.used (λ r b. rw (register_old r b) (w.written r b)) (rw register_new l);
  }

  register_values : values (with_register m n) ≡ values m ++ term_at m n ∷ []
  unfolding values grow term_at
  register_values =
      rw (
        add-one m.used,
        register_new,
        grow_alike [] (λ v r. term_at (with_register m n) (register (with_register m n) r)) (λ v r. term_at m (register m r)) m.used
            (λ r v b. ap (term_at m) (register_old r b)),
      )

  pub register_stored : Stored m n (with_register m n)
  register_stored = record { holds = record { sound = register_sound; is = register_values }; used = refl; nodes = refl }

-- ---- one node more
-- a node that can be put into the state m
pub record Fit (m : Machine) (v : Node) : Type 0 where
  pub sound : SoundState m
  pub canonical : node_for (record_for v) ≡ v
  pub low : Below m.nodes.used (record_for v)

-- a node put into the array
module _ (ns : List Node) (n : ℕ) (v : Node) where
  pub put_other : (k : ℕ) → (k ≡ n → ⊥) → node_of (set ns n v) k ≡ node_of ns k
  put_other k d = get_or-set_other ns n k v blank d

  pub put_same : n < length ns → node_of (set ns n v) n ≡ v
  put_same a = get_or-set_same ns n v blank a

-- the nodes stay where v is put or was found
pub nodes_stay : (ns : Nodes) (v : Node) (o : Maybe ℕ) (k : ℕ) → k < ns.used → node_of (with_node ns v o).items k ≡ node_of ns.items k
nodes_stay ns v (Some i) k b = refl
nodes_stay ns v None k b = put_other ns.items ns.used v k (λ e. omega arith)

module _ (m : Machine) (v : Node) (room : Room m) where
  node_old : (k : ℕ) → k < m.nodes.used → node_in (with_new m v) k ≡ node_in m k
  node_old k b = put_other m.nodes.items m.nodes.used v k (λ e. omega arith)

  node_new : node_in (with_new m v) m.nodes.used ≡ v
  node_new = put_same m.nodes.items m.nodes.used v room.nodes

  terms : decoded (node_at (with_new m v)) (m.nodes.used + 1) ≡ decoded (node_at m) m.nodes.used ++ message (term_at m) (record_for v) ∷ []
  unfolding decoded grow term_at
  terms =
      rw (add-one m.nodes.used, node_new)
      (ap (λ ts. ts ++ message (λ k. get_or ts k void) (record_for v) ∷ [])
      (decoded_alike (node_at (with_new m v)) (node_at m) m.nodes.used (λ k b. ap record_for (node_old k b))))

  term_old : (k : ℕ) → k < m.nodes.used → term_at (with_new m v) k ≡ term_at m k
  unfolding term_at
  term_old k b = rw terms (get_or-append (decoded (node_at m) m.nodes.used) _ void k (rw (length_decoded (node_at m) m.nodes.used) b))

  term_new : term_at (with_new m v) m.nodes.used ≡ message (term_at m) (record_for v)
  unfolding term_at
  term_new = rw terms (get_or_at (decoded (node_at m) m.nodes.used) _ [] void m.nodes.used (length_decoded (node_at m) m.nodes.used))

  -- a node that is new goes to the next register
  module _ (f : Fit m v) (new : (k : ℕ) → k < m.nodes.used → node_in m k ≡ v → ⊥) where
    not_there : (k : ℕ) → k < m.nodes.used → node_at m k ≡ record_for v → ⊥
    not_there k b e = new k b (sym (f.sound.canonical k b) ∙ ap node_for e ∙ f.canonical)

    node_sound : SoundState (with_new m v)
    node_sound = record {
      table = subst (λ n. Table (node_at (with_new m v)) n (term_at (with_new m v))) (sym (add-one m.nodes.used))
          (extended f.sound.table (record_for v) f.low not_there (node_at (with_new m v)) (term_at (with_new m v)) (λ k b. ap record_for (node_old k b)) term_old
          (ap record_for node_new) term_new);
      canonical = below_more (λ k. node_for (node_at (with_new m v) k) ≡ node_in (with_new m v) k) m.nodes.used (λ k b. rw (node_old k b) (f.sound.canonical k b)) (rw node_new f.canonical);
      written = λ r b. omega (arith, f.sound.written r b);
    }

    node_values : values (with_new m v) ≡ values m
    unfolding values
    node_values = grow_alike [] _ _ m.used (λ r l b. term_old (register m r) (f.sound.written r b))

    pub node_added : Gives m (message (term_at m) (record_for v)) (with_register (with_new m v) m.nodes.used)
    node_added =
        let s = register_stored {m = with_new m v} {n = m.nodes.used} node_sound (omega arith) room.registers in
        record {
          holds = record { sound = s.holds.sound; is = s.holds.is ∙ ap₂ (λ vs t. vs ++ t ∷ []) node_values term_new };
          used = s.used;
          few = omega (arith, s.nodes);
        }
