-- Looking for a node, and putting it after the last one where it is not found.
use mathlib.Core.Path.{◌≡◌, ap, ◌∙◌}
use mathlib.Core.List.{List}
use mathlib.Core.Logic.{⊎_elim}
use Prim.Native.Nat.{ℕ, ◌≤◌, ◌<◌}
use native.Mathlib.Omega.{arith}
use Rattle.base.proofs.Order.{lt_or_ge}
use Rattle.std.specs.Prelude.{Option as Maybe, Some, None, MatchOption}
use Rattle.term.specs.Term.{message}
use Rattle.machine.specs.declared.Node.{Node}
use Rattle.machine.specs.declared.Nodes.{Nodes}
use Rattle.machine.specs.declared.Machine.{Machine}
use Rattle.machine.specs.Code.{record_for, node_of, with_node, Finds, Placed}
use Rattle.machine.proofs.Theory.StateMeaning.{node_in, term_at, SoundState, Gives}
use Rattle.machine.proofs.Theory.StateGrowth.{Fit, register_stored, node_added}

-- what `find` gives, over the numbers from `from` on and below n
pub found_among : (ns : List Node) (v : Node) (from n : ℕ) (r : Maybe ℕ) →
    MatchOption r ((k : ℕ) → from ≤ k → k < n → node_of ns k ≡ v → ⊥) (λ i. (from ≤ i) × (i < n) × (node_of ns i ≡ v) × ((k : ℕ) → from ≤ k → k < i → node_of ns k ≡ v → ⊥)) → Finds ns v from n r
found_among ns v from n None h = h
found_among ns v from n (Some i) h = h

-- no node of the state m before this number is v
pub record Absent (m : Machine) (v : Node) (from : ℕ) : Type 0 where
  pub none : (k : ℕ) → k < from → node_in m k ≡ v → ⊥

pub nodes_many : (ns : Nodes) (v : Node) (o : Maybe ℕ) → ns.used ≤ (with_node ns v o).used
nodes_many ns v (Some k) = omega arith
nodes_many ns v None = omega arith

-- a node of the state in the next register
pub placed_there : {m : Machine} {v : Node} {i : ℕ} → SoundState m → i < m.nodes.used → {r : Machine} → Placed m v (Some i) r → Gives m (term_at m i) r
placed_there {m} {i = i} s l w =
    let p = register_stored {m = m} {n = i} s l w.room.registers in
    rw w.is (record { holds = p.holds; used = p.used; few = omega (arith, p.nodes) })

-- a search from a number on, before which the node is not: the node is put after the last one, and its number, or that of the node found, into the
-- next register
pub placed_gives : {m : Machine} {v : Node} (from : ℕ) → Fit m v → Absent m v from → (o : Maybe ℕ) → Finds m.nodes.items v from m.nodes.used o → {r : Machine} → Placed m v o r →
    Gives m (message (term_at m) (record_for v)) r
placed_gives {m} {v} from f a (Some i) (_, l, t, _) w =
    let u : term_at m i ≡ message (term_at m) (record_for v) = f.sound.table.reads i l ∙ ap (λ z. message (term_at m) (record_for z)) t in
    rw (← u) (placed_there {v = v} f.sound l w)
placed_gives {m} {v} from f a None h w = rw w.is (node_added m v w.room f (λ k l e. ⊎_elim (λ b. a.none k b e) (λ b. h k b l e) (lt_or_ge k from)))
