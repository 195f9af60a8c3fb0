-- What the state holds, in document 01's terms: nodes are terms, and registers hold terms.
use mathlib.Core.{Path.◌≡◌, List.List, List.[], List.◌∷◌, List.◌++◌}
use Prim.Native.Nat.{ℕ, ◌+◌, ◌≤◌, ◌<◌}
use lib.ListN.{get_or, set}
use Rattle.std.specs.Prelude.{None}
use Rattle.base.specs.Words.{listed}
use Rattle.term.specs.{Term.Term, Term.Rec, Term.decoded, Term.void, Code.Table, Number.rules}
use Rattle.submission.specs.Record.{terms, entries}
use Rattle.program.specs.Program.{Instruction, operand}
use Rattle.machine.specs.declared.Node.{Node}
use Rattle.machine.specs.declared.Operands.{Operands}
use Rattle.machine.specs.Run.{registers}
use Rattle.machine.specs.declared.Machine.{Machine}
use Rattle.machine.specs.Code.{record_for, node_for, node_of, operands_of, with_node, TermNodes}

abbrev pub operands_in : Machine → ℕ → ℕ → Operands
operands_in m a b = operands_of m.nodes.items a b

abbrev pub node_in : Machine → ℕ → Node
node_in m k = node_of m.nodes.items k

abbrev pub node_at : Machine → ℕ → Rec
node_at m k = record_for (node_in m k)

-- the term of node k
unfoldable pub term_at : Machine → ℕ → Term
term_at m k = get_or (decoded (node_at m) m.nodes.used) k void

abbrev pub register : Machine → ℕ → ℕ
register m r = get_or m.registers r 0

-- the registers' values
unfoldable pub values : Machine → List Term
values m = listed (λ r. term_at m (register m r)) m.used

pub record SoundState (m : Machine) : Type 0 where
  pub table : Table (node_at m) m.nodes.used (term_at m)
  pub canonical : (k : ℕ) → k < m.nodes.used → node_for (node_at m k) ≡ node_in m k
  pub written : (r : ℕ) → r < m.used → register m r < m.nodes.used

pub record Holds (m : Machine) (vs : List Term) : Type 0 where
  pub sound : SoundState m
  pub is : values m ≡ vs

-- the state m with one node or one register more
abbrev pub with_new : Machine → Node → Machine
with_new m v = record { nodes = with_node m.nodes v None; registers = m.registers; used = m.used }

abbrev pub with_register : Machine → ℕ → Machine
with_register m n = record { nodes = m.nodes; registers = set m.registers m.used n; used = m.used + 1 }

-- r is the state m with the term t in the next register
pub record Gives (m : Machine) (t : Term) (r : Machine) : Type 0 where
  pub holds : Holds r (values m ++ t ∷ [])
  pub used : r.used ≡ m.used + 1
  pub few : r.nodes.used ≤ m.nodes.used + 1

-- an instruction over registers of the state m
pub record Applies (m : Machine) (i : Instruction) : Type 0 where
  pub sound : SoundState m
  pub rule : i.rule < rules
  pub left : i.left < m.used
  pub right : operand i < m.used
  pub room : m.nodes.used < 384
  pub space : m.used < 256

-- the first nodes of the state m are the terms'
pub record HasTerms (s : List ℕ) (m : Machine) : Type 0 where
  pub nodes : TermNodes s m.nodes.items
  pub many : terms s ≤ m.nodes.used

-- the state m holds the registers' values after n instructions
pub record Running (s : List ℕ) (name : ℕ) (P : List ℕ) (n : ℕ) (m : Machine) : Type 0 where
  pub holds : Holds m (registers s name P n)
  pub used : m.used ≡ entries s + 1 + n
  pub few : m.nodes.used ≤ 251 + n

-- a test that the state m can make
pub record Testable (m : Machine) (t : Instruction) : Type 0 where
  pub sound : SoundState m
  pub left : t.left < m.used
  pub right : t.right < m.used
  pub room : m.nodes.used ≤ 384
