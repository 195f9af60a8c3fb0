-- What the functions of the code do, over nodes and registers. That these mean document 01's terms is proved.
-- Values can be exponentially large as trees, so the machine holds them shared: nodes, no two equal, and registers with their numbers.
use Rattle.term.specs.Term as words
use mathlib.Core.{Path.◌≡◌, Bool.Bool, Bool.true, Bool.false, Bool.◌&&◌, Bool.◌||◌, Bool.cond, List.List, Option.some}
use Rattle.std.specs.Prelude.{ℕ, zero, suc, ◌+◌, ◌≤◌, ◌<◌, Option as Maybe, Some, None}
use Rattle.std.specs.Option.{unwrap_or}
use Rattle.std.specs.Bool.{then_some}
use lib.{Dec.eqb, ListN.length, ListN.get_or, ListN.set}
use Rattle.base.specs.Words.{byte}
use Rattle.term.specs.{Term.Kind, Term.plain, Term.public, Term.private, Term.symmetric, Term.asymmetric, Term.left, Term.right, Term.pair, Term.hash, Term.encryption, Term.Head, Term.make, Term.part, Term.decrypt, Term.pick, Term.Relation, Term.equal, Term.inverses, Term.atomic, Term.atom_kind, Number.shape_of, Term.Rec, Term.leaf, Term.branch, Code.rule_of, Number.rules, Number.head_of}
use Rattle.submission.specs.{Record.terms, Record.entries, Record.entry_at, Record.guess, Record.kind_at, Record.record_at, Record.term, Code.KnownPart}
use Rattle.term.specs.declared.kind.Kind.{Kind as KindRead}
use Rattle.term.specs.declared.kind.Kind.TheVariants.{Plain, Public, Private, Pair, Enc, Enca, Hash}
use Rattle.term.specs.Code.{kind_is, are_inverse_kinds}
use Rattle.machine.specs.declared.Head.{Head as NodeHead}
use Rattle.machine.specs.declared.Head.TheVariants.{Atom, Word}
use Rattle.machine.specs.declared.Node.{Node}
use Rattle.machine.specs.declared.Nodes.{Nodes}
use Rattle.machine.specs.declared.Machine.{Machine}
use Rattle.machine.specs.declared.Operands.{Operands}
use Rattle.program.specs.Program.{Instruction, instruction_at, operand}
use Rattle.machine.specs.Run.{held}

-- ---- nodes
abbrev pub kind_for : Kind → KindRead
kind_for plain = Plain
kind_for public = Public
kind_for private = Private

-- the head of an atom
abbrev pub atom_head : Kind → NodeHead
atom_head κ = Atom (kind_for κ)

-- the record of a node of this head and with these parts
abbrev pub record_with : NodeHead → ℕ → ℕ → Rec
record_with (Atom k) x y = leaf (atom_kind (some (kind_is k))) x
record_with (Word r) x y = branch (head_of r) x y

unfoldable pub record_for : Node → Rec
record_for v = record_with v.head v.left v.right

-- the node of a record
abbrev pub node_for : Rec → Node
node_for (leaf κ n) = record { head = atom_head κ; left = n; right = 0 }
node_for (branch h x y) = record { head = Word (rule_of h); left = x; right = y }

-- ---- the state
-- what an array is filled with
abbrev pub blank : Node
blank = record { head = Atom Plain; left = 0; right = 0 }

-- the node of a number
abbrev pub node_of : List Node → ℕ → Node
node_of ns k = get_or ns k blank

-- what the reductions look at
abbrev pub operands_of : List Node → ℕ → ℕ → Operands
operands_of ns a b = record { left = node_of ns a; right = node_of ns b; key = node_of ns (node_of ns a).right }

-- ---- what the machine's functions do
-- what looking for the node v finds, among those from a number on and below n: the lowest that it is
abbrev pub Finds : List Node → Node → ℕ → ℕ → Maybe ℕ → Type 0
Finds ns v from n None = (k : ℕ) → from ≤ k → k < n → node_of ns k ≡ v → ⊥
Finds ns v from n (Some i) = (from ≤ i) × (i < n) × (node_of ns i ≡ v) × ((k : ℕ) → from ≤ k → k < i → node_of ns k ≡ v → ⊥)

-- a node of this head is the word of this rule
abbrev pub is_word : NodeHead → ℕ → Bool
is_word (Atom k) r = false
is_word (Word q) r = eqb q r

-- the first and the second part of one node
unfoldable pub parts_of_one : Node → Node → Bool
parts_of_one v w = is_word v.head (rule_of (part left)) && (is_word w.head (rule_of (part right)) && eqb v.left w.left)

-- keys of one name, one public and one private
abbrev pub inverse_heads : NodeHead → NodeHead → Bool
inverse_heads (Atom k) (Atom j) = are_inverse_kinds k j
inverse_heads (Atom k) (Word r) = false
inverse_heads (Word r) h = false

unfoldable pub inverse_nodes : Node → Node → Bool
inverse_nodes v w = inverse_heads v.head w.head && eqb v.left w.left

-- the keys of opposite operations, by their numbers and their nodes
abbrev pub match_nodes : words.Cipher → ℕ → ℕ → Node → Node → Bool
match_nodes symmetric k j v w = eqb k j
match_nodes asymmetric k j v w = inverse_nodes v w

-- pair, over the first and the second part of one node
abbrev pub joined_node : Node → Node → Maybe ℕ
joined_node x y = then_some (parts_of_one x y) x.left

-- fst or snd, over a pair: its part n
abbrev pub parted_node : Node → ℕ → Maybe ℕ
parted_node x n = then_some (is_word x.head (rule_of (make pair))) n

-- a rule that cancels the rule `inner`, over a node of that rule, where the keys fit
abbrev pub cancelled_node : ℕ → Node → Bool → Maybe ℕ
cancelled_node inner x fits = then_some (is_word x.head inner && fits) x.left

-- the reductions, over nodes: what a head gives over the operands o, the right one the node j
abbrev pub reduced : Head → Operands → ℕ → Maybe ℕ
reduced (make pair) o j = joined_node o.left o.right
reduced (make hash) o j = None
reduced (make (encryption c)) o j = cancelled_node (rule_of (decrypt c)) o.left (match_nodes c o.left.right j o.key o.right)
reduced (part s) o j = parted_node o.left (pick s o.left.left o.left.right)
reduced (decrypt c) o j = cancelled_node (rule_of (make (encryption c))) o.left (match_nodes c o.left.right j o.key o.right)

-- the node that v is, where it reduces to one, or not; a node comes after its left operand
abbrev pub Valued : Nodes → Node → Maybe ℕ → Maybe ℕ → Type 0
Valued ns v (Some k) r = r ≡ Some k
Valued ns v None r = Finds ns.items v (v.left + 1) ns.used r

-- the rule of an instruction over the nodes of its registers
abbrev pub formed_by : List ℕ → Instruction → Node
formed_by registers i = record { head = Word i.rule; left = get_or registers i.left 0; right = get_or registers (operand i) 0 }

-- the nodes with v after the last one, where it was not found
abbrev pub with_node : Nodes → Node → Maybe ℕ → Nodes
with_node ns v (Some k) = ns
with_node ns v None = record { items = set ns.items ns.used v; used = ns.used + 1 }

-- there is room for a node and for a register
pub record Room (m : Machine) : Type 0 where
  pub nodes : m.nodes.used < length m.nodes.items
  pub registers : m.used < length m.registers

-- the state m with the node v after the last one, where it was not found, and the number of v in the next register
abbrev pub placed : Machine → Node → Maybe ℕ → Machine
placed m v o = record { nodes = with_node m.nodes v o; registers = set m.registers m.used (unwrap_or o m.nodes.used); used = m.used + 1 }

pub record Placed (m : Machine) (v : Node) (found : Maybe ℕ) (r : Machine) : Type 0 where
  pub room : Room m
  pub is : r ≡ placed m v found

-- the state m can execute the instruction i
pub record Executable (m : Machine) (i : Instruction) : Type 0 where
  pub rule : i.rule < rules
  pub left : (formed_by m.registers i).left < m.nodes.used
  pub right : (formed_by m.registers i).right < m.nodes.used
  pub key : (node_of m.nodes.items (formed_by m.registers i).left).right < 384
  pub room : m.nodes.used < 384
  pub space : m.used < 256

-- r is the state m with the result of the instruction i in the next register
pub record Executed (m : Machine) (i : Instruction) (r : Machine) : Type 0 where
  pub found : Maybe ℕ
  pub value : Valued m.nodes (formed_by m.registers i) (reduced (head_of i.rule) (operands_of m.nodes.items (formed_by m.registers i).left (formed_by m.registers i).right) (formed_by m.registers i).right) found
  pub placed : Placed m (formed_by m.registers i) found r

-- r is the state m after the first n instructions of the program P
unfoldable pub Ran : Machine → List ℕ → ℕ → Machine → Type 0
Ran m P zero r = r ≡ m
Ran m P (suc i) r = (q : Machine) × Ran m P i q × Executed q (instruction_at P i) r

-- the state m can execute the instructions of the program P, one after the other
pub record Runnable (m : Machine) (P : List ℕ) : Type 0 where
  pub is : (i : ℕ) → i < byte P 0 → (q : Machine) → Ran m P i q → Executable q (instruction_at P i)

-- ---- the start of a run
-- a state with no nodes and no registers, and room for 384 and 256
pub record Empty (m : Machine) : Type 0 where
  pub nodes : length m.nodes.items ≡ 384
  pub registers : length m.registers ≡ 256

-- the first nodes are the terms', by their numbers
pub record TermNodes (s : List ℕ) (ns : List Node) : Type 0 where
  pub is : (k : ℕ) → k < terms s → node_of ns k ≡ node_for (record_at s k)

-- the state m holds the terms' nodes, and no registers
pub record TermsPut (s : List ℕ) (m : Machine) : Type 0 where
  pub nodes : TermNodes s m.nodes.items
  pub many : m.nodes.used ≡ terms s
  pub long : length m.nodes.items ≡ 384
  pub registers : length m.registers ≡ 256

-- the first registers hold the numbers of the knowledge
pub record EntryRegisters (s registers : List ℕ) : Type 0 where
  pub is : (i : ℕ) → i < entries s → get_or registers i 0 ≡ entry_at s i

-- the state m holds the terms' nodes, and the knowledge in its registers
pub record Loaded (s : List ℕ) (m : Machine) : Type 0 where
  pub nodes : TermNodes s m.nodes.items
  pub many : m.nodes.used ≡ terms s
  pub known : EntryRegisters s m.registers
  pub used : m.used ≡ entries s
  pub long : length m.nodes.items ≡ 384
  pub registers : length m.registers ≡ 256

-- what a run starts with, where the guess's node is v: the terms' nodes and then v, which is found among them or not; the knowledge and then the number of v
pub record Started (s : List ℕ) (v : Node) (found : Maybe ℕ) (r : Machine) : Type 0 where
  pub before : Machine
  pub loaded : Loaded s before
  pub is : Finds before.nodes.items v 0 (terms s) found
  pub placed : Placed before v found r

-- ---- the registers' terms, with the right guess
-- l has for each register of the program P, run with the right guess, the number of its term where that is listed, and else one that is not below T
pub record RegisterNumbers (s P l : List ℕ) : Type 0 where
  pub long : length l ≡ 256
  pub listed : (r : ℕ) → r < entries s + 1 + byte P 0 → get_or l r 0 < terms s → term s (get_or l r 0) ≡ held s P r
  pub unlisted : (r : ℕ) → r < entries s + 1 + byte P 0 → terms s ≤ get_or l r 0 → (n : ℕ) → n < terms s → term s n ≡ held s P r → ⊥

-- ---- stale names
-- the atom of the guess's kind with this name
abbrev pub guess_node : List ℕ → ℕ → Node
guess_node s name = record { head = atom_head (atom_kind (shape_of (kind_at s (guess s)))); left = name; right = 0 }

-- the inverse of a key; any other node is its own
abbrev pub inverse_head : NodeHead → NodeHead
inverse_head (Atom Plain) = Atom Plain
inverse_head (Atom Public) = Atom Private
inverse_head (Atom Private) = Atom Public
inverse_head (Atom Pair) = Atom Pair
inverse_head (Atom Enc) = Atom Enc
inverse_head (Atom Enca) = Atom Enca
inverse_head (Atom Hash) = Atom Hash
inverse_head (Word r) = Word r

abbrev pub inverse_node : Node → Node
inverse_node v = record { head = inverse_head v.head; left = v.left; right = v.right }

-- the records of the nodes
abbrev pub records_in : List Node → ℕ → Rec
records_in ns k = record_for (node_of ns k)

-- the marks l, with the parts of a record marked too
abbrev pub with_parts : Rec → List Bool → List Bool
with_parts (leaf κ n) l = l
with_parts (branch h x y) l = set (set l x true) y true

-- the marks l, with the parts of the record t marked too where t is
abbrev pub treated : (ℕ → Rec) → ℕ → List Bool → List Bool
treated rec t l = cond (get_or l t false) (with_parts (rec t) l) l

-- of the terms from `lowest` on, l marks those that are part of the knowledge
pub record PartMarks (s : List ℕ) (lowest : ℕ) (l : List Bool) : Type 0 where
  pub long : length l ≡ 256
  pub known : (n : ℕ) → n < terms s → get_or l n false ≡ true → KnownPart s (term s n)
  pub whole : (n : ℕ) → n < terms s → lowest ≤ n → KnownPart s (term s n) → get_or l n false ≡ true

abbrev pub is_marked : List Bool → Maybe ℕ → Bool
is_marked l (Some k) = get_or l k false
is_marked l None = false

-- one of the two is marked, by marks of what is part of the knowledge
pub record SomeMarked (s : List ℕ) (lowest : ℕ) (found other : Maybe ℕ) (r : Bool) : Type 0 where
  pub marks : List Bool
  pub parts : PartMarks s lowest marks
  pub is : r ≡ (is_marked marks found || is_marked marks other)

-- the relation of two nodes, by their numbers
abbrev pub related : Relation → List Node → ℕ → ℕ → Bool
related equal ns a b = eqb a b
related inverses ns a b = inverse_nodes (node_of ns a) (node_of ns b)
