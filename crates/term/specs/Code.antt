-- What the code's enums and answers mean in document 01's terms, and notions that only proofs use.
use Rattle.term.specs.declared.Relation.{Relation as RelationGiven}
use Rattle.term.specs.declared.Relation.TheVariants.{Equal, Inverse}
use Rattle.term.specs.{Term.Relation, Term.equal, Term.inverses, Term.Second, Term.absent, Term.second, Term.unary, Term.make, Term.plain, Term.public, Term.private, Term.pair, Term.hash, Term.encryption, Term.symmetric, Term.asymmetric, Term.Shape, Term.atomic, Term.compound, Term.Head, Term.part, Term.decrypt, Computed.head?, Term.Term, Term.atom, Term.node, Term.Operands, Computed.place, Number.table, Number.shape_of, Term.Rec, Term.leaf, Term.branch, Term.message}
use Rattle.term.specs.declared.kind.Kind.{Kind}
use Rattle.term.specs.declared.kind.Kind.TheVariants.{Plain, Public, Private, Pair, Enc, Enca, Hash}
use Rattle.term.specs.declared.kind.UnknownKind.{UnknownKind}
use mathlib.Core.{List.List, List.map, Bool.Bool, Bool.true, Bool.false, Option.Option, Option.none, Option.some, Path.◌≡◌}
use Rattle.std.specs.Prelude.{ℕ, ◌<◌, Result, Ok, Err, Option as Maybe, Some, None}

abbrev pub relation_is : RelationGiven → Relation
relation_is Equal = equal
relation_is Inverse = inverses

-- the shape of a kind
abbrev pub kind_is : Kind → Shape
kind_is Plain = atomic plain
kind_is Public = atomic public
kind_is Private = atomic private
kind_is Pair = compound pair
kind_is Enc = compound (encryption symmetric)
kind_is Enca = compound (encryption asymmetric)
kind_is Hash = compound hash

-- the shape of a kind, where there is one
abbrev pub shape_read : Maybe Kind → Option Shape
shape_read None = none
shape_read (Some k) = some (kind_is k)

-- a number is read as this kind, or as none
abbrev pub Decodes : ℕ → Result Kind UnknownKind → Type 0
Decodes n (Ok k) = shape_of n ≡ some (kind_is k)
Decodes n (Err e) = shape_of n ≡ none

-- one kind is that of public keys and the other that of private ones
abbrev pub are_inverse_kinds : Kind → Kind → Bool
are_inverse_kinds Public Private = true
are_inverse_kinds Private Public = true
are_inverse_kinds _ _ = false

-- a record of this shape has one operand
abbrev pub is_unary : Option Shape → Bool
is_unary none = false
is_unary (some (atomic κ)) = false
is_unary (some (compound f)) = unary (second f)

-- the rules' heads, in order
abbrev pub heads : List Head
heads = map (λ r. r.0) table

-- the number of a head's rule
abbrev pub rule_of : Head → ℕ
rule_of h = place head? heads h

-- the rule that builds a term of this shape, where there is one
abbrev pub builder_of : Option Shape → Maybe ℕ
builder_of none = None
builder_of (some (atomic κ)) = None
builder_of (some (compound f)) = Some (rule_of (make f))

-- the second operand of a record of this shape
abbrev pub second_of : Option Shape → Second
second_of none = absent
second_of (some (atomic κ)) = absent
second_of (some (compound f)) = second f

-- the parts of a record are below n
abbrev pub Below : ℕ → Rec → Type 0
Below n (leaf κ m) = Unit {0}
Below n (branch h x y) = (x < n) × (y < n)

-- the first N records of rec have the terms T
pub record Table (rec : ℕ → Rec) (N : ℕ) (T : ℕ → Term) : Type 0 where
  pub reads : (n : ℕ) → n < N → T n ≡ message T (rec n)
  pub earlier : (n : ℕ) → n < N → Below n (rec n)
  pub distinct : (m n : ℕ) → m < N → n < N → rec m ≡ rec n → m ≡ n

-- the heads that build a listed term from its operands
abbrev pub builds : Head → Term → Term → Type 0
builds (make f) a b = Operands (second f) a b
builds (part s) a b = ⊥
builds (decrypt c) a b = ⊥

-- a term that records can list: forms over such terms, and no other head
abbrev pub Message : Term → Type 0
Message (atom κ n) = Unit {0}
Message (node h a b) = builds h a b × Message a × Message b
