-- Terms, keys, parts, and records as terms: document 01, 'The submission' and 'The register program'. The numbers of kinds and rules are in `Number`.
use Rattle.std.specs.Prelude.{◌≡◌, ◌⊎◌}
use Rattle.base.specs.Words.{Bool, true, false, Option, none, some, List, [], ℕ, ite, Holds, get_or, grow}

-- "plain atom", "public key", "private key"
pub data Kind : Type 0 where
  plain public private : Kind
  deriving Discrete as Kind-discrete

-- enc and dec use one key, enca and deca a key and its inverse
pub data Cipher : Type 0 where
  symmetric asymmetric : Cipher
  deriving Discrete as Cipher-discrete

pub data Side : Type 0 where
  left right : Side
  deriving Discrete as Side-discrete

-- one of the two
abbrev pub pick : {A : Type 0} → Side → A → A → A
pick left x y = x
pick right x y = y

-- what a listed compound term is made as: pair(x, y); enc(x, y) and enca(x, y); hash(x)
pub data Form : Type 0 where
  pair hash : Form
  encryption : Cipher → Form
  deriving Discrete as Form-discrete

-- the second operand of a form: none, so that its record's y is 0 and no part; any term; or a key
pub data Second : Type 0 where
  absent anything : Second
  key_for : Cipher → Second

-- "4 pair(x, y); 5 enc(x, y), y a plain atom; 6 enca(x, y), y a key of kind 2 or 3"; A2: "hash(x), with y = 0"
abbrev pub second : Form → Second
second pair = anything
second hash = absent
second (encryption c) = key_for c

-- one operand stands alone
abbrev pub unary : Second → Bool
unary absent = true
unary anything = false
unary (key_for c) = false

-- The rules' words: pair, enc, enca and hash make a term of their form; fst and snd are the two parts; dec and deca decrypt.
pub data Head : Type 0 where
  make : Form → Head
  part : Side → Head
  decrypt : Cipher → Head
  deriving Discrete as Head-discrete

abbrev pub single : Head → Bool
single (make f) = unary (second f)
single (part s) = true
single (decrypt c) = false

-- "the rule's word over its one or two operands"; a head with one operand (`single`) holds it twice
pub data Term : Type 0 where
  atom : Kind → ℕ → Term
  node : Head → Term → Term → Term
  deriving Discrete as Term-discrete

-- "Keys of kinds 2 and 3 with one name are each other's inverse."
abbrev pub other_kind : Kind → Kind
other_kind plain = plain
other_kind public = private
other_kind private = public

abbrev pub key_kind : Kind → Bool
key_kind plain = false
key_kind public = true
key_kind private = true

abbrev pub is_key : Term → Type 0
is_key (atom κ n) = Holds (key_kind κ)
is_key (node h a b) = ⊥

abbrev pub inverse : Term → Term
inverse (atom κ n) = atom (other_kind κ) n
inverse (node h a b) = node h a b

-- A key k of one operation and the key j of the opposite one: equal terms, or a key and its inverse.
abbrev pub Match : Cipher → Term → Term → Type 0
Match symmetric k j = j ≡ k
Match asymmetric k j = is_key k × (j ≡ inverse k)

-- what a term is: an atom of a kind, or made as a form; a term of another head is neither, and no record lists it
pub data Shape : Type 0 where
  atomic : Kind → Shape
  compound : Form → Shape
  deriving Discrete as Shape-discrete

abbrev pub shape : Term → Option Shape
shape (atom κ n) = some (atomic κ)
shape (node (make f) a b) = some (compound f)
shape (node (part s) a b) = none
shape (node (decrypt c) a b) = none

-- the kind of an atom of this shape; what is no atom reads as a plain one
abbrev pub atom_kind : Option Shape → Kind
atom_kind none = plain
atom_kind (some (atomic κ)) = κ
atom_kind (some (compound f)) = plain

-- "y a plain atom", "y a key of kind 2 or 3". "Any plain atom may be a symmetric key (house rule)." A2: "A hash may be the key of kind 5."
abbrev pub is_key_for : Cipher → Option Shape → Bool
is_key_for c none = false
is_key_for symmetric (some (atomic κ)) = ite (Kind-discrete κ plain) true false
is_key_for symmetric (some (compound f)) = ite (Form-discrete Cipher-discrete f hash) true false
is_key_for asymmetric (some (atomic κ)) = key_kind κ
is_key_for asymmetric (some (compound f)) = false

-- a and b are such operands of a listed term; one that stands alone stands twice
abbrev pub Operands : Second → Term → Term → Type 0
Operands absent a b = b ≡ a
Operands anything a b = Unit {0}
Operands (key_for c) a b = is_key_for c (shape b) ≡ true

-- "Part .. means the message itself or anything it is made from at any depth, keys included": x is a part of t
abbrev pub Part : Term → Term → Type 0
Part x (atom κ n) = x ≡ atom κ n
Part x (node h a b) = (x ≡ node h a b) ⊎ (Part x a ⊎ Part x b)

-- A3: w is stale: it "or that atom's inverse, is part of" a message in K; a plain atom is its own inverse here
abbrev pub Stale : (Term → Type 0) → Term → Type 0
Stale K w = (t : Term) × K t × (Part w t ⊎ Part (inverse w) t)

-- Freshness, which demand 3 asks of a wrong guess: neither w nor its inverse is part of a message in K
abbrev pub Fresh : (Term → Type 0) → Term → Type 0
Fresh K w = Stale K w → ⊥

-- What a test asks of two terms: "`=` signals 1 for equal terms, `i` when the first is a key and the second its inverse."
pub data Relation : Type 0 where
  equal inverses : Relation

-- a record of a table, as the submission's terms are: an atom, or a head over the numbers of two earlier records
pub data Rec : Type 0 where
  leaf : Kind → ℕ → Rec
  branch : Head → ℕ → ℕ → Rec

-- the term of a record, over the terms of the earlier ones
abbrev pub message : (ℕ → Term) → Rec → Term
message T (leaf κ n) = atom κ n
message T (branch h x y) = node h (T x) (T y)

-- what a list has past its end
abbrev pub void : Term
void = atom plain 0

-- the terms of the first n records, each read over those before it
unfoldable pub decoded : (ℕ → Rec) → ℕ → List Term
decoded r n = grow [] (λ ts i. message (λ m. get_or ts m void) (r i)) n
