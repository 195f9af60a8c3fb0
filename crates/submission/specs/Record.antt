-- A submission's contents and records: document 01, 'The submission'. "Records count from 0."
use Rattle.std.specs.Prelude.{◌≡◌, ◌∷◌, ◌+◌, ◌*◌, ◌<◌}
use Rattle.base.specs.{Words.Bool, Words.true, Words.false, Words.ite, Words.cond, Words.List, Words.[], Words.Option, Words.none, Words.some, Words.ℕ, Words.zero, Words.suc, Words.get_or, Words.first, Words.byte}
use Rattle.term.specs.{Number.has_one, Term.plain, Term.unary, Term.make, Term.Shape, Term.atomic, Term.compound, Term.Term, Term.atom, Term.atom_kind, Number.shape_of, Term.Rec, Term.leaf, Term.branch, Term.decoded, Term.void, Term.second, Computed.term?}

-- "four entries of 4 bytes: a letter, a one-byte count, a two-byte start", 0 to 3; "T terms, K knowledge, D derivation, V claim"
abbrev pub letter : ℕ → ℕ
letter i = get_or (0x54 ∷ 0x4B ∷ 0x44 ∷ 0x56 ∷ []) i 0

abbrev pub count : List ℕ → ℕ → ℕ
count s i = byte s (4 * i + 1)

-- the bytes of one record of each body: "Terms, 3 bytes", "Knowledge, 1 byte", "Derivation, 4 bytes", "Claim, 4 bytes"
abbrev pub width : ℕ → ℕ
width i = get_or (3 ∷ 1 ∷ 4 ∷ 4 ∷ []) i 0

-- "The first start is 16, each later start is where the former body ends", of bodies with these counts; start 4 is where the last body ends
unfoldable pub start_of : (ℕ → ℕ) → ℕ → ℕ
start_of n zero = 16
start_of n (suc i) = start_of n i + width i * n i

abbrev pub start : List ℕ → ℕ → ℕ
start s i = start_of (count s) i

-- "Counts: T 1 to 250, K 0 to 64, D 0 to 128, V exactly 1."
abbrev pub least : ℕ → ℕ
least i = get_or (1 ∷ 0 ∷ 0 ∷ 1 ∷ []) i 0

abbrev pub most : ℕ → ℕ
most i = get_or (250 ∷ 64 ∷ 128 ∷ 1 ∷ []) i 0

-- "Call the counts of K and D also K and N": the counts of terms, of knowledge entries and of steps
abbrev pub terms : List ℕ → ℕ
terms s = count s 0

abbrev pub entries : List ℕ → ℕ
entries s = count s 1

abbrev pub steps : List ℕ → ℕ
steps s = count s 2

-- "Terms, 3 bytes: kind, x, y"
abbrev pub kind_at : List ℕ → ℕ → ℕ
kind_at s i = byte s (start s 0 + 3 * i)

abbrev pub x_at : List ℕ → ℕ → ℕ
x_at s i = byte s (start s 0 + 3 * i + 1)

abbrev pub y_at : List ℕ → ℕ → ℕ
y_at s i = byte s (start s 0 + 3 * i + 2)

-- "x, y are a 16-bit name, high byte first"
abbrev pub name_at : List ℕ → ℕ → ℕ
name_at s i = x_at s i * 256 + y_at s i

-- "Knowledge, 1 byte: a term number"
abbrev pub entry_at : List ℕ → ℕ → ℕ
entry_at s i = byte s (start s 1 + i)

-- "Derivation, 4 bytes: rule, p, q, conclusion"
abbrev pub rule_at : List ℕ → ℕ → ℕ
rule_at s i = byte s (start s 2 + 4 * i)

abbrev pub p_at : List ℕ → ℕ → ℕ
p_at s i = byte s (start s 2 + 4 * i + 1)

abbrev pub q_at : List ℕ → ℕ → ℕ
q_at s i = byte s (start s 2 + 4 * i + 2)

-- the second premise of a step record. "Rules 1 and 2 have q = 0"; A2: rule 7, "with q = 0". One premise counts as both
unfoldable pub second_for : ℕ → ℕ → ℕ → ℕ
second_for r p q = cond (has_one r) p q

-- and of step i
abbrev pub second_at : List ℕ → ℕ → ℕ
second_at s i = second_for (rule_at s i) (p_at s i) (q_at s i)

abbrev pub conclusion_at : List ℕ → ℕ → ℕ
conclusion_at s i = byte s (start s 2 + 4 * i + 3)

-- "Claim, 4 bytes: guess (an atom's term number), verifying step, way .., companion"
abbrev pub guess : List ℕ → ℕ
guess s = byte s (start s 3)

abbrev pub verifying : List ℕ → ℕ
verifying s = byte s (start s 3 + 1)

abbrev pub way_at : List ℕ → ℕ
way_at s = byte s (start s 3 + 2)

abbrev pub companion : List ℕ → ℕ
companion s = byte s (start s 3 + 3)

-- the record of a shape, where one operand stands twice; a kind that is none stands for nothing, and check 3 refuses it
abbrev pub record_of : Option Shape → ℕ → ℕ → ℕ → Rec
record_of none name x y = leaf plain name
record_of (some (atomic κ)) name x y = leaf κ name
record_of (some (compound f)) name x y = branch (make f) x (cond (unary (second f)) x y)

unfoldable pub record_at : List ℕ → ℕ → Rec
record_at s i = record_of (shape_of (kind_at s i)) (name_at s i) (x_at s i) (y_at s i)

-- the term of a term number, as a tree
unfoldable pub term : List ℕ → ℕ → Term
term s n = get_or (decoded (record_at s) (terms s)) n void

-- the term t is that of number n; and the number of the term t, where it is listed: "equal terms have equal numbers"
abbrev pub is_numbered : List ℕ → Term → ℕ → Bool
is_numbered s t n = ite (term? t (term s n)) true false

unfoldable pub number_in : List ℕ → Term → Option ℕ
number_in s t = first (is_numbered s t) (terms s)

-- it is not listed
abbrev pub is_unlisted : List ℕ → Term → Bool
is_unlisted s t = elim (number_in s t) [ none ↦ true | some n ↦ false ]

-- a message in the knowledge
abbrev pub InKnowledge : List ℕ → Term → Type 0
InKnowledge s t = (r : ℕ) × (r < entries s) × (t ≡ term s (entry_at s r))

-- "the atom of the guess's kind with that name"
unfoldable pub guessed : List ℕ → ℕ → Term
guessed s name = atom (atom_kind (shape_of (kind_at s (guess s)))) name
