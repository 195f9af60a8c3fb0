-- Register programs: their tests, instructions and bytes, and what row 13 asks of them. Document 01, 'The register program' and 'Verdicts'.
use Rattle.std.specs.Prelude.{◌≡◌, ◌∷◌, ◌++◌, ◌+◌, ◌*◌, ◌<◌, ◌≤◌}
use Rattle.base.specs.{Words.Bool, Words.true, Words.false, Words.cond, Words.List, Words.[], Words.Option, Words.none, Words.some, Words.ℕ, Words.eqb, Words.length, Words.byte}
use Rattle.term.specs.{Term.Relation, Term.equal, Term.inverses, Number.rules, Number.has_one}
use Rattle.submission.specs.Record.{entries}

-- a test's letter, how many registers it names (the byte of one that it does not name is 0), and its printed word
pub record TestRow : Type 0 where
  pub letter : ℕ
  pub registers : ℕ
  pub word : List ℕ

-- "`=` (3D) or `i` (69), then two registers"; "`i` prints as `hasinv`"
abbrev pub row_of : Relation → TestRow
row_of equal = record { letter = 0x3D; registers = 2; word = 0x3D ∷ [] }
row_of inverses = record { letter = 0x69; registers = 2; word = 0x68 ∷ 0x61 ∷ 0x73 ∷ 0x69 ∷ 0x6E ∷ 0x76 ∷ [] }

-- the relation of a letter
unfoldable pub relation_of : ℕ → Option Relation
relation_of l = cond (eqb l (row_of equal).letter) (some equal) (cond (eqb l (row_of inverses).letter) (some inverses) none)

abbrev pub relation_word : Option Relation → List ℕ
relation_word none = []
relation_word (some r) = (row_of r).word

-- "per step the rule number and two registers"; the test, "`=` (3D) or `i` (69), then two registers", has its letter in the rule's place
pub record Instruction : Type 0 where
  pub rule : ℕ
  pub left : ℕ
  pub right : ℕ

pub record Program : Type 0 where
  pub steps : List Instruction
  pub test : Instruction

-- "N in one byte, then per step the rule number and two registers .., then a test of 3 bytes"
unfoldable pub instruction_bytes : List Instruction → List ℕ
instruction_bytes [] = []
instruction_bytes (i ∷ is) = i.rule ∷ i.left ∷ i.right ∷ instruction_bytes is

unfoldable pub bytes_of : Program → List ℕ
bytes_of p = length p.steps ∷ instruction_bytes (p.steps ++ p.test ∷ [])

-- "It is 3N+4 bytes in all"
abbrev pub program_length : ℕ → ℕ
program_length n = 3 * n + 4

-- reading a program's bytes
unfoldable pub instruction_at : List ℕ → ℕ → Instruction
instruction_at P i = record { rule = byte P (3 * i + 1); left = byte P (3 * i + 2); right = byte P (3 * i + 3) }

abbrev pub test_at : List ℕ → Instruction
test_at P = instruction_at P (byte P 0)

-- the second operand's register; a rule with one operand takes it twice
abbrev pub operand : Instruction → ℕ
operand i = cond (has_one i.rule) i.left i.right

-- an instruction's registers are among the n that are written, and an unused byte is 0
abbrev pub RegistersFit : ℕ → Bool → Instruction → Type 0
RegistersFit n one i = (i.left < n) × (one ≡ true → i.right ≡ 0) × (one ≡ false → i.right < n)

-- not "empty; length not 3n+4 or n over 128, n the first byte; rule; register not yet written; unused byte not 0; test letter"
pub record ProgramFits (s P : List ℕ) : Type 0 where
  pub few : byte P 0 ≤ 128
  pub long : length P ≡ program_length (byte P 0)
  pub rules_right : (i : ℕ) → i < byte P 0 → (instruction_at P i).rule < rules
  pub registers_right : (i : ℕ) → i < byte P 0 → RegistersFit (entries s + 1 + i) (has_one (instruction_at P i).rule) (instruction_at P i)
  pub relation : Relation
  pub letter_right : relation_of (test_at P).rule ≡ some relation
  pub test_right : RegistersFit (entries s + 1 + byte P 0) (eqb (row_of relation).registers 1) (test_at P)
