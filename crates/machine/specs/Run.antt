-- The machine: document 01, 'Machine'. "Run takes a submission, a 16-bit name and a program."
use Rattle.std.specs.Prelude.{◌≡◌, ◌∷◌, ◌++◌}
use Rattle.base.specs.{Words.Bool, Words.true, Words.false, Words.cond, Words.ite, Words.List, Words.[], Words.Option, Words.none, Words.some, Words.ℕ, Words.get_or, Words.grow, Words.listed, Words.byte, Answer.numbered}
use Rattle.term.specs.{Term.asymmetric, Term.Term, Term.Stale, Computed.term?, Term.void, Reduce.op, Computed.match?, Number.head_of, Term.Relation, Term.equal, Term.inverses}
use Rattle.submission.specs.{Record.entries, Record.entry_at, Record.guess, Record.name_at, Record.term, Record.InKnowledge, Record.guessed, Check.rows1to5}
use Rattle.program.specs.Program.{relation_of, Instruction, instruction_at, test_at, operand, ProgramFits}

-- the registers at the start: the knowledge in order, then the guess, which "starts as the atom of the guess's kind with that name"
unfoldable pub initial : List ℕ → ℕ → List Term
initial s name = listed (λ i. term s (entry_at s i)) (entries s) ++ guessed s name ∷ []

-- one instruction over the registers' values
unfoldable pub executed : List Term → Instruction → Term
executed vs i = op (head_of i.rule) (get_or vs i.left void) (get_or vs (operand i) void)

-- the registers after the first n instructions
unfoldable pub registers : List ℕ → ℕ → List ℕ → ℕ → List Term
registers s name P n = grow (initial s name) (λ vs i. executed vs (instruction_at P i)) n

-- A6: "Each register's term is what the machine holds with the right guess": that of register r, after the program's instructions
unfoldable pub held : List ℕ → List ℕ → ℕ → Term
held s P r = get_or (registers s (name_at s (guess s)) P (byte P 0)) r void

-- "`=` signals 1 for equal terms, `i` when the first is a key and the second its inverse, else 0"
abbrev pub holds : Option Relation → Term → Term → Bool
holds none a b = false
holds (some equal) a b = ite (term? b a) true false
holds (some inverses) a b = ite (match? asymmetric a b) true false

unfoldable pub signals : List Term → Instruction → Bool
signals vs t = holds (relation_of t.rule) (get_or vs t.left void) (get_or vs t.right void)

unfoldable pub signal : List ℕ → ℕ → List ℕ → ℕ
signal s name P = cond (signals (registers s name P (byte P 0)) (test_at P)) 1 0

-- "run makes 1 to 5, then 13": 13 program
abbrev pub program_rows : List ℕ → List ℕ → List (ℕ → ℕ → Type 0)
program_rows s P = rows1to5 s ++ numbered 13 (λ p. (p ≡ 0) × (ProgramFits s P → ⊥)) ∷ []

-- A3: "a name whose atom of the guess's kind, or that atom's inverse, is part of the knowledge"; "The guess's own name stays allowed."
abbrev pub StaleName : List ℕ → ℕ → Type 0
StaleName s name = (name ≡ name_at s (guess s) → ⊥) × Stale (InKnowledge s) (guessed s name)

-- "It refuses with 15 (stale) .., tried last"
abbrev pub run_rows : List ℕ → ℕ → List ℕ → List (ℕ → ℕ → Type 0)
run_rows s name P = program_rows s P ++ numbered 15 (λ p. (p ≡ 0) × StaleName s name) ∷ []
