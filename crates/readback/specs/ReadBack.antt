-- From a program back to its derivation and its claim: document 02, A6.
use Rattle.std.specs.Prelude.{◌≡◌, ◌⊎◌, ◌∷◌, ◌++◌, ◌+◌, ◌-◌, ◌*◌, ◌<◌}
use Rattle.base.specs.{Words.Bool, Words.cond, Words.List, Words.[], Words.Option, Words.none, Words.some, Words.ℕ, Words.eqb, Words.ltb, Words.fours, Words.byte, Answer.numbered, Answer.row11}
use Rattle.term.specs.{Term.Relation, Term.equal, Term.inverses, Number.has_one}
use Rattle.submission.specs.Record.{terms, entries, guess, term, number_in}
use Rattle.submission.specs.Check.{Way, another_step, at_start, inverse_key, guess_derived, inverse_derived, Range, step_number, term_number, zero_only, step_or_knowledge, knowledge_step, row}
use Rattle.derivation.specs.Step.{written}
use Rattle.program.specs.Program.{relation_of, Instruction, instruction_at, test_at}
use Rattle.machine.specs.Run.{held, program_rows}

-- ---- the bodies
-- the step whose result register r holds
abbrev pub step_of : List ℕ → ℕ → ℕ
step_of s r = r - (entries s + 1)

-- the number of the term that register r holds with the right guess; one that isn't listed, which check 17 refuses, reads as 0
unfoldable pub number : List ℕ → List ℕ → ℕ → ℕ
number s P r = elim (number_in s (held s P r)) [ none ↦ 0 | some n ↦ n ]

-- "rule, p, q, conclusion", of instruction i; q is 0 where the rule has one premise
abbrev pub step_read : List ℕ → List ℕ → ℕ → List ℕ
step_read s P i =
    (instruction_at P i).rule
    ∷ number s P (instruction_at P i).left
    ∷ cond (has_one (instruction_at P i).rule) 0 (number s P (instruction_at P i).right)
    ∷ number s P (written s i)
    ∷ []

-- one for each instruction
abbrev pub derivation_read : List ℕ → List ℕ → List ℕ
derivation_read s P = fours (step_read s P) (byte P 0)

-- "The test is read as the layout writes it: the guess register first means k or j; else `i` means c, and `=` means a with a step's register
-- second, b with a lower one." By what the test asks, whether the guess register is first, and whether a step's is second; a letter that is no
-- test's, which check 13 refuses, reads as b
abbrev pub way_from : Option Relation → Bool → Bool → Way
way_from none guessFirst stepSecond = at_start
way_from (some equal) guessFirst stepSecond = cond guessFirst guess_derived (cond stepSecond another_step at_start)
way_from (some inverses) guessFirst stepSecond = cond guessFirst inverse_derived inverse_key

abbrev pub way_read : List ℕ → Instruction → Way
way_read s t = way_from (relation_of t.rule) (eqb t.left (entries s)) (ltb (entries s) t.right)

-- the claim's step, by its range: that of the first register; in ways k and j that of the second, or 255 where that is a knowledge register
abbrev pub verifying_read : List ℕ → Instruction → Range → ℕ
verifying_read s t step_number = step_of s t.left
verifying_read s t step_or_knowledge = cond (ltb t.right (entries s)) knowledge_step (step_of s t.right)
verifying_read s t term_number = 0
verifying_read s t zero_only = 0

-- and the companion, of the second register r, whose term has the number n: way a, its step; way c, n; else 0
abbrev pub companion_read : List ℕ → ℕ → ℕ → Range → ℕ
companion_read s r n step_number = step_of s r
companion_read s r n term_number = n
companion_read s r n zero_only = 0
companion_read s r n step_or_knowledge = 0

-- "guess .., verifying step, way .., companion": the guess is the submission's own
abbrev pub claim_read : List ℕ → List ℕ → List ℕ
claim_read s P =
    guess s
    ∷ verifying_read s (test_at P) (row (way_read s (test_at P))).step
    ∷ (row (way_read s (test_at P))).letter
    ∷ companion_read s (test_at P).right (number s P (test_at P).right) (row (way_read s (test_at P))).companion
    ∷ []

-- "A page gets the derivation, then the claim: 4n+4 bytes for a program of n steps."
abbrev pub bodies_read : List ℕ → List ℕ → List ℕ
bodies_read s P = derivation_read s P ++ claim_read s P

abbrev pub bodies_length : ℕ → ℕ
bodies_length n = 4 * n + 4

-- ---- the rows
-- "a register whose term isn't listed"
abbrev pub OffTable : List ℕ → List ℕ → ℕ → Type 0
OffTable s P r = (n : ℕ) → n < terms s → held s P r ≡ term s n → ⊥

-- "a final test whose first register is a knowledge register, or whose registers are both the guess's"
abbrev pub NoClaim : List ℕ → Instruction → Type 0
NoClaim s t = (t.left < entries s) ⊎ ((t.left ≡ entries s) × (t.right ≡ entries s))

-- "It refuses with 17 (off the table) .., place the first such register, then with 18 (no claim) ..; both come after 13, and 11 comes last."
-- The page has room bytes.
abbrev pub read_back_rows : List ℕ → List ℕ → ℕ → List (ℕ → ℕ → Type 0)
read_back_rows s P room =
    program_rows s P
    ++ numbered 17 (λ r. (r < written s (byte P 0)) × OffTable s P r)
    ∷ numbered 18 (λ p. (p ≡ 0) × NoClaim s (test_at P))
    ∷ row11 (bodies_length (byte P 0)) room
    ∷ []
