-- What the calls `check` and `answer` promise: the verdict, and document 01's register program on the page.
use Rattle.std.specs.Prelude.{◌≡◌, Result}
use Rattle.base.specs.{declared.refusal.Refusal.Refusal, Words.true, Words.false, Words.ite, Words.cond, Words.List, Words.Option, Words.none, Words.some, Words.ℕ, Words.eqb, Words.length, Words.first, Words.listed, Answer.Answer, Answer.done, Answer.refused, Answer.answer_of, Answer.Writes}
use Rattle.term.specs.{Number.has_one, Computed.term?}
use Rattle.submission.specs.{Record.entries, Record.steps, Record.entry_at, Record.term, Record.rule_at, Record.p_at, Record.q_at, Record.conclusion_at, Record.verifying, Record.way_at, Record.companion, Check.Way, Check.way_of, Check.Operand, Check.verifying_result, Check.companion_result, Check.lowest_conclusion, Check.lowest_companion, Check.guess_register, Check.given_register, Check.Target, Check.knowledge_step, Check.row}
use Rattle.derivation.specs.Step.{holds_term, written}
use Rattle.program.specs.Program.{row_of, Instruction, Program, bytes_of}
use Rattle.conditions.specs.{declared.Verdict.Verdict, declared.Verdict.TheVariants.Accepted, declared.Verdict.TheVariants.Refused, Condition.target, Computed.check_answer}

-- the lowest register that holds the term t; A5: in ways k and j the guess's "register serves no premise"
unfoldable pub lowest : List ℕ → ℕ → ℕ
lowest s t = elim (first (holds_term s t) (written s (steps s))) [ none ↦ 0 | some r ↦ r ]

-- "per step the rule number and two registers (second 0 for rules 1, 2)"; "A premise is taken from its lowest register."
unfoldable pub instruction : List ℕ → ℕ → Instruction
instruction s i = record { rule = rule_at s i; left = lowest s (p_at s i); right = cond (has_one (rule_at s i)) 0 (lowest s (q_at s i)) }

-- A5: the entry of the knowledge that is the term claimed
unfoldable pub entry_given : List ℕ → Target → ℕ
entry_given s t = elim (first (λ r. ite (term? (target s t) (term s (entry_at s r))) true false) (entries s)) [ none ↦ 0 | some r ↦ r ]

-- the register that a test of the claim names; A5: "the guess register first, then the step's (with 255, the entry's)"
abbrev pub named : List ℕ → Operand → ℕ
named s verifying_result = written s (verifying s)
named s companion_result = written s (companion s)
named s lowest_conclusion = lowest s (conclusion_at s (verifying s))
named s lowest_companion = lowest s (companion s)
named s guess_register = entries s
named s (given_register t) = cond (eqb (verifying s) knowledge_step) (entry_given s t) (written s (verifying s))

-- the test of the claim's way; where there is none, 0 is no test's letter
abbrev pub test_for : List ℕ → Option Way → Instruction
test_for s none = record { rule = 0; left = 0; right = 0 }
test_for s (some w) = record { rule = (row_of (row w).relation).letter; left = named s (row w).tested; right = named s (row w).against }

-- document 01's register program for the submission
unfoldable pub program : List ℕ → Program
program s = record { steps = listed (instruction s) (steps s); test = test_for s (way_of (way_at s)) }

-- the answer that a verdict stands for
abbrev pub verdict_answer : Verdict → Answer
verdict_answer (Accepted n) = done n
verdict_answer (Refused number place) = refused number place

-- the verdict r and the page afterwards: the answer of checking, and where it is done the submission's register program
abbrev pub Checked : List ℕ → List ℕ → Verdict → List ℕ → Type 0
Checked s page r page' = Writes (λ a. verdict_answer r ≡ a) (check_answer s (length page)) (bytes_of (program s)) page page'

-- the same of the result r of `answer`
abbrev pub ProgramWritten : List ℕ → List ℕ → Result ℕ Refusal → List ℕ → Type 0
ProgramWritten s page r page' = Writes (λ a. answer_of r ≡ a) (check_answer s (length page)) (bytes_of (program s)) page page'
