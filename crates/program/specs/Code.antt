-- What the code's structs and answers mean in document 01's terms.
use mathlib.Core.{Bool.cond, Option.Option, Option.none, Option.some, List.List, List.map}
use Rattle.std.specs.Prelude.{ℕ, Result, Ok, Err, Option as Maybe, Some, None}
use Rattle.base.specs.declared.refusal.Refusal.{Refusal}
use Rattle.program.specs.declared.Instruction.{Instruction as InstructionRead}
use Rattle.program.specs.declared.Test.{Test as TestRead}
use Rattle.program.specs.declared.Program.{Program as ProgramRead}
use Rattle.term.specs.declared.Relation.{Relation as RelationGiven}
use Rattle.term.specs.{Term.Relation, Code.relation_is}
use Rattle.program.specs.Program.{relation_of, Instruction, Program, test_at}
use Rattle.program.specs.Computed.{bad_test, bad_program}

abbrev pub relation_in : Maybe RelationGiven → Option Relation
relation_in None = none
relation_in (Some r) = some (relation_is r)

-- the relation that a test over n registers asks for; none where it is bad
abbrev pub asked_by : ℕ → Instruction → Option Relation
asked_by n t = cond (bad_test n t) none (relation_of t.rule)

-- the relation that the test of a program asks for; none where check 13 fails
abbrev pub asked : List ℕ → List ℕ → Option Relation
asked s P = cond (bad_program s P) none (relation_of (test_at P).rule)

-- what check 13 answers that the test asks for
abbrev pub asks : Result RelationGiven Refusal → Option Relation
asks (Ok r) = some (relation_is r)
asks (Err e) = none

abbrev pub instruction_in : InstructionRead → Instruction
instruction_in i = record { rule = i.rule; left = i.left; right = i.right }

abbrev pub instructions_in : List InstructionRead → List Instruction
instructions_in l = map instruction_in l

abbrev pub test_in : TestRead → Instruction
test_in t = record { rule = t.letter; left = t.left; right = t.right }

abbrev pub program_in : ProgramRead → Program
program_in p = record { steps = instructions_in p.instructions.now; test = test_in p.test }
