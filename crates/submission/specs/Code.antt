-- What the code's records mean in document 01's terms.
use mathlib.Core.{Path.◌≡◌, List.List, Option.none, Option.some}
use Rattle.std.specs.Prelude.{ℕ, ◌+◌, ◌*◌, ◌%◌, ◌≤◌, ◌<◌, Result, Ok, Err, Option as Maybe, Some, None}
use Rattle.submission.specs.declared.Term.{Term}
use Rattle.submission.specs.declared.chains.RecordChains.{RecordChains}
use Rattle.submission.specs.declared.Claim.{Claim}
use Rattle.submission.specs.declared.ClaimBytes.{ClaimBytes}
use Rattle.submission.specs.declared.Way.{Way as WayRead}
use Rattle.submission.specs.declared.Way.TheVariants.{AnotherStep, AtStart, InverseKey, GuessDerived, InverseDerived}
use Rattle.submission.specs.declared.UnknownWay.{UnknownWay}
use Rattle.submission.specs.declared.Range.{Range as RangeRead}
use Rattle.submission.specs.declared.Range.TheVariants.{Step, Term as TermNumber, Zero, StepOrKnowledge}
use Rattle.submission.specs.declared.Target.{Target as TargetRead}
use Rattle.submission.specs.declared.Target.TheVariants.{Guess, Inverse}
use Rattle.submission.specs.declared.Claims.{Claims as ClaimsRead}
use Rattle.submission.specs.declared.Claims.TheVariants.{Verifier, Derived}
use Rattle.submission.specs.declared.Operand.{Operand as OperandRead}
use Rattle.submission.specs.declared.Operand.TheVariants.{VerifyingResult, CompanionResult, LowestConclusion, LowestCompanion, GuessRegister, GivenRegister}
use Rattle.submission.specs.declared.Row.{Row as RowRead}
use Rattle.base.specs.declared.refusal.Refusal.{Refusal}
use Rattle.base.specs.Code.{check_of, Chaining}
use Rattle.submission.specs.{Check.Way, Check.another_step, Check.at_start, Check.inverse_key, Check.guess_derived, Check.inverse_derived, Check.way_of, Check.Target, Check.the_guess, Check.its_inverse, Check.Claims, Check.verifier, Check.derived, Check.Range, Check.step_number, Check.term_number, Check.zero_only, Check.step_or_knowledge, Check.Operand, Check.verifying_result, Check.companion_result, Check.lowest_conclusion, Check.lowest_companion, Check.guess_register, Check.given_register, Check.row, Check.knowledge_step, Record.start, Record.count, Record.kind_at, Record.x_at, Record.y_at, Record.guess, Record.verifying, Record.way_at, Record.companion, Record.InKnowledge, Computed.checks1to4, Computed.checks1to5}
use Rattle.term.specs.Term as words
use Rattle.term.specs.Code.{relation_is}
use Rattle.base.specs.{Words.Bytes, Words.cond, Words.eqb, Computed.Check, Computed.passes}

-- r is where body i starts; a body has at most 255 records of at most 4 bytes
pub record Starts (s : List ℕ) (i r : ℕ) : Type 0 where
  pub is : r ≡ start s i
  pub small : r ≤ 16 + 1020 * i

-- t holds the record of term i
pub record IsTerm (s : List ℕ) (i : ℕ) (t : Term) : Type 0 where
  pub kind : t.kind ≡ kind_at s i
  pub x : t.x ≡ x_at s i
  pub y : t.y ≡ y_at s i

-- bytes that passed checks 1 to 4
pub record TableRead (s : List ℕ) : Type 0 where
  pub bytes : Bytes s
  pub passed : checks1to4 s ≡ passes

-- bytes that passed checks 1 to 5
pub record SubmissionRead (s : List ℕ) : Type 0 where
  pub bytes : Bytes s
  pub passed : checks1to5 s ≡ passes

-- x is part of a message in the knowledge
abbrev pub KnownPart : List ℕ → words.Term → Type 0
KnownPart s x = (t : words.Term) × InKnowledge s t × words.Part x t

-- ---- the claim, and the table of ways
abbrev pub way_is : WayRead → Way
way_is AnotherStep = another_step
way_is AtStart = at_start
way_is InverseKey = inverse_key
way_is GuessDerived = guess_derived
way_is InverseDerived = inverse_derived

-- a letter is read as this way, or as none
abbrev pub ReadsWay : ℕ → Result WayRead UnknownWay → Type 0
ReadsWay l (Ok w) = way_of l ≡ some (way_is w)
ReadsWay l (Err e) = way_of l ≡ none

abbrev pub range_is : RangeRead → Range
range_is Step = step_number
range_is TermNumber = term_number
range_is Zero = zero_only
range_is StepOrKnowledge = step_or_knowledge

abbrev pub target_is : TargetRead → Target
target_is Guess = the_guess
target_is Inverse = its_inverse

abbrev pub claims_is : ClaimsRead → Claims
claims_is Verifier = verifier
claims_is (Derived t) = derived (target_is t)

abbrev pub operand_is : OperandRead → Operand
operand_is VerifyingResult = verifying_result
operand_is CompanionResult = companion_result
operand_is LowestConclusion = lowest_conclusion
operand_is LowestCompanion = lowest_companion
operand_is GuessRegister = guess_register
operand_is (GivenRegister t) = given_register (target_is t)

-- r holds a way's row, but for its letter
pub record IsRow (r : RowRead) (w : Way) : Type 0 where
  pub claims : claims_is r.claims ≡ (row w).claims
  pub step : range_is r.step ≡ (row w).step
  pub companion : range_is r.companion ≡ (row w).companion
  pub kept : r.kept ≡ (row w).companion_kept
  pub relation : relation_is r.relation ≡ (row w).relation
  pub tested : operand_is r.tested ≡ (row w).tested
  pub against : operand_is r.against ≡ (row w).against

-- b holds the claim's bytes
pub record IsClaimBytes (s : List ℕ) (b : ClaimBytes) : Type 0 where
  pub guessed : b.guess ≡ guess s
  pub step : b.step ≡ verifying s
  pub letter : b.letter ≡ way_at s
  pub other : b.companion ≡ companion s

-- the step that a number of the claim names; none where it stands for an entry of the knowledge
abbrev pub step_named : ℕ → Maybe ℕ
step_named n = cond (eqb n knowledge_step) None (Some n)

-- c holds the claim
pub record IsClaim (s : List ℕ) (c : Claim) : Type 0 where
  pub guessed : c.guess ≡ guess s
  pub step : c.step ≡ verifying s
  pub way : way_of (way_at s) ≡ some (way_is c.way)
  pub other : c.companion ≡ companion s

-- r is the result of the checks d, with the claim where they pass
pub record ClaimRead (s : List ℕ) (d : Check) (r : Result Claim Refusal) : Type 0 where
  pub answer : check_of r ≡ d
  pub claim : (c : Claim) → r ≡ Ok c → IsClaim s c

-- the byte by which records are chained, made of x and y with a factor; equal records have the same
abbrev pub chained_by : ℕ → List ℕ → ℕ → ℕ
chained_by k s i = (k * x_at s i + y_at s i) % 256

-- the first i records are chained by two such bytes
pub record RecordsChained (s : List ℕ) (i : ℕ) (c : RecordChains) : Type 0 where
  pub first : Chaining (chained_by 21 s) i c.first.before c.first.latest
  pub second : Chaining (chained_by 42 s) i c.second.before c.second.latest

-- o is the number of one of the first i records that t holds, where there is one
abbrev pub RecordFound : List ℕ → ℕ → Term → Maybe ℕ → Type 0
RecordFound s i t None = (n : ℕ) → n < i → IsTerm s n t → ⊥
RecordFound s i t (Some n) = (n < i) × IsTerm s n t

-- what the limits say of the counts that programs and registers are made of
pub record Limited (s : List ℕ) : Type 0 where
  pub terms : count s 0 ≤ 250
  pub entries : count s 1 ≤ 64
  pub steps : count s 2 ≤ 128
