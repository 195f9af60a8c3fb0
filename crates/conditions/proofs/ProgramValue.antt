-- The register program as it is computed: each instruction, the test, and the value that holds them.
use mathlib.Core.Path.{◌≡◌, refl, sym, ap, ◌∙◌}
use mathlib.Core.Bool.{Bool, true, false, cond}
use mathlib.Core.List.{List, ◌++◌}
use mathlib.Core.Option.{none, some}
use mathlib.Core.Logic.{⊎_elim}
use Prim.Native.Nat.{ℕ, ◌≤◌, ◌<◌}
use native.Mathlib.Omega.{arith}
use lib.Dec.{eqb}
use lib.ListN.{length, take, drop}
use borrow.Author.Tests.{eq-eqb, eqb-true}
use Rattle.base.specs.Code.{is_some, number_is}
use Rattle.base.proofs.Says.{says_true, says_and}
use Rattle.term.specs.Number.{has_one}
use Rattle.submission.specs.declared.Claim.{Claim}
use Rattle.submission.specs.{Record.steps, Record.conclusion_at, Record.verifying, Record.way_at, Record.companion, Computed.are_inverse}
use Rattle.submission.specs.declared.Row.{Row as RowRead}
use Rattle.submission.specs.declared.Target.{Target as TargetRead}
use Rattle.submission.specs.Check.{Way, another_step, at_start, inverse_key, guess_derived, inverse_derived, way_of, claims_in, knowledge_step, given_register, row}
use Rattle.submission.specs.Code.{way_is, target_is, operand_is, step_named, IsRow, IsClaim}
use Rattle.program.specs.Program.{bytes_of, program_length}
use Rattle.derivation.specs.declared.Step.{Step}
use Rattle.derivation.specs.{Step.written, Computed.is_known}
use Rattle.submission.specs.Record.{second_for, second_at}
use Rattle.derivation.specs.Computed.{unfounded}
use Rattle.derivation.specs.Code.{IsStep}
use Rattle.derivation.specs.Computed.{lowest_among}
use Rattle.std.specs.Prelude.{Option as Maybe, Some, None, is_some as is_held}
use Rattle.derivation.proofs.Theory.StepMeaning.{fits_iff, steps_pass}
use Rattle.derivation.specs.Step.{StepFits}
use Rattle.derivation.proofs.Theory.KnownPremises.{first_known, second_known, known_stays}
use Rattle.program.specs.declared.Instruction.{Instruction as InstructionRead}
use Rattle.program.specs.declared.Test.{Test as TestRead}
use Rattle.program.specs.Code.{instruction_in, instructions_in, test_in}
use Rattle.std.proofs.lemmas.List.{length-map}
use Rattle.base.specs.Words.{listed}
use Rattle.base.proofs.Grow.{length_listed}
use Rattle.program.proofs.Theory.Value.{Holds, held_steps}
use Rattle.conditions.specs.Calls.{lowest, entry_given, named, instruction, program, test_for}
use Rattle.conditions.specs.Code.{Acceptable, Held}
use Rattle.conditions.specs.Computed.{entry_found, is_given}
use Rattle.conditions.proofs.PassedFacts.{second_is, founded_claimed, acceptable_founded, acceptable_limited, second_way_lem, target_given}
use Rattle.submission.proofs.Theory.ListedTerms.{Claimed, verifying_below, given_range}
use Rattle.conditions.proofs.Found.{held_number, known_at_end, register_found}
use Rattle.conditions.proofs.Theory.{ConditionsMeant.same_entry}

-- ---- "A premise is taken from its lowest register": the lowest register v of a term that is known after the last step
module _ (s : List ℕ) (t : ℕ) (v : Maybe ℕ) (e : number_is v ≡ lowest_among s (written s (steps s)) t) where
  pub lowest_there : is_known s (steps s) t ≡ true → is_held v ≡ true
  lowest_there k = known_at_end s t v e ∙ k

  pub lowest_is : {r : ℕ} → v ≡ Some r → r ≡ lowest s t
  unfolding lowest
  lowest_is {r} f = let z : lowest_among s (written s (steps s)) t ≡ some r = sym e ∙ ap number_is f in rw (lowest, z)

-- the premises of step i
module _ {s : List ℕ} (h : Acceptable s) {i : ℕ} {a : Step} (x : IsStep s i a) (l : i < steps s) where
  step_founded : unfounded s i ≡ false
  step_founded = ((steps_pass s).0 (acceptable_founded h).founded i l).1

  pub first_kept : is_known s (steps s) a.p ≡ true
  first_kept = rw x.first (known_stays s i (steps s) _ (omega arith) (first_known s i step_founded))

  pub second_kept : {b : Bool} → b ≡ has_one a.rule → b ≡ false → is_known s (steps s) a.q ≡ true
  unfolding second_for
  second_kept q n =
      let z : a.q ≡ second_at s i = second_is x (rw (second_for, ← q, n)) in
      rw z (known_stays s i (steps s) _ (omega arith) (second_known s i step_founded))

-- ---- the registers that the test names: what each operand of the way's row asks can be had
module _ {s : List ℕ} (h : Acceptable s) where
  one_of_steps : (i : ℕ) → i < steps s → i < 128
  one_of_steps i l = omega (arith, (acceptable_limited h).steps)

  known_later : (t : ℕ) → is_known s 0 t ≡ true → is_known s (steps s) t ≡ true
  known_later t k = known_stays s 0 (steps s) t (omega arith) k

  tested_held : (w : Way) → way_of (way_at s) ≡ some w → Held s (row w).tested × Held s (row w).against
  tested_held another_step e =
      let z = founded_claimed (acceptable_founded h) in
      let y : z.way ≡ another_step = cc (z.has_way, e) in
      (verifying_below z (ap claims_in e), rw y at z.in_range_lem)
  tested_held at_start e = (verifying_below (founded_claimed (acceptable_founded h)) (ap claims_in e), known_later _ (rw e at (second_way_lem h (ap claims_in e))))
  tested_held inverse_key e =
      let k = (says_and _ _ (says_true (are_inverse s (conclusion_at s (verifying s)) (companion s))) (says_true (is_known s (steps s) (companion s)))).0 (rw e at (second_way_lem h (ap claims_in e))) in
      (verifying_below (founded_claimed (acceptable_founded h)) (ap claims_in e), k.1)
  tested_held guess_derived e = (tt, ap claims_in e)
  tested_held inverse_derived e = (tt, ap claims_in e)

  -- the row x of the claim's way, read by the code
  module _ {c : Claim} (k : IsClaim s c) (x : RowRead) (e : IsRow x (way_is c.way)) where
    pub left_held : Held s (operand_is x.tested)
    left_held = rw e.tested (tested_held (way_is c.way) k.way).0

    pub right_held : Held s (operand_is x.against)
    right_held = rw e.against (tested_held (way_is c.way) k.way).1

-- ---- the register of what gives the term claimed
-- a number that names no step
no_step : {n : ℕ} {v : Maybe ℕ} → v ≡ step_named n → v ≡ None → n ≡ knowledge_step
no_step {n} e q = go (eqb n knowledge_step) refl (sym e ∙ q)
  where
    go : (b : Bool) → eqb n knowledge_step ≡ b → cond b None (Some n) ≡ None → n ≡ knowledge_step
    go true f h = eqb-true _ _ f
    go false f h = absurd (let z : ◌≡◌ {A = ℕ} 0 1 = cc in omega arith)

module _ {s : List ℕ} (h : Acceptable s) {c : Claim} (k : IsClaim s c) (t : TargetRead) (held : Held s (given_register (target_is t))) where
  claim : Claimed s
  claim = founded_claimed (acceptable_founded h)

  all_fit : (i : ℕ) → i < steps s → StepFits s i
  all_fit i l = (fits_iff claim.read i).0 ((steps_pass s).0 (acceptable_founded h).founded i l).0

  module _ (v : Maybe ℕ) {o : Maybe ℕ} (d : o ≡ step_named c.step) (e : o ≡ None) (f : number_is v ≡ entry_found s (target_is t)) where
    pub entry_there : is_held v ≡ true
    unfolding is_given
    entry_there = held_number v ∙ ap is_some f ∙ rw (eq-eqb _ _ (sym k.step ∙ no_step d e)) at (target_given h (target_is t) held)

    pub entry_named : {r : ℕ} → v ≡ Some r → r ≡ named s (given_register (target_is t))
    unfolding entry_given
    entry_named {r} g =
        let z : entry_found s (target_is t) ≡ some r = sym f ∙ ap number_is g in
        rw (eq-eqb _ _ (sym k.step ∙ no_step d e)) (ap (λ o. elim o [ none ↦ 0 | some r ↦ r ]) (sym z ∙ same_entry claim all_fit (target_is t) held))

  pub step_few : (c.step ≡ knowledge_step → ⊥) → c.step < 128
  step_few d = ⊎_elim (λ l. rw k.step (one_of_steps h _ l)) (λ e. absurd (d (k.step ∙ e))) (given_range claim (target_is t) held)

pub ruleset given_registers = (entry_there, entry_named, step_few)

-- ---- the program that is written: the first n of the instructions xs, and the test
module _ {s : List ℕ} {xs : List InstructionRead} {i n k : ℕ} {test : TestRead} (h : Acceptable s) (w : Holds (instruction s) i xs) (a : i ≤ n) (b : n ≤ i) (e : n ≡ steps s) (q : k ≡ n) (f : test_in test ≡ test_for s (way_of (way_at s))) where
  pub value_written : (page : List ℕ) (l : List InstructionRead) {p : List ℕ} → l ≡ take k xs →
      p ≡ bytes_of (record { steps = instructions_in l; test = test_in test }) ++ drop (program_length (length l)) page →
      p ≡ bytes_of (program s) ++ drop (program_length (steps s)) page
  unfolding program
  value_written page l z g =
      let y : i ≡ steps s = omega arith in
      let few : steps s ≤ 128 = (acceptable_limited h).steps in
      let m : instructions_in l ≡ listed (instruction s) (steps s) = rw (z, q, e) (held_steps (rw y at w) (omega arith)) in
      let c : length l ≡ steps s = sym (length-map l instruction_in) ∙ ap length m ∙ length_listed (instruction s) (steps s) in
      g ∙ rw (m, f, c)

pub ruleset known = (register_found, lowest_there, lowest_is)

pub ruleset premises = (first_kept, second_kept)

pub ruleset tested = (left_held, right_held)
