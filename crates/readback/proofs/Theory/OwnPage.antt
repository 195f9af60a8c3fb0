-- The page of an accepted submission, read back: each register holds its own term, so the records are the submission's own.
use mathlib.Core.Path.{◌≡◌, refl, sym, ap, ap₂, ◌∙◌, subst}
use mathlib.Core.Logic.{inl, inr, ⊎_elim}
use mathlib.Core.Bool.{Bool, true, false, cond}
use mathlib.Core.List.{List, [], ◌∷◌, ◌++◌}
use mathlib.Core.Option.{Option, none, some}
use Prim.Native.Nat.{ℕ, zero, suc, ◌+◌, ◌*◌, ◌≤◌, ◌<◌}
use native.Mathlib.Omega.{arith}
use lib.ListN.{length, take, drop, length-drop}
use lib.Seq.{take-add, get_or-drop}
use borrow.Author.Tests.{lt-ltb, le-ltb, eq-eqb, ne_eqb}
use lib.Dec.{eqb, ltb}
use Rattle.base.specs.Words.{Bytes, byte, fours}
use Rattle.base.specs.Answer.{Clear}
use Rattle.term.specs.Number.{has_one}
use Rattle.submission.specs.Record.{start, start_of, terms, entries, steps, rule_at, p_at, q_at, second_for, conclusion_at, guess, verifying, way_at, companion, entry_at, name_at, term}
use Rattle.submission.specs.Body.{body_at}
use Rattle.submission.specs.Check.{Way, another_step, at_start, inverse_key, guess_derived, inverse_derived, way_of, Target, the_guess, its_inverse, claims_in, InRange, knowledge_step, given_register, row, rows1and2}
use Rattle.submission.proofs.Theory.{ListedTerms.Claimed, ListedTerms.way_letter, ReadingRows.claimed_clear, ReadingRows.contents_fit, ReadingRows.first_two, ReadingRows.one_claim}
use Rattle.derivation.specs.{Step.written, Step.concluded, Computed.is_known}
use Rattle.derivation.proofs.Theory.RegisterTerms.{Written, entry, guessed, result, written_cases}
use Rattle.program.specs.Program.{relation_of, bytes_of, test_at, Instruction}
use Rattle.program.proofs.Theory.Bytes.{byte_count, test_back}
use Rattle.machine.specs.Run.{held}
use Rattle.machine.proofs.Theory.RunRegisters.{register_entry, register_guess}
use Rattle.conditions.specs.{Calls.lowest, Calls.entry_given, Calls.named, Calls.instruction, Calls.program, Calls.test_for, Condition.WellFormed, Condition.FiveConditions, Condition.Verified, Condition.Given, Condition.target, Condition.ClaimMet, Condition.SecondWay}
use Rattle.conditions.proofs.Theory.ProgramRun.{lowest_known, program_steps, instruction_read, value}
use Rattle.conditions.proofs.Theory.Signal.{premises_known, start_known, inverse_known, entry_gives, guess_right, right_result, right_lowest}
use Rattle.readback.specs.ReadBack.{step_of, number, step_read, derivation_read, way_read, verifying_read, companion_read, claim_read, NoClaim}
use Rattle.readback.specs.Computed.{off_table}
use Rattle.readback.proofs.Theory.ReadBackAnswer.{listed_number, listed_on}

-- ---- records of four bytes
-- the first four entries of a list
four_first : (l : List ℕ) → 4 ≤ length l → take 4 l ≡ byte l 0 ∷ byte l 1 ∷ byte l 2 ∷ byte l 3 ∷ []
four_first [] h = absurd (omega arith)
four_first (a ∷ []) h = absurd (omega arith)
four_first (a ∷ b ∷ []) h = absurd (omega arith)
four_first (a ∷ b ∷ c ∷ []) h = absurd (omega arith)
four_first (a ∷ b ∷ c ∷ d ∷ l) h = refl

-- and the next four
four_next : (l : List ℕ) (i : ℕ) → i + 4 ≤ length l → take (i + 4) l ≡ take i l ++ byte l i ∷ byte l (i + 1) ∷ byte l (i + 2) ∷ byte l (i + 3) ∷ []
four_next l i h =
    let m : 4 ≤ length (drop i l) = rw (length-drop i l) (omega arith) in
    let z : byte (drop i l) 0 ≡ byte l i = get_or-drop i l 0 0 ∙ ap (byte l) (omega arith) in
    take-add i 4 l ∙ ap (λ x. take i l ++ x) (four_first (drop i l) m ∙ rw (z, get_or-drop i l 1 0, get_or-drop i l 2 0, get_or-drop i l 3 0))

module _ (s : List ℕ) (bytes : Bytes s) (w : WellFormed s) (c₀ : FiveConditions s) where
  abbrev P : List ℕ
  P = bytes_of (program s)

  claim : Claimed s
  claim = claimed_clear s bytes w.read

  counted : Clear (rows1and2 s)
  counted = first_two s w.read

  pub own_count : byte P 0 ≡ steps s
  own_count = byte_count (program s) ∙ program_steps s

  -- ---- each register holds its own term
  own_held : (r : ℕ) → held s P r ≡ value s (name_at s (guess s)) (steps s) r
  unfolding held
  own_held r = ap (λ n. value s (name_at s (guess s)) n r) own_count

  held_entry : (r : ℕ) → r < entries s → held s P r ≡ term s (entry_at s r)
  held_entry r l = own_held r ∙ register_entry s (name_at s (guess s)) P (steps s) r l

  held_guess : held s P (entries s) ≡ term s (guess s)
  held_guess = own_held (entries s) ∙ register_guess s (name_at s (guess s)) P (steps s) ∙ sym (guess_right s bytes w c₀)

  held_result : (i : ℕ) → i < steps s → held s P (written s i) ≡ concluded s i
  held_result i l = own_held (written s i) ∙ right_result s bytes w c₀ i l

  held_lowest : (i t : ℕ) → i ≤ steps s → is_known s i t ≡ true → held s P (lowest s t) ≡ term s t
  held_lowest i t b e = own_held (lowest s t) ∙ right_lowest s bytes w c₀ i t b e

  -- so none is off the table
  pub own_listed : (r : ℕ) → r < written s (byte P 0) → off_table s P r ≡ false
  own_listed r l = go (written_cases s (steps s) r (rw own_count at l))
    where
      go : Written s (steps s) r → off_table s P r ≡ false
      go (entry b) = listed_on s P r (entry_at s r) (claim.read.entry_below r b) (held_entry r b)
      go (guessed e) = listed_on s P r (guess s) claim.guess_below (ap (held s P) e ∙ held_guess)
      go (result j b e) = listed_on s P r (conclusion_at s j) (w.shaped j b).conclusion_below (ap (held s P) e ∙ held_result j b)

  -- ---- the derivation
  number_lowest : (i t : ℕ) → i ≤ steps s → t < terms s → is_known s i t ≡ true → number s P (lowest s t) ≡ t
  number_lowest i t b l e = listed_number claim.read P (lowest s t) t l (held_lowest i t b e)

  own_second : (i : ℕ) → i < steps s → cond (has_one (rule_at s i)) 0 (number s P (cond (has_one (rule_at s i)) 0 (lowest s (q_at s i)))) ≡ q_at s i
  unfolding second_for
  own_second i l = go (has_one (rule_at s i)) (w.shaped i l).unused (premises_known s bytes w c₀ i l).1
    where
      go : (b : Bool) → (b ≡ true → q_at s i ≡ 0) → is_known s i (cond b (p_at s i) (q_at s i)) ≡ true → cond b 0 (number s P (cond b 0 (lowest s (q_at s i)))) ≡ q_at s i
      go true z e = sym (z refl)
      go false z e = number_lowest i (q_at s i) (omega arith) (w.shaped i l).q_below e

  own_step : (i : ℕ) → i < steps s → step_read s P i ≡ rule_at s i ∷ p_at s i ∷ q_at s i ∷ conclusion_at s i ∷ []
  unfolding instruction
  own_step i l =
      let (p, q) = premises_known s bytes w c₀ i l in
      rw (instruction_read s i l, number_lowest i (p_at s i) (omega arith) (w.shaped i l).p_below p, own_second i l, listed_number claim.read P (written s i) (conclusion_at s i) (w.shaped i l).conclusion_below (held_result i l))

  -- the bodies reach to the submission's end
  whole : length s ≡ start s 2 + 4 * steps s + 4
  unfolding start_of
  whole = (contents_fit s bytes counted).1 ∙ rw (one_claim s counted)

  claim_start : start s 3 ≡ start s 2 + 4 * steps s
  unfolding start_of
  claim_start = refl

  abbrev steps_on : List ℕ
  steps_on = drop (start s 2) s

  step_byte : (i j : ℕ) → byte steps_on (i + j) ≡ byte s (start s 2 + i + j)
  step_byte i j = get_or-drop (start s 2) s (i + j) 0 ∙ ap (byte s) (omega arith)

  own_steps : (n : ℕ) → n ≤ steps s → fours (step_read s P) n ≡ take (4 * n) steps_on
  unfolding fours
  own_steps zero l = refl
  own_steps (suc n) l =
      let e : 4 * suc n ≡ 4 * n + 4 = omega arith in
      let b : 4 * n + 4 ≤ length steps_on = rw (length-drop (start s 2) s) (omega (arith, whole)) in
      ap₂ ◌++◌ (own_steps n (omega arith)) (own_step n l)
      ∙ sym (ap (λ k. take k steps_on) e ∙ four_next steps_on (4 * n) b ∙ rw (get_or-drop (start s 2) s (4 * n) 0, step_byte (4 * n) 1, step_byte (4 * n) 2, step_byte (4 * n) 3))

  pub own_derivation : derivation_read s P ≡ body_at s 2
  own_derivation = ap (fours (step_read s P)) own_count ∙ own_steps (steps s) (omega arith)

  -- ---- the claim
  claim_bytes : body_at s 3 ≡ guess s ∷ verifying s ∷ way_at s ∷ companion s ∷ []
  claim_bytes =
      let l : 4 ≤ length (drop (start s 3) s) = rw (length-drop (start s 3) s) (omega (arith, whole, claim_start)) in
      let z : byte (drop (start s 3) s) 0 ≡ guess s = get_or-drop (start s 3) s 0 0 ∙ ap (byte s) (omega arith) in
      ap (λ k. take (4 * k) (drop (start s 3) s)) (one_claim s counted) ∙ four_first (drop (start s 3) s) l ∙ rw (z, get_or-drop (start s 3) s 1 0, get_or-drop (start s 3) s 2 0, get_or-drop (start s 3) s 3 0)

  -- what is read of a test
  abbrev Read : Instruction → List ℕ
  Read t = guess s ∷ verifying_read s t (row (way_read s t)).step ∷ (row (way_read s t)).letter ∷ companion_read s t.right (number s P t.right) (row (way_read s t)).companion ∷ []

  -- the registers of steps come after the guess's
  past : (i : ℕ) → (eqb (written s i) (entries s) ≡ false) × ((ltb (entries s) (written s i) ≡ true) × ((ltb (written s i) (entries s) ≡ false) × (step_of s (written s i) ≡ i)))
  past i = (ne_eqb (written s i) (entries s) (λ e. omega arith), (lt-ltb (entries s) (written s i) (omega arith), (le-ltb (written s i) (entries s) (omega arith), omega arith)))

  -- ways a to c: the verifying step's register is first
  module _ (o : Way) (e : way_of (way_at s) ≡ some o) where
    letter_is_lem : (row o).letter ≡ way_at s
    letter_is_lem = sym (way_letter (way_at s) o e)

    in_range_lem : InRange s (row o).companion (companion s)
    in_range_lem = let q : some claim.way ≡ some o = sym claim.has_way ∙ e in let z : claim.way ≡ o = cc in subst (λ w. InRange s (row w).companion (companion s)) z claim.in_range_lem

  another_read : way_of (way_at s) ≡ some another_step → Read (test_for s (some another_step)) ≡ guess s ∷ verifying s ∷ way_at s ∷ companion s ∷ []
  unfolding relation_of
  another_read e =
      let (a, (b, (c, d))) = past (verifying s) in
      let (a', (b', (c', d'))) = past (companion s) in
      rw (a, b', d, d', letter_is_lem another_step e)

  start_read : way_of (way_at s) ≡ some at_start → Verified s → Read (test_for s (some at_start)) ≡ guess s ∷ verifying s ∷ way_at s ∷ companion s ∷ []
  unfolding relation_of
  start_read e v =
      let (a, (b, (c, d))) = past (verifying s) in
      let (_, _, k) = lowest_known s 0 _ (omega arith) (start_known s bytes w c₀ e v) in
      let z : companion s ≡ 0 = in_range_lem at_start e in
      rw (a, le-ltb (entries s) (lowest s (conclusion_at s (verifying s))) (omega arith), d, letter_is_lem at_start e, z)

  inverse_read : way_of (way_at s) ≡ some inverse_key → Verified s → Read (test_for s (some inverse_key)) ≡ guess s ∷ verifying s ∷ way_at s ∷ companion s ∷ []
  unfolding relation_of
  inverse_read e v =
      let (a, (b, (c, d))) = past (verifying s) in
      rw (a, d, number_lowest (steps s) (companion s) (omega arith) (in_range_lem inverse_key e) (inverse_known s bytes w c₀ e v), letter_is_lem inverse_key e)

  -- ways k and j: the guess's register is first, and that of a step, or of an entry, second
  given_second : (t : Target) → Given s (target s t) →
      (cond (ltb (named s (given_register t)) (entries s)) knowledge_step (step_of s (named s (given_register t))) ≡ verifying s) × (named s (given_register t) ≡ entries s → ⊥)
  given_second t (inl (l, e)) =
      let (a, (b, (c, d))) = past (verifying s) in
      rw (ne_eqb (verifying s) knowledge_step (λ q. omega (arith, claim.read.steps_most)), c) (d, λ q. omega arith)
  given_second t (inr (q, i)) =
      let (l, _) = entry_gives s bytes w c₀ t i in
      rw (eq-eqb (verifying s) knowledge_step q, lt-ltb (entry_given s t) (entries s) l) (sym q, λ z. omega arith)

  guess_read : way_of (way_at s) ≡ some guess_derived → Given s (target s the_guess) → Read (test_for s (some guess_derived)) ≡ guess s ∷ verifying s ∷ way_at s ∷ companion s ∷ []
  unfolding relation_of
  guess_read e g =
      let z : companion s ≡ 0 = in_range_lem guess_derived e in
      rw (eq-eqb (entries s) (entries s) refl, (given_second the_guess g).0, letter_is_lem guess_derived e, z)

  inverse_guess_read : way_of (way_at s) ≡ some inverse_derived → Given s (target s its_inverse) → Read (test_for s (some inverse_derived)) ≡ guess s ∷ verifying s ∷ way_at s ∷ companion s ∷ []
  unfolding relation_of
  inverse_guess_read e g =
      let z : companion s ≡ 0 = in_range_lem inverse_derived e in
      rw (eq-eqb (entries s) (entries s) refl, (given_second its_inverse g).0, letter_is_lem inverse_derived e, z)

  own_read : (o : Option Way) → way_of (way_at s) ≡ o → ClaimMet s (claims_in o) → Read (test_for s o) ≡ guess s ∷ verifying s ∷ way_at s ∷ companion s ∷ []
  own_read none e v = absurd (subst (SecondWay s) e v.second_way)
  own_read (some another_step) e v = another_read e
  own_read (some at_start) e v = start_read e v
  own_read (some inverse_key) e v = inverse_read e v
  own_read (some guess_derived) e g = guess_read e g
  own_read (some inverse_derived) e g = inverse_guess_read e g

  test_is : test_at P ≡ test_for s (way_of (way_at s))
  unfolding program
  test_is = test_back (program s)

  pub own_claim : claim_read s P ≡ body_at s 3
  own_claim = ap Read test_is ∙ own_read (way_of (way_at s)) refl c₀.met ∙ sym claim_bytes

  -- ---- check 18
  given_claims : (t : Target) → Given s (target s t) → NoClaim s (record { rule = 0; left = entries s; right = named s (given_register t) }) → ⊥
  given_claims t g (inl l) = omega arith
  given_claims t g (inr (_, e)) = (given_second t g).1 e

  claims_something : (o : Option Way) → way_of (way_at s) ≡ o → ClaimMet s (claims_in o) → NoClaim s (test_for s o) → ⊥
  claims_something none e v = absurd (subst (SecondWay s) e v.second_way)
  claims_something (some another_step) e v = ⊎_elim (λ l. omega arith) (λ (q, _). omega arith)
  claims_something (some at_start) e v = ⊎_elim (λ l. omega arith) (λ (q, _). omega arith)
  claims_something (some inverse_key) e v = ⊎_elim (λ l. omega arith) (λ (q, _). omega arith)
  claims_something (some guess_derived) e g = given_claims the_guess g
  claims_something (some inverse_derived) e g = given_claims its_inverse g

  pub own_claims : NoClaim s (test_at P) → ⊥
  own_claims h = claims_something (way_of (way_at s)) refl c₀.met (subst (NoClaim s) test_is h)
