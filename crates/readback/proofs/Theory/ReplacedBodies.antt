-- The bodies read back, in the place of a submission's own: the submission passes checks 1 to 4, and each step is one of the table of steps.
use mathlib.Core.Path.{◌≡◌, refl, sym, ap, ap₂, ◌∙◌, subst}
use mathlib.Core.Logic.{◌⊎◌, inl, inr}
use mathlib.Core.Bool.{Bool, true, false, cond}
use mathlib.Core.List.{List, [], ◌∷◌}
use Prim.Native.Nat.{ℕ, ◌+◌, ◌*◌, ◌≤◌, ◌<◌}
use native.Mathlib.Omega.{arith}
use lib.ListN.{length, get_or, length-append}
use Rattle.base.specs.{Words.byte, Words.Bytes, Answer.done, Answer.Clear, Answer.numbered}
use Rattle.base.proofs.{Fours.fours_length, Fours.fours_at, Says.denies, Says.refutes, Says.each_of_four, RefusalLaws.passes_iff, RefusalLaws.clear_split}
use Rattle.term.specs.{Term.Head, Term.Second, Term.absent, Term.anything, Term.key_for, Term.second, Term.Shape, Term.atomic, Term.compound, Term.is_key_for, Term.single, Term.void, Number.shape_of, Number.head_of, Number.has_one, Reduce.op, Step.Step, Code.Message}
use Rattle.term.proofs.Reduce.{op_step}
use Rattle.submission.specs.Record.{count, width, least, most, start, terms, entries, steps, kind_at, y_at, entry_at, rule_at, p_at, q_at, second_for, second_at, conclusion_at, guess, name_at, term}
use Rattle.submission.specs.Body.{Bodies, bodies, body, body_at, submission_of}
use Rattle.submission.specs.Check.{HasSecond, Shaped, BadTerm, rows1and2, rows1to4, rows1to5}
use Rattle.submission.proofs.Theory.{ListedTerms.Listed, ListedTerms.listed, ListedTerms.Claimed, ReadingRows.tells_1_to_4, ReadingRows.claimed_clear, ReadingRows.first_four}
use Rattle.form.specs.Write.{ReadsAs}
use Rattle.form.proofs.Theory.{RoundTrip.counts, RoundTrip.counted, RoundTrip.reads_as, RoundTrip.body_length, RoundTrip.body_byte}
use Rattle.derivation.specs.Step.{concluded, StepFits, written}
use Rattle.program.specs.{Program.Instruction, Program.instruction_at, Program.operand, Program.ProgramFits}
use Rattle.program.proofs.Theory.Check13.{program_iff, operand_fits}
use Rattle.machine.specs.Run.{registers, executed, held, program_rows}
use Rattle.machine.proofs.Theory.RunRegisters.{register_kept, register_written}
use Rattle.readback.specs.{ReadBack.number, ReadBack.step_read, ReadBack.derivation_read, ReadBack.claim_read, ReadBack.bodies_read, ReadBack.bodies_length, ReadBack.read_back_rows, Computed.read_back_answer, Computed.off_table, Promise.replaced, Promise.SameStart, Promise.StepRight}
use Rattle.readback.proofs.Theory.ReadBackAnswer.{says_off_table, later_rows, read_back_exact, number_found}
use Rattle.readback.proofs.Theory.SameSubmissions.{Agree, agree, term_alike}

-- ---- the records of the steps
steps_length : (s P : List ℕ) → length (derivation_read s P) ≡ 4 * byte P 0
steps_length s P = fours_length (step_read s P) (λ i. refl) (byte P 0)

pub bodies_length_lem : (s P : List ℕ) → length (bodies_read s P) ≡ bodies_length (byte P 0)
bodies_length_lem s P = simp length-append (omega (arith, steps_length s P))

-- ---- records that are good in one submission are good in another with the same terms
module _ {r s : List ℕ} (a : Agree r s) where
  second_alike : (i : ℕ) → i < terms r → (o : Second) → HasSecond s i o → HasSecond r i o
  second_alike i l absent h = a.ys i l ∙ h
  second_alike i l anything h = let e = a.ys i l in omega arith
  second_alike i l (key_for c) (h, k) =
      let e = a.ys i l in
      let m : y_at r i < i = omega arith in
      (m, ap (λ z. is_key_for c (shape_of z)) (a.kinds (y_at r i) (omega arith) ∙ ap (kind_at s) e) ∙ k)

  shaped_alike : (i : ℕ) → i < terms r → (z : Shape) → Shaped s i z → Shaped r i z
  shaped_alike i l (atomic κ) h = tt
  shaped_alike i l (compound f) (h, k) = let e = a.xs i l in (omega arith, second_alike i l (second f) k)

  term_good : Listed s → (i : ℕ) → i < terms r → BadTerm r i → ⊥
  term_good c i l (inl f) =
      let g = c.good i (omega (arith, a.same_terms)) in
      f (g.shape, ap shape_of (a.kinds i l) ∙ g.has, shaped_alike i l g.shape g.fits)
  term_good c i l (inr (j, m, (k, (x, y)))) =
      let b : j < terms r = omega arith in
      (c.good i (omega (arith, a.same_terms))).new j m (sym (a.kinds j b) ∙ k ∙ a.kinds i l) (sym (a.xs j b) ∙ x ∙ a.xs i l) (sym (a.ys j b) ∙ y ∙ a.ys i l)

  entry_good : Listed s → Clear (rows1to4 s) → (i : ℕ) → i < entries r → (terms r ≤ entry_at r i) ⊎ ((j : ℕ) × (j < i) × (entry_at r j ≡ entry_at r i)) → ⊥
  entry_good c k i l (inl m) = let b = c.entry_below i (omega (arith, a.same_entries)) in omega (arith, a.knowledge i l, a.same_terms)
  entry_good c k i l (inr (j, m, e)) =
      k.1.1.1.0 4 i (refl, (omega (arith, a.same_entries), inr (j, m, sym (a.knowledge j (omega arith)) ∙ e ∙ a.knowledge i l)))

  pub table_clear : Listed s → Clear (rows1to4 s) → Clear (rows1and2 r) → Clear (rows1to4 r)
  table_clear c k (x, (y, _)) = (x, (y, ((λ m i (_, (l, h)). term_good c i l h), ((λ m i (_, (l, h)). entry_good c k i l h), tt))))

-- ---- the submission r has the terms and the knowledge of s, the derivation d of n steps, and the claim v
pub record Replacement (s d v r : List ℕ) (n : ℕ) : Type 0 where
  pub reads : ReadsAs r (bodies (body_at s 0) (body_at s 1) d v)
  pub step_count : steps r ≡ n
  pub claim_count : count r 3 ≡ 1
  pub same : Agree r s
  pub clear : Clear (rows1to4 r)
  -- the bytes of step i, by their place in its record
  pub field : (i : ℕ) → i < n → (j : ℕ) → j < 4 → byte r (start r 2 + (4 * i + j)) ≡ byte d (4 * i + j)

-- where s passes checks 1 to 4, it is so, and r passes them too
module _ (s : List ℕ) (bytes : Bytes s) (clear : Clear (rows1to4 s)) (d v : List ℕ) (n : ℕ) (long : length d ≡ 4 * n) (few : n ≤ 128) (one : length v ≡ 4) where
  table : Listed s
  table = listed s bytes ((passes_iff (tells_1_to_4 s bytes)).1 clear)

  abbrev new : Bodies
  new = bodies (body_at s 0) (body_at s 1) d v

  abbrev counts_of : ℕ → ℕ
  counts_of i = get_or (terms s ∷ entries s ∷ n ∷ 1 ∷ []) i 0

  two : Clear (rows1and2 s)
  two = (clear.0, (clear.1.0, tt))

  whole : (i : ℕ) → i < 4 → length (body new i) ≡ width i * counts_of i
  whole =
      each_of_four (λ i. length (body new i) ≡ width i * counts_of i)
      (body_length s bytes two 0 (omega arith)) (body_length s bytes two 1 (omega arith)) long one

  within : (i : ℕ) → i < 4 → (least i ≤ counts_of i) × (counts_of i ≤ most i)
  within =
      each_of_four (λ i. (least i ≤ counts_of i) × (counts_of i ≤ most i))
      (table.terms_least, table.terms_most) (omega arith, table.entries_most) (omega arith, few) (omega arith, omega arith)

  abbrev made : List ℕ
  made = submission_of new

  read : ReadsAs made new
  read = reads_as new counts_of whole within

  count_at : (i : ℕ) → i < 4 → count made i ≡ counts_of i
  count_at i l = counts new i l ∙ counted new counts_of whole within i l

  agrees : Agree made s
  agrees =
      agree made s (count_at 0 (omega arith)) (count_at 1 (omega arith))
      (ap (λ (b : Bodies). b.terms) read.bodies) (ap (λ (b : Bodies). b.knowledge) read.bodies)

  step_field : (i : ℕ) → i < n → (j : ℕ) → j < 4 → byte made (start made 2 + (4 * i + j)) ≡ byte d (4 * i + j)
  step_field i l j m =
      sym (body_byte made 2 (4 * i + j) (omega (arith, count_at 2 (omega arith)))) ∙ ap (λ (b : Bodies). byte b.derivation (4 * i + j)) read.bodies

  pub replacement : Replacement s d v made n
  replacement = record {
    reads = read;
    step_count = count_at 2 (omega arith);
    claim_count = count_at 3 (omega arith);
    same = agrees;
    clear = table_clear agrees table clear read.passes;
    field = step_field;
  }

-- ---- what was read back
module _ (s P : List ℕ) (bytes : Bytes s) (room n : ℕ) (read : read_back_answer s P room ≡ done n) where
  all_clear : Clear (read_back_rows s P room)
  all_clear = ((read_back_exact s P bytes room (done n)).0 read).0

  before : Clear (rows1to5 s) × Clear (numbered 13 (λ p. (p ≡ 0) × (ProgramFits s P → ⊥)) ∷ [])
  before = clear_split (rows1to5 s) (numbered 13 (λ p. (p ≡ 0) × (ProgramFits s P → ⊥)) ∷ []) (clear_split (program_rows s P) (later_rows s P room) all_clear).0

  claim : Claimed s
  claim = claimed_clear s bytes before.0

  fits : ProgramFits s P
  fits = (program_iff s P).0 ((denies _ (refutes _ (program_iff s P))).1 (λ f. before.1.0 13 0 (refl, (refl, f))))

  numbered_at : (r : ℕ) → r < written s (byte P 0) → (number s P r < terms s) × (held s P r ≡ term s (number s P r))
  numbered_at r l =
      number_found s P r ((denies (off_table s P r) (says_off_table s P r)).1 (λ u. (clear_split (program_rows s P) (later_rows s P room) all_clear).1.0 17 r (refl, (l, u))))

  -- ---- its bodies
  abbrev r : List ℕ
  r = replaced s P

  over : Replacement s (derivation_read s P) (claim_read s P) r (byte P 0)
  over =
      replacement s bytes (first_four s before.0) (derivation_read s P) (claim_read s P) (byte P 0) (steps_length s P) fits.few refl

  pub same_start : SameStart r s
  same_start = record {
    terms = ap (λ (b : Bodies). b.terms) over.reads.bodies;
    knowledge = ap (λ (b : Bodies). b.knowledge) over.reads.bodies;
    guess =
        let l : 0 < 4 * count r 3 = rw over.claim_count (omega arith) in
        let z : start r 3 + 0 ≡ start r 3 = omega arith in
        sym (ap (byte r) z) ∙ sym (body_byte r 3 0 l) ∙ ap (λ (b : Bodies). byte b.claim 0) over.reads.bodies;
  }

  pub step_count : steps r ≡ byte P 0
  step_count = over.step_count

  same : Agree r s
  same = over.same

  pub passes_four : Clear (rows1to4 r)
  passes_four = over.clear

  -- ---- its steps
  module _ (i : ℕ) (l : i < byte P 0) where
    abbrev x : Instruction
    x = instruction_at P i

    abbrev head : Head
    head = head_of x.rule

    field : (j : ℕ) → j < 4 → byte r (start r 2 + (4 * i + j)) ≡ byte (step_read s P i) j
    field j m = over.field i l j m ∙ fours_at (step_read s P) (λ i. refl) (byte P 0) i j l m

    rule_is : rule_at r i ≡ x.rule
    rule_is = let e : start r 2 + 4 * i ≡ start r 2 + (4 * i + 0) = omega arith in ap (byte r) e ∙ field 0 (omega arith)

    later_field : (j : ℕ) → j < 4 → byte r (start r 2 + 4 * i + j) ≡ byte (step_read s P i) j
    later_field j m = let e : start r 2 + 4 * i + j ≡ start r 2 + (4 * i + j) = omega arith in ap (byte r) e ∙ field j m

    p_is : p_at r i ≡ number s P x.left
    p_is = later_field 1 (omega arith)

    q_is : q_at r i ≡ cond (has_one x.rule) 0 (number s P x.right)
    q_is = later_field 2 (omega arith)

    conclusion_is : conclusion_at r i ≡ number s P (written s i)
    conclusion_is = later_field 3 (omega arith)

    registers_fit : (x.left < written s i) × (operand x < written s i)
    registers_fit = ((fits.registers_right i l).0, operand_fits (written s i) x (fits.registers_right i l))

    low : (k : ℕ) → k < written s i → k < written s (byte P 0)
    low k b = omega arith

    -- a register that is written before the instruction keeps its term
    early : (k : ℕ) → k < written s i → get_or (registers s (name_at s (guess s)) P i) k void ≡ held s P k
    unfolding held
    early k b = sym (register_kept s (name_at s (guess s)) P i (byte P 0) k (omega arith) b)

    result_is : held s P (written s i) ≡ op head (held s P x.left) (held s P (operand x))
    unfolding held executed
    result_is =
        register_written s (name_at s (guess s)) P i (byte P 0) l ∙ ap₂ (op head) (early x.left registers_fit.0) (early (operand x) registers_fit.1)

    message_held : (k : ℕ) → k < written s (byte P 0) → Message (held s P k)
    message_held k b = let (m, e) = numbered_at k b in subst Message (sym e) (claim.read.messages (number s P k) m)

    once : single head ≡ true → held s P (operand x) ≡ held s P x.left
    unfolding has_one
    once e = rw e

    step_held : Step head (held s P x.left) (held s P (operand x)) (held s P (written s i))
    step_held =
        subst (Step head (held s P x.left) (held s P (operand x))) (sym result_is)
        (op_step head _ _ (message_held x.left (low x.left registers_fit.0)) (subst Message result_is (message_held (written s i) (omega arith))) once)

    term_held : (k : ℕ) → k < written s (byte P 0) → term r (number s P k) ≡ held s P k
    term_held k b = term_alike same (number s P k) ∙ sym (numbered_at k b).1

    first_held : term r (p_at r i) ≡ held s P x.left
    first_held = ap (term r) p_is ∙ term_held x.left (low x.left registers_fit.0)

    second_held : term r (second_at r i) ≡ held s P (operand x)
    unfolding second_for
    second_held =
        ap (term r) (ap₂ (λ (k : ℕ) (q : ℕ). cond (has_one k) (p_at r i) q) rule_is q_is ∙ ap (λ p. cond (has_one x.rule) p (cond (has_one x.rule) 0 (number s P x.right))) p_is)
        ∙ go (has_one x.rule) (fits.registers_right i l).2
      where
        go : (b : Bool) → (b ≡ false → x.right < written s i) → term r (cond b (number s P x.left) (cond b 0 (number s P x.right))) ≡ held s P (cond b x.left x.right)
        go true h = term_held x.left (low x.left registers_fit.0)
        go false h = term_held x.right (low x.right (h refl))

    second_low : cond (has_one x.rule) 0 (number s P x.right) < terms s
    second_low = go (has_one x.rule) (fits.registers_right i l).2
      where
        go : (b : Bool) → (b ≡ false → x.right < written s i) → cond b 0 (number s P x.right) < terms s
        go true h = claim.read.terms_least
        go false h = (numbered_at x.right (low x.right (h refl))).0

    concluded_held : concluded r i ≡ held s P (written s i)
    concluded_held = ap (term r) conclusion_is ∙ term_held (written s i) (omega arith)

    step_fits : StepFits r i
    step_fits = record {
      rule_below = rw rule_is (fits.rules_right i l);
      p_below = rw (p_is, same.same_terms) (numbered_at x.left (low x.left registers_fit.0)).0;
      q_below = rw (q_is, same.same_terms) second_low;
      conclusion_below = rw (conclusion_is, same.same_terms) (numbered_at (written s i) (omega arith)).0;
      unused = λ e. let f : has_one x.rule ≡ true = sym (ap has_one rule_is) ∙ e in q_is ∙ rw f;
      step = rw (second_held, rule_is, first_held, concluded_held) step_held;
    }

    pub step_right : StepRight r s P i
    step_right = record { fits = step_fits; rule = rule_is; first = first_held; second = second_held; result = concluded_held }
