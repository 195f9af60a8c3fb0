-- A6's promises: an accepted page gives back its own derivation and claim; these, checked again, yield that page; and what is read back of any
-- program are steps of the table of steps.
use mathlib.Core.Path.{◌≡◌, sym, ap, ap₂, ◌∙◌}
use mathlib.Core.Bool.{true≢false}
use mathlib.Core.List.{List}
use Prim.Native.Nat.{ℕ, ◌+◌, ◌≤◌, ◌<◌}
use native.Mathlib.Omega.{arith}
use Rattle.base.specs.{Words.Bytes, Words.byte, Words.first, Answer.done, Answer.Clear, Computed.passes}
use Rattle.base.proofs.{First.first_equal, Says.same_test, RefusalLaws.passes_iff, RefusalLaws.both_clear}
use Rattle.submission.specs.{Record.terms, Record.steps, Record.guess, Body.bodies, Body.body_at, Body.submission_of, Check.rows1to5, Computed.checks1to5}
use Rattle.submission.proofs.Theory.ReadingRows.{tells_1_to_5, claimed_clear, first_two}
use Rattle.form.proofs.Theory.RoundTrip.{form_promise}
use Rattle.derivation.specs.Step.{written}
use Rattle.program.specs.{Program.bytes_of, Program.test_at, Computed.bad_program}
use Rattle.machine.specs.Run.{program_rows}
use Rattle.machine.proofs.Theory.RunAnswer.{tells_program}
use Rattle.conditions.specs.{Calls.program, Condition.WellFormed, Condition.FiveConditions, Computed.check_answer}
use Rattle.conditions.proofs.Theory.{Acceptance.accepted_iff, Signal.program_good}
use Rattle.readback.specs.{ReadBack.derivation_read, ReadBack.claim_read, ReadBack.bodies_length, ReadBack.read_back_rows, Computed.off_table, Computed.no_claim, Computed.read_back_answer, Promise.replaced, Promise.SameStart, Promise.ReadBackPromise}
use Rattle.readback.proofs.Theory.ReadBackAnswer.{says_off_table, later_rows, read_back_exact}
use Rattle.readback.proofs.Theory.SameSubmissions.{Agree, same_agree, term_alike, held_alike, steps_alike, claim_alike}
use Rattle.readback.proofs.Theory.OwnPage.{own_count, own_listed, own_derivation, own_claim, own_claims}
use Rattle.readback.proofs.Theory.ReplacedBodies.{bodies_length_lem, same_start, step_count, passes_four, step_right}

-- ---- the page of an acceptance
module _ (s : List ℕ) (b : Bytes s) (w : WellFormed s) (c : FiveConditions s) where
  abbrev P : List ℕ
  P = bytes_of (program s)

  own_clear : (sheet : ℕ) → bodies_length (steps s) ≤ sheet → Clear (read_back_rows s P sheet)
  own_clear sheet l =
      let r = (passes_iff (tells_1_to_5 s b)).1 w.read in
      both_clear (program_rows s P) (later_rows s P sheet)
      ((passes_iff (tells_program s P b)).0 (rw (r, program_good s b w c)))
      ((λ m q (_, (k, u)). true≢false (sym ((says_off_table s P q).1 u) ∙ own_listed s b w c q k)), ((λ m q (_, (_, h)). own_claims s b w c h), ((λ m q (_, (_, k)). omega (arith, own_count s b w c)), tt)))

  own_taken : (sheet : ℕ) → bodies_length (steps s) ≤ sheet → read_back_answer s P sheet ≡ done (bodies_length (steps s))
  own_taken sheet l = (read_back_exact s P b sheet (done (bodies_length (steps s)))).1 (own_clear sheet l, ap bodies_length (sym (own_count s b w c)))

-- ---- with another submission over the same terms, knowledge and guess
module _ {s s' : List ℕ} (b : Bytes s) (b' : Bytes s') (c : Clear (rows1to5 s)) (c' : Clear (rows1to5 s')) (e : SameStart s' s) where
  same : Agree s' s
  same = same_agree s' s b' b (first_two s' c') (first_two s c) e.terms e.knowledge

  low : guess s' < terms s'
  low = (claimed_clear s' b' c').guess_below

  module _ (P : List ℕ) where
    program_alike : bad_program s' P ≡ bad_program s P
    unfolding bad_program
    program_alike = rw same.same_entries

    off_alike : (r : ℕ) → off_table s' P r ≡ off_table s P r
    off_alike r =
        same_test _ _ (says_off_table s' P r)
        (let (f, g) = says_off_table s P r in
        (λ t n l h. f t n (omega (arith, same.same_terms)) (sym (held_alike same low e.guess P r) ∙ h ∙ term_alike same n), λ u. g (λ n l h. u n (omega (arith, same.same_terms)) (held_alike same low e.guess P r ∙ h ∙ sym (term_alike same n)))))

    first_alike : first (off_table s' P) (written s' (byte P 0)) ≡ first (off_table s P) (written s (byte P 0))
    first_alike = first_equal (off_table s' P) (off_table s P) (written s' (byte P 0)) (λ r l. off_alike r) ∙ ap (λ k. first (off_table s P) (k + 1 + byte P 0)) same.same_entries

    claim_alike_test : no_claim s' (test_at P) ≡ no_claim s (test_at P)
    claim_alike_test = rw same.same_entries

    answer_alike : (sheet : ℕ) → read_back_answer s' P sheet ≡ read_back_answer s P sheet
    unfolding read_back_answer
    answer_alike sheet =
        let p : checks1to5 s ≡ passes = (passes_iff (tells_1_to_5 s b)).1 c in
        let p' : checks1to5 s' ≡ passes = (passes_iff (tells_1_to_5 s' b')).1 c' in
        rw (p, p', program_alike, first_alike, claim_alike_test)

  module _ (w : WellFormed s) (f : FiveConditions s) where
    returned : replaced s' (bytes_of (program s)) ≡ s
    returned =
        let P = bytes_of (program s) in
        let d = steps_alike same low e.guess P (byte P 0) ∙ own_derivation s b w f in
        let v = claim_alike same low e.guess P ∙ own_claim s b w f in
        ap₂ (λ t k. submission_of (bodies t k (derivation_read s' P) (claim_read s' P))) e.terms e.knowledge ∙ ap₂ (λ d v. submission_of (bodies (body_at s 0) (body_at s 1) d v)) d v
        ∙ form_promise.written_again s b (first_two s c)

pub read_back_promise : ReadBackPromise
read_back_promise = record {
  long = bodies_length_lem;
  own = λ s b room n e. let (_, w, c, _) = (accepted_iff s b room n).0 e in (own_derivation s b w c, own_claim s b w c);
  taken = λ s b room n e sheet l. let (f, w, c, _) = (accepted_iff s b room n).0 e in own_taken s b w c sheet (omega arith) ∙ ap (λ k. done (bodies_length k)) (sym f);
  others = λ s s' b b' room n e c' g sheet l.
      let (f, w, c, _) = (accepted_iff s b room n).0 e in
      (answer_alike b b' w.read c' g (bytes_of (program s)) sheet ∙ own_taken s b w c sheet (omega arith) ∙ ap (λ k. done (bodies_length k)) (sym f), returned b b' w.read c' g w c);
  again = λ s s' b b' room n e c' g.
      let (_, w, c, _) = (accepted_iff s b room n).0 e in
      let q = returned b b' w.read c' g w c in
      (ap (λ x. check_answer x room) q ∙ e, ap program q);
  reads = λ s P b room n e. (passes_four s P b room n e, same_start s P b room n e, step_count s P b room n e);
  right = step_right;
}
