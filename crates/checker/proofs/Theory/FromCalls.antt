-- The demands, and the promises of A1 and A4 to A8, from what the calls themselves return: a verdict or an answer, and the page after the call.
use mathlib.Core.Path.{◌≡◌, refl, sym, ap, ap₂, ◌∙◌, subst}
use mathlib.Core.Logic.Iff
use mathlib.Core.Logic.{◌↔◌, ◌⊎◌, inl, inr, ⊎_elim}
use mathlib.Core.List.{List, [], ◌∷◌, ◌++◌, append_assoc}
use Prim.Native.Nat.{ℕ, suc, ◌*◌, ◌<◌, ◌≤◌}
use native.Mathlib.Omega.{arith}
use lib.ListN.{length, take, drop}
use lib.Seq.{take-append_seam, drop-append_seam, take_at, drop_at, get_or-take}
use Rattle.std.specs.Prelude.{Result, Ok, Err}
use Rattle.base.specs.declared.refusal.Refusal.{Refusal}
use Rattle.base.specs.Answer.{Answer, done, refused, page_after, Writes, Clear, Refuses, number_of, answer_of, numbered, row11}
use Rattle.base.specs.Words.{byte, Bytes}
use Rattle.base.proofs.{AnswerLaws.refused_page, AnswerLaws.refused_not_done, OneToOne.answer_of_one_to_one}
use Rattle.base.proofs.Says.{true_or_false, denies}
use Rattle.base.proofs.RefusalLaws.{SomeHolds, refuses_some, Numbers, some_number, both_numbers, clear_split}
use Rattle.term.specs.{Term.asymmetric, Term.Match, Term.Stale, Step.Deducible}
use Rattle.submission.specs.Record.{terms, steps, p_at, second_at, guess, verifying, name_at, term, InKnowledge, guessed}
use Rattle.submission.specs.{Body.Bodies, Body.bodies, Body.body_at, Body.bodies_of, Body.submission_of, Check.Target, Check.Claims, Check.verifier, Check.derived, Check.claims, Check.rows1and2, Check.rows1to4, Check.rows1to5}
use Rattle.submission.proofs.Theory.ReadingRows.{first_two}
use Rattle.form.specs.{Write.write_rows, Write.ReadsAs, Computed.write_answer, Calls.FormWritten}
use Rattle.form.proofs.Theory.{WriteAnswer.write_exact, RoundTrip.form_promise, RoundTrip.body_length}
use Rattle.pool.specs.{Pool.joined, Pool.join_rows, Computed.join_answer, Calls.PoolWritten, Promise.IsPool}
use Rattle.pool.proofs.Theory.{JoinAnswer.join_exact, JoinAnswer.join_done, PoolBytes.pool_bytes, PoolPromise.join_promise}
use Rattle.inverse.specs.{Inverse.inverses_rows, Inverse.InverseListed, Computed.inverses_of, Calls.InversesWritten}
use Rattle.inverse.proofs.Theory.InversesAnswer.{inverses_exact, inverses_promise}
use Rattle.deduction.specs.{Deduce.deducible_rows, Computed.deducible_answer}
use Rattle.deduction.proofs.Theory.DeducibleAnswer.{asked_iff, deducible_exact, yes_exact, no_exact}
use Rattle.program.specs.Program.{bytes_of, program_length}
use Rattle.machine.specs.{Run.StaleName, Run.program_rows, Run.run_rows, Run.signal, Computed.is_stale_name, Computed.run_answer}
use Rattle.machine.proofs.Theory.{RunAnswer.says_stale_name, RunAnswer.run_exact, StaleNames.stale_exact, StaleNames.taken_clear, StaleNames.taken_fresh}
use Rattle.witness.specs.{Deduction.Deduction, Deduction.deduction_rows, Computed.deduction_answer, Calls.DeductionWritten}
use Rattle.witness.proofs.Theory.{DeductionAnswer.deduction_exact, DeductionAnswer.shown_yes, DeductionAnswer.no_exact as shown_no, DeductionAnswer.yes_exact as shown_exact, WrittenDeduction.page_shows, WrittenDeduction.page_after_lem, WrittenDeduction.no_page, WrittenDeduction.refused_page_kept}
use Rattle.conditions.specs.declared.Verdict.{Verdict}
use Rattle.conditions.specs.declared.Verdict.TheVariants.{Accepted, Refused}
use Rattle.conditions.specs.{Calls.verdict_answer, Calls.Checked, Calls.program, Condition.WellFormed, Condition.target, Condition.FiveConditions, Condition.claim_rows, Condition.check_rows, Demand.WrongGuess, Demand.KeptPromise}
use Rattle.conditions.proofs.Theory.{Acceptance.accepted_iff, KnownGuess.target_deducible, KnownGuess.guess_hidden, Promise.demand_3, Refusal.check_exact}
use Rattle.conditions.specs.Computed.{check_answer}
use Rattle.readback.specs.{ReadBack.derivation_read, ReadBack.claim_read, ReadBack.bodies_read, ReadBack.bodies_length, ReadBack.read_back_rows, Computed.read_back_answer, Promise.replaced, Promise.StepRight, Calls.BodiesWritten}
use Rattle.readback.proofs.Theory.{ReadBackAnswer.read_back_exact, RoundTrip.read_back_promise}
use Rattle.derivation.specs.Step.{rows6and7}
use Rattle.checker.specs.{Demand.Demand1, Shown.with_steps, Pooled.PoolKeeps}
use Rattle.checker.proofs.Theory.{PooledLaws.pooled_promise, ShownLaws.shown_promise}

pub demand_1 : Demand1
demand_1 = record {
  check = check_exact;
  deducible = deducible_exact;
  deduction = deduction_exact;
  run = run_exact;
  write = write_exact;
  join = join_exact;
  inverses = inverses_exact;
  read_back = read_back_exact;
}

-- a verdict and an answer tell what they stand for
same_verdict : (v u : Verdict) → verdict_answer v ≡ verdict_answer u → v ≡ u
same_verdict (Accepted m) (Accepted n) e = cc
same_verdict (Accepted m) (Refused n p) e = cc
same_verdict (Refused m q) (Accepted n) e = cc
same_verdict (Refused m q) (Refused n p) e = cc

same_value : (r : Result ℕ Refusal) (n : ℕ) → answer_of r ≡ done n → r ≡ Ok n
same_value (Ok m) n e = cc
same_value (Err x) n e = cc

-- so what was returned is u exactly when the answer is what u stands for
returned_verdict : (v u : Verdict) {a : Answer} → verdict_answer v ≡ a → (v ≡ u) ↔ (a ≡ verdict_answer u)
returned_verdict v u c = (λ e. sym c ∙ ap verdict_answer e, λ e. same_verdict v u (c ∙ e))

returned : (r : Result ℕ Refusal) (n : ℕ) {a : Answer} → answer_of r ≡ a → (r ≡ Ok n) ↔ (a ≡ done n)
returned r n c = (λ e. sym c ∙ ap answer_of e, λ e. same_value r n (c ∙ e))

-- and it refuses with n and p exactly when the answer does
refuses : (r : Result ℕ Refusal) (n p : ℕ) {a : Answer} → answer_of r ≡ a → (answer_of r ≡ refused n p) ↔ (a ≡ refused n p)
refuses r n p c = (λ e. sym c ∙ e, λ e. c ∙ e)

-- and then it returned one refusal, whose fault has the number n and whose place is p, and no other refusal has these
pub refused_with : (r : Result ℕ Refusal) (n p : ℕ) →
    (answer_of r ≡ refused n p) ↔ ((x : Refusal) × (r ≡ Err x) × (number_of x.fault ≡ n) × (x.place ≡ p) × ((y : Refusal) → number_of y.fault ≡ n → y.place ≡ p → Err y ≡ r))
refused_with r n p = (there r, λ (x, e, f, g, _). rw (e, f, g))
  where
    there : (r : Result ℕ Refusal) → answer_of r ≡ refused n p →
        (x : Refusal) × (r ≡ Err x) × (number_of x.fault ≡ n) × (x.place ≡ p) × ((y : Refusal) → number_of y.fault ≡ n → y.place ≡ p → Err y ≡ r)
    there (Ok m) e = refused_not_done (sym e)
    there (Err x) e =
        let f : number_of x.fault ≡ n = cc in
        let g : x.place ≡ p = cc in
        (x, refl, f, g, λ y h i. answer_of_one_to_one (Err y) (Err x) (rw (h, i) (sym e)))

-- where a call that writes a page was done, the bytes written are the first ones of the page, and the others are as before
stands : {Says : Answer → Type 0} {a : Answer} {bytes page page' : List ℕ} {n : ℕ} → Writes Says a bytes page page' → a ≡ done n → n ≡ length bytes →
    (take n page' ≡ bytes) × (drop n page' ≡ drop n page)
stands {bytes = bytes} {page} w e l =
    let f = w.bytes ∙ ap (λ x. page_after x bytes page) e in
    (rw (f, l, take-append_seam bytes (drop (length bytes) page)), rw (f, l, drop-append_seam bytes (drop (length bytes) page)))

-- where rows 1 and 2 do not hold, the row that does has a higher number
claim_from_3 : (s : List ℕ) (k : Claims) → Numbers (λ n. 3 ≤ n) (claim_rows s k)
claim_from_3 s verifier = (λ n p (e, _). omega arith, (λ n p (e, _). omega arith, (λ n p (e, _). omega arith, tt)))
claim_from_3 s (derived t) = (λ n p (e, _). omega arith, tt)

from_3 : (s : List ℕ) (room m p : ℕ) → Clear (rows1and2 s) → SomeHolds (check_rows s room) m p → 3 ≤ m
from_3 s room m p c =
    some_number (λ n. 3 ≤ n) (check_rows s room) m p (
      λ n p h. absurd (c.0 n p h),
      (
        λ n p h. absurd (c.1.0 n p h),
        (
          λ n p (e, _). omega arith,
          (
            λ n p (e, _). omega arith,
            (
              λ n p (e, _). omega arith,
              (
                λ n p. ⊎_elim (λ (e, _). omega arith) (λ (e, _). omega arith),
                both_numbers (λ n. 3 ≤ n) (claim_rows s (claims s)) (row11 (program_length (steps s)) room ∷ []) (claim_from_3 s (claims s)) (λ n p (e, _). omega arith, tt),
              ),
            ),
          ),
        ),
      ),
    )

-- ---- a call of `check` on s and page that returned v and left page'
module _ (s page page' : List ℕ) (v : Verdict) (bytes : Bytes s) (call : Checked s page v page') where
  -- Demand 1: it refuses with n at p exactly when row n holds at p and no row holds that the order puts before it;
  pub call_refuses : (n p : ℕ) → (v ≡ Refused n p) ↔ Refuses (check_rows s (length page)) n p
  call_refuses n p = Iff.trans (returned_verdict v (Refused n p) call.answer) (check_exact s bytes (length page) (refused n p))

  -- and then the page is the page before
  pub call_leaves : (n p : ℕ) → v ≡ Refused n p → page' ≡ page
  call_leaves n p e = call.bytes ∙ refused_page (bytes_of (program s)) page ((returned_verdict v (Refused n p) call.answer).0 e)

  -- Demand 2: it accepts exactly the well-formed submissions that meet the five conditions and have page enough
  pub call_accepts : (n : ℕ) → (v ≡ Accepted n) ↔ ((n ≡ steps s) × WellFormed s × FiveConditions s × (program_length (steps s) ≤ length page))
  call_accepts n = Iff.trans (returned_verdict v (Accepted n) call.answer) (accepted_iff s bytes (length page) n)

  -- Demand 3: after an acceptance the page holds the program, which tells the right guess from the wrong ones
  pub call_keeps : (n : ℕ) → v ≡ Accepted n → KeptPromise s page n page'
  call_keeps n e =
      subst (KeptPromise s page n) (sym call.bytes) (demand_3 s page bytes n ((returned_verdict v (Accepted n) call.answer).0 e))

  -- A5: after an acceptance in ways k and j the guess, or its inverse, is deducible from the knowledge; in the other ways the guess is not
  pub call_derives : (n : ℕ) → v ≡ Accepted n → (t : Target) → claims s ≡ derived t → Deducible (InKnowledge s) (target s t)
  call_derives n e t k = let (_, w, c, _) = (call_accepts n).0 e in target_deducible s w c t k

  pub call_hides : (n : ℕ) → v ≡ Accepted n → claims s ≡ verifier → Deducible (InKnowledge s) (term s (guess s)) → ⊥
  call_hides n e k = let (_, w, c, _) = (call_accepts n).0 e in guess_hidden s w c k

  -- run takes that program
  program_clear : (n : ℕ) → v ≡ Accepted n → Clear (program_rows s (take (program_length n) page'))
  program_clear n e = taken_clear s (take (program_length n) page') bytes (name_at s (guess s)) 1 (call_keeps n e).right

  -- and a call of `run` with what an acceptance left, the same submission and a name, that returned r
  module _ (n name : ℕ) (accepted : v ≡ Accepted n) (r : Result ℕ Refusal) (ran : answer_of r ≡ run_answer s name (take (program_length n) page')) where
    pub run_right : name ≡ name_at s (guess s) → r ≡ Ok 1
    run_right e = (returned r 1 ran).1 (ap (λ k. run_answer s k (take (program_length n) page')) e ∙ (call_keeps n accepted).right)

    pub run_wrong : WrongGuess s name → r ≡ Ok 0
    run_wrong w = (returned r 0 ran).1 ((call_keeps n accepted).wrong name w)

    -- another name than the guess's own is that of a wrong guess, or it is stale;
    pub run_other : (name ≡ name_at s (guess s) → ⊥) → ((r ≡ Ok 0) × WrongGuess s name) ⊎ ((answer_of r ≡ refused 15 0) × Stale (InKnowledge s) (guessed s name))
    run_other d = ⊎_elim
        (λ t. let z = (says_stale_name s name).0 t in inr ((refuses r 15 0 ran).1 ((stale_exact s _ bytes name 0).1 (refl, program_clear n accepted, z)), z.1))
        (λ f. let w : WrongGuess s name = record { other = d; fresh = λ t. (denies _ (says_stale_name s name)).0 f (d, t) } in inl (run_wrong w, w)) (true_or_false (is_stale_name s name))

    -- so every other name that run takes signals 0
    pub run_taken : (name ≡ name_at s (guess s) → ⊥) → (m : ℕ) → r ≡ Ok m → m ≡ 0
    run_taken d m e = ⊎_elim (λ (f, _). let g : Ok m ≡ Ok 0 = sym e ∙ f in cc) (λ (f, _). let g : done m ≡ refused 15 0 = sym (ap answer_of e) ∙ f in cc) (run_other d)

-- ---- a call of `run` on s, a name and any program P that returned r
module _ (s P : List ℕ) (name : ℕ) (r : Result ℕ Refusal) (bytes : Bytes s) (call : answer_of r ≡ run_answer s name P) where
  pub run_refuses : (n p : ℕ) → (answer_of r ≡ refused n p) ↔ Refuses (run_rows s name P) n p
  run_refuses n p = Iff.trans (refuses r n p call) (run_exact s P bytes name (refused n p))

  pub run_signals : (n : ℕ) → (r ≡ Ok n) ↔ (Clear (run_rows s name P) × (n ≡ signal s name P))
  run_signals n = Iff.trans (returned r n call) (run_exact s P bytes name (done n))

  -- A3: it refuses with 15 exactly when the checks before pass and the name is stale;
  pub run_stale : (p : ℕ) → (answer_of r ≡ refused 15 p) ↔ ((p ≡ 0) × Clear (program_rows s P) × StaleName s name)
  run_stale p = Iff.trans (refuses r 15 p call) (stale_exact s P bytes name p)

  -- and another name than the guess's own that it takes is that of a wrong guess
  pub run_takes : (name ≡ name_at s (guess s) → ⊥) → (n : ℕ) → r ≡ Ok n → WrongGuess s name
  run_takes d n e = record { other = d; fresh = taken_fresh s P bytes name n d ((returned r n call).0 e) }

-- ---- a call of `deducible` on s and the number t that returned r
module _ (s : List ℕ) (t : ℕ) (r : Result ℕ Refusal) (bytes : Bytes s) (call : answer_of r ≡ deducible_answer s t) where
  pub deducible_refuses : (n p : ℕ) → (answer_of r ≡ refused n p) ↔ Refuses (deducible_rows s t) n p
  deducible_refuses n p = Iff.trans (refuses r n p call) (deducible_exact s bytes t (refused n p))

  pub call_yes : (r ≡ Ok 1) ↔ (Clear (deducible_rows s t) × Deducible (InKnowledge s) (term s t))
  call_yes = Iff.trans (returned r 1 call) (yes_exact s bytes t)

  pub call_no : (r ≡ Ok 0) ↔ (Clear (deducible_rows s t) × (Deducible (InKnowledge s) (term s t) → ⊥))
  call_no = Iff.trans (returned r 0 call) (no_exact s bytes t)

-- ---- A7: a call of `deduction` on s, the number t and page that returned r and left page'
module _ (s : List ℕ) (t : ℕ) (page page' : List ℕ) (r : Result ℕ Refusal) (bytes : Bytes s) (call : DeductionWritten (λ a. answer_of r ≡ a) s t page page') where
  deduced : (n : ℕ) → (r ≡ Ok n) ↔ (deduction_answer s t (length page) call.steps ≡ done n)
  deduced n = returned r n call.writes.answer

  pub deduction_refuses : (n p : ℕ) → (answer_of r ≡ refused n p) ↔ Refuses (deduction_rows s t (length page)) n p
  deduction_refuses n p = Iff.trans (refuses r n p call.writes.answer) (deduction_exact s bytes t (length page) call.steps (refused n p))

  pub deduction_leaves : (n p : ℕ) → answer_of r ≡ refused n p → page' ≡ page
  deduction_leaves n p e = refused_page_kept bytes call ((refuses r n p call.writes.answer).0 e)

  -- no exactly where no finite list of steps reaches the term, and then the page is the page before;
  pub deduction_no : (r ≡ Ok 0) ↔ (Clear (deduction_rows s t (length page)) × (Deducible (InKnowledge s) (term s t) → ⊥))
  deduction_no = Iff.trans (deduced 0) (shown_no s bytes t (length page) call.steps)

  pub no_leaves : r ≡ Ok 0 → page' ≡ page
  no_leaves e = no_page bytes call ((deduced 0).0 e)

  -- yes exactly where one does: the steps that are then at the page's start are such a list, as many as the answer says, and the bytes behind them
  -- are as before
  pub deduction_yes : ((k : ℕ) × (r ≡ Ok (suc k))) ↔ (Clear (deduction_rows s t (length page)) × Deducible (InKnowledge s) (term s t))
  deduction_yes =
      let (f, g) = shown_exact s bytes t (length page) call.steps in (
        λ (k, e). let (_, c, d) = shown_yes s bytes t (length page) call.steps k ((deduced (suc k)).0 e) in (c, d),
        λ c. (call.steps, (deduced (suc call.steps)).1 (g c)),
      )

  module _ (k : ℕ) (yes : r ≡ Ok (suc k)) where
    pub deduction_shows : Deduction s t k (take (4 * k) page')
    deduction_shows = page_shows bytes call k ((deduced (suc k)).0 yes)

    pub deduction_keeps : drop (4 * k) page' ≡ drop (4 * k) page
    deduction_keeps = page_after_lem bytes call k ((deduced (suc k)).0 yes)

    -- in the place of the submission's own derivation they pass checks 1 to 4, 6 and 7
    pub deduction_passes : k ≤ 128 → Clear (rows1to4 (with_steps s (take (4 * k) page'))) × ((m q : ℕ) → rows6and7 (with_steps s (take (4 * k) page')) m q → ⊥)
    deduction_passes l =
        let (c, _) = deduction_yes.0 (k, yes) in
        let (d, _) = clear_split (deducible_rows s t) (numbered 19 (λ p. (p ≡ 1000) × (length page < 1000)) ∷ []) c in
        let (e, _) = (asked_iff s t).0 d in
        shown_promise.passes s bytes e t k (take (4 * k) page') deduction_shows l

-- A7: a call of `check` on s and page that refused with 8 and left page', and one of `deduction` for a premise of the verifying step with a sheet that
-- is long enough, which returned r and left sheet': it shows the premise
module _ (s page page' : List ℕ) (v : Verdict) (bytes : Bytes s) (call : Checked s page v page') (p : ℕ) (reachable : v ≡ Refused 8 p) (sheet sheet' : List ℕ) (long : 1000 ≤ length sheet)
    (r : Result ℕ Refusal) where
  both_shown : (m n : ℕ) → (deduction_answer s (p_at s (verifying s)) (length sheet) m ≡ done (suc m)) × (deduction_answer s (second_at s (verifying s)) (length sheet) n ≡ done (suc n))
  both_shown = shown_promise.shown s bytes (length page) p ((returned_verdict v (Refused 8 p) call.answer).0 reachable) (length sheet) long

  pub first_shown : DeductionWritten (λ a. answer_of r ≡ a) s (p_at s (verifying s)) sheet sheet' → (k : ℕ) × (r ≡ Ok (suc k))
  first_shown w = (w.steps, (returned r (suc w.steps) w.writes.answer).1 (both_shown w.steps w.steps).0)

  pub second_shown : DeductionWritten (λ a. answer_of r ≡ a) s (second_at s (verifying s)) sheet sheet' → (k : ℕ) × (r ≡ Ok (suc k))
  second_shown w = (w.steps, (returned r (suc w.steps) w.writes.answer).1 (both_shown w.steps w.steps).1)

-- ---- a call of `write` on the bodies b and page that returned r and left page'
module _ (b : Bodies) (page page' : List ℕ) (r : Result ℕ Refusal) (call : FormWritten b page r page') where
  pub write_refuses : (n p : ℕ) → (answer_of r ≡ refused n p) ↔ Refuses (write_rows b (length page)) n p
  write_refuses n p = Iff.trans (refuses r n p call.answer) (write_exact b (length page) (refused n p))

  pub write_leaves : (n p : ℕ) → answer_of r ≡ refused n p → page' ≡ page
  write_leaves n p e = call.bytes ∙ refused_page (submission_of b) page ((refuses r n p call.answer).0 e)

  pub write_accepts : (n : ℕ) → (r ≡ Ok n) ↔ (Clear (write_rows b (length page)) × (n ≡ length (submission_of b)))
  write_accepts n = Iff.trans (returned r n call.answer) (write_exact b (length page) (done n))

  -- where it is done with n, the submission is the first n bytes of the page, and the others are as before;
  module _ (n : ℕ) (written : r ≡ Ok n) where
    answered : write_answer b (length page) ≡ done n
    answered = (returned r n call.answer).0 written

    pub write_stands : (take n page' ≡ submission_of b) × (drop n page' ≡ drop n page)
    write_stands = stands call answered ((write_accepts n).0 written).1

    -- reading them gives the bodies again;
    pub write_reads : ReadsAs (take n page') b
    write_reads = subst (λ s. ReadsAs s b) (sym write_stands.0) (form_promise.read_again b (length page) n answered)

    -- and a call of `check` on them answers what checking the submission does, and refuses with no number below 3
    module _ (sheet sheet' : List ℕ) (v : Verdict) (checked : Checked (take n page') sheet v sheet') where
      pub written_verdict : verdict_answer v ≡ check_answer (submission_of b) (length sheet)
      written_verdict = checked.answer ∙ ap (λ s. check_answer s (length sheet)) write_stands.0

      pub written_passes : Bytes (take n page') → (m p : ℕ) → v ≡ Refused m p → 3 ≤ m
      written_passes bytes m p e =
          from_3 (take n page') (length sheet) m p write_reads.passes (refuses_some (check_rows (take n page') (length sheet)) m p ((call_refuses (take n page') sheet sheet' v bytes checked m p).0 e))

-- ---- a call of `write` on the bodies of a well-formed submission, with page enough
pub write_again : (s page page' : List ℕ) (r : Result ℕ Refusal) → Bytes s → WellFormed s → length s ≤ length page → FormWritten (bodies_of s) page r page' → (r ≡ Ok (length s)) × (take (length s) page' ≡ s)
write_again s page page' r bytes w l call =
    let counted = first_two s w.read in
    let done-is = (returned r (length s) call.answer).1 (form_promise.not_refused s bytes counted (length page) l) in
    (done-is, (write_stands (bodies_of s) page page' r call (length s) done-is).0 ∙ form_promise.written_again s bytes counted)

-- ---- A8: a call of `join` on a, b and page that returned r and left page'
module _ (a b page page' : List ℕ) (r : Result ℕ Refusal) (bytes_a : Bytes a) (bytes_b : Bytes b) (call : PoolWritten a b page r page') where
  pub join_refuses : (n p : ℕ) → (answer_of r ≡ refused n p) ↔ Refuses (join_rows a b (length page)) n p
  join_refuses n p = Iff.trans (refuses r n p call.answer) (join_exact a b bytes_a bytes_b (length page) (refused n p))

  pub join_leaves : (n p : ℕ) → answer_of r ≡ refused n p → page' ≡ page
  join_leaves n p e = call.bytes ∙ refused_page (joined a b) page ((refuses r n p call.answer).0 e)

  pub join_accepts : (n : ℕ) → (r ≡ Ok n) ↔ (Clear (join_rows a b (length page)) × (n ≡ length (joined a b)))
  join_accepts n = Iff.trans (returned r n call.answer) (join_exact a b bytes_a bytes_b (length page) (done n))

  -- where it is done with n, the pool is the first n bytes of the page, and the others are as before;
  module _ (n : ℕ) (written : r ≡ Ok n) where
    joined_so : join_answer a b (length page) ≡ done n
    joined_so = (returned r n call.answer).0 written

    pub join_stands : (take n page' ≡ joined a b) × (drop n page' ≡ drop n page)
    join_stands = stands call joined_so ((join_accepts n).0 written).1

    -- it has the terms and the knowledge of both, and the derivation and the claim of a;
    pub join_pools : IsPool a b (take n page')
    join_pools = subst (IsPool a b) (sym join_stands.0) (join_promise.pooled a b bytes_a bytes_b (length page) n joined_so)

    -- what was deducible stays so, and what was accepted too, unless the pool's knowledge reaches the premises of the verifying step
    pub join_keeps : PoolKeeps a b (take n page')
    join_keeps = subst (PoolKeeps a b) (sym join_stands.0) (pooled_promise a b bytes_a bytes_b (length page) n joined_so)

-- and one that joins a pool with either of the two again, with page enough, gives the pool
pub join_again : (a b c page page' : List ℕ) (r : Result ℕ Refusal) → Bytes a → Bytes b → (room n : ℕ) → join_answer a b room ≡ done n → (c ≡ a) ⊎ (c ≡ b) →
    n ≤ length page → PoolWritten (joined a b) c page r page' → (r ≡ Ok n) × (take n page' ≡ joined a b)
join_again a b c page page' r x y room n e o l call =
    let (same, taken) = join_promise.again a b x y room n e c o in
    let z : Bytes c = ⊎_elim (λ f. subst Bytes (sym f) x) (λ f. subst Bytes (sym f) y) o in
    let d = (returned r n call.answer).1 (taken (length page) l) in
    (d, (join_stands (joined a b) c page page' r (pool_bytes (join_done a b room x y n e).0) z call n d).0 ∙ same)

-- and one that joins a submission with itself, with page enough, gives its bytes
pub join_itself : (a page page' : List ℕ) (r : Result ℕ Refusal) → Bytes a → Clear (rows1to5 a) → length a ≤ length page → PoolWritten a a page r page' →
    (r ≡ Ok (length a)) × (take (length a) page' ≡ a)
join_itself a page page' r bytes clear l call =
    let e = (returned r (length a) call.answer).1 ((join_promise.itself a bytes clear).1 (length page) l) in
    (e, (join_stands a a page page' r bytes bytes call (length a) e).0 ∙ (join_promise.itself a bytes clear).0)

-- ---- a call of `inverses` on s and page that returned r and left page'
module _ (s page page' : List ℕ) (r : Result ℕ Refusal) (bytes : Bytes s) (call : InversesWritten s page r page') where
  pub inverses_refuses : (n p : ℕ) → (answer_of r ≡ refused n p) ↔ Refuses (inverses_rows s (length page)) n p
  inverses_refuses n p = Iff.trans (refuses r n p call.answer) (inverses_exact s bytes (length page) (refused n p))

  pub inverses_leaves : (n p : ℕ) → answer_of r ≡ refused n p → page' ≡ page
  inverses_leaves n p e = call.bytes ∙ refused_page (inverses_of s) page ((refuses r n p call.answer).0 e)

  pub inverses_accepts : (n : ℕ) → (r ≡ Ok n) ↔ (Clear (inverses_rows s (length page)) × (n ≡ terms s))
  inverses_accepts n = Iff.trans (returned r n call.answer) (inverses_exact s bytes (length page) (done n))

  -- A4: where it is done with n, the first n bytes are the inverses, and the others are as before;
  module _ (n : ℕ) (written : r ≡ Ok n) where
    pub inverses_stands : (take n page' ≡ inverses_of s) × (drop n page' ≡ drop n page)
    inverses_stands = stands call ((returned r n call.answer).0 written) (((inverses_accepts n).0 written).1 ∙ sym (inverses_promise.long s))

    -- byte k is the number of the inverse of term k, and 255 exactly where none is listed
    pub inverses_means : (k : ℕ) → k < n →
        ((j : ℕ) → j < n → (byte page' k ≡ j) ↔ Match asymmetric (term s k) (term s j)) × ((byte page' k ≡ 255) ↔ ((j : ℕ) → InverseListed s k j → ⊥))
    inverses_means k l =
        let (c, e) = (inverses_accepts n).0 written in
        let (d, _) = clear_split (rows1to4 s) (row11 (terms s) (length page) ∷ []) c in
        let l' : k < terms s = omega arith in
        let f : byte page' k ≡ byte (inverses_of s) k = sym (get_or-take n page' k 0 l) ∙ ap (λ x. byte x k) inverses_stands.0 in
        rw f ((λ j m. inverses_promise.listed s bytes d k l' j (omega arith)), inverses_promise.none s bytes d k l')

-- ---- a call of `read_back` on s, the program P and page that returned r and left page'
module _ (s P page page' : List ℕ) (r : Result ℕ Refusal) (bytes : Bytes s) (call : BodiesWritten s P page r page') where
  pub read_back_refuses : (n p : ℕ) → (answer_of r ≡ refused n p) ↔ Refuses (read_back_rows s P (length page)) n p
  read_back_refuses n p = Iff.trans (refuses r n p call.answer) (read_back_exact s P bytes (length page) (refused n p))

  pub read_back_leaves : (n p : ℕ) → answer_of r ≡ refused n p → page' ≡ page
  read_back_leaves n p e = call.bytes ∙ refused_page (bodies_read s P) page ((refuses r n p call.answer).0 e)

  pub read_back_accepts : (n : ℕ) → (r ≡ Ok n) ↔ (Clear (read_back_rows s P (length page)) × (n ≡ bodies_length (byte P 0)))
  read_back_accepts n = Iff.trans (returned r n call.answer) (read_back_exact s P bytes (length page) (done n))

  -- A6: where it is done with n, the two bodies are the first n bytes of the page, and the others are as before;
  module _ (n : ℕ) (written : r ≡ Ok n) where
    answered_so : read_back_answer s P (length page) ≡ done n
    answered_so = (returned r n call.answer).0 written

    pub read_back_stands : (take n page' ≡ bodies_read s P) × (drop n page' ≡ drop n page)
    read_back_stands = stands call answered_so (((read_back_accepts n).0 written).1 ∙ sym (read_back_promise.long s P))

    -- in the place of the submission's own they pass checks 1 to 4, and each step is right
    pub read_back_right : Clear (rows1to4 (replaced s P)) × ((i : ℕ) → i < byte P 0 → StepRight (replaced s P) s P i)
    read_back_right = ((read_back_promise.reads s P bytes (length page) n answered_so).0, read_back_promise.right s P bytes (length page) n answered_so)

-- ---- A6: a call of `check` on s and page that accepted with n and left page', and one of `read_back` with the program on that page and a sheet
-- that is long enough, which returned r and left sheet'
module _ (s page page' : List ℕ) (v : Verdict) (bytes : Bytes s) (call : Checked s page v page') (n : ℕ) (accepted : v ≡ Accepted n) (sheet sheet' : List ℕ) (r : Result ℕ Refusal)
    (back : BodiesWritten s (take (program_length n) page') sheet r sheet') (room : bodies_length n ≤ length sheet) where
  abbrev P : List ℕ
  P = take (program_length n) page'

  check_done : check_answer s (length page) ≡ done n
  check_done = (returned_verdict v (Accepted n) call.answer).0 accepted

  page_is : P ≡ bytes_of (program s)
  page_is = (call_keeps s page page' v bytes call n accepted).program

  back_done : read_back_answer s P (length sheet) ≡ done (bodies_length n)
  back_done = ap (λ x. read_back_answer s x (length sheet)) page_is ∙ read_back_promise.taken s bytes (length page) n check_done (length sheet) room

  own_bodies : (derivation_read s P ≡ body_at s 2) × (claim_read s P ≡ body_at s 3)
  own_bodies = subst (λ x. (derivation_read s x ≡ body_at s 2) × (claim_read s x ≡ body_at s 3)) (sym page_is) (read_back_promise.own s bytes (length page) n check_done)

  -- "its page must give back its own derivation and claim"
  pub back_own : (r ≡ Ok (bodies_length n)) × (take (bodies_length n) sheet' ≡ body_at s 2 ++ body_at s 3)
  back_own =
      let e = (returned r (bodies_length n) back.answer).1 back_done in
      (e, (read_back_stands s P sheet sheet' r bytes back (bodies_length n) e).0 ∙ ap₂ ◌++◌ own_bodies.0 own_bodies.1)

  -- the two bodies, as they stand on the sheet
  counted : Clear (rows1and2 s)
  counted = let (_, w, _, _) = (call_accepts s page page' v bytes call n).0 accepted in first_two s w.read

  sheet_is : sheet' ≡ body_at s 2 ++ (body_at s 3 ++ drop (length (bodies_read s P)) sheet)
  sheet_is = back.bytes ∙ ap (λ x. page_after x (bodies_read s P) sheet) back_done ∙ ap (λ x. x ++ drop (length (bodies_read s P)) sheet) (ap₂ ◌++◌ own_bodies.0 own_bodies.1) ∙ append_assoc (body_at s 2) (body_at s 3) _

  same_bodies : (take (4 * n) sheet' ≡ body_at s 2) × (take 4 (drop (4 * n) sheet') ≡ body_at s 3)
  same_bodies =
      let (f, _, _, _) = (call_accepts s page page' v bytes call n).0 accepted in
      let l : length (body_at s 2) ≡ 4 * n = body_length s bytes counted 2 (omega arith) ∙ ap (λ k. 4 * k) (sym f) in
      let m : length (body_at s 3) ≡ 4 = sym (ap length own_bodies.1) in
      (ap (take (4 * n)) sheet_is ∙ take_at (body_at s 2) _ (4 * n) l, ap (λ x. take 4 (drop (4 * n) x)) sheet_is ∙ ap (take 4) (drop_at (body_at s 2) _ (4 * n) l) ∙ take_at (body_at s 3) _ 4 m)

  pub back_same : submission_of (bodies (body_at s 0) (body_at s 1) (take (4 * n) sheet') (take 4 (drop (4 * n) sheet'))) ≡ s
  back_same = ap₂ (λ d c. submission_of (bodies (body_at s 0) (body_at s 1) d c)) same_bodies.0 same_bodies.1 ∙ form_promise.written_again s bytes counted

  -- "two bodies read back from an accepted page, checked again, must yield that page": a call of `check` on the submission with these bodies
  pub back_again : (copy copy' : List ℕ) (u : Verdict) → Checked (submission_of (bodies (body_at s 0) (body_at s 1) (take (4 * n) sheet') (take 4 (drop (4 * n) sheet')))) copy u copy' →
      program_length n ≤ length copy → (u ≡ Accepted n) × (take (program_length n) copy' ≡ take (program_length n) page')
  back_again copy copy' u c l =
      let again : Checked s copy u copy' = subst (λ x. Checked x copy u copy') back_same c in
      let (f, w, k, _) = (call_accepts s page page' v bytes call n).0 accepted in
      let e = (call_accepts s copy copy' u bytes again n).1 (f, w, k, rw f at l) in
      (e, (call_keeps s copy copy' u bytes again n e).program ∙ sym page_is)
