-- Demand 3: an acceptance's page holds the submission's program, with which the right guess signals 1 and every wrong guess 0;
-- and every well-formed submission that meets the five conditions, with page enough, is accepted.
use mathlib.Core.Path.{◌≡◌, refl, ap, sym, ◌∙◌}
use mathlib.Core.List.{List, ◌++◌}
use Prim.Native.Nat.{ℕ, ◌≤◌}
use lib.ListN.{length, take, drop}
use lib.Seq.{take_at, drop_at}
use Rattle.base.specs.Answer.{done, page_after}
use Rattle.base.specs.Words.{Bytes}
use Rattle.base.proofs.RefusalLaws.{passes_iff}
use Rattle.submission.specs.Record.{steps, guess, name_at}
use Rattle.submission.proofs.Theory.ReadingRows.{tells_1_to_5}
use Rattle.program.specs.Program.{bytes_of, program_length}
use Rattle.machine.specs.Run.{StaleName, signal}
use Rattle.machine.proofs.Theory.{RunAnswer.tells_program, StaleNames.taken_fresh, StaleNames.fresh_taken}
use Rattle.conditions.specs.Calls.{program}
use Rattle.conditions.specs.Condition.{WellFormed, FiveConditions}
use Rattle.conditions.specs.Demand.{Demand3, Demand3Taken}
use Rattle.conditions.proofs.Theory.Acceptance.{accepted_iff}
use Rattle.conditions.proofs.Theory.ProgramRun.{program_bytes}
use Rattle.conditions.proofs.Theory.Signal.{program_good, right_signal, wrong_signal}
use Rattle.machine.specs.Computed.{run_answer}
use Rattle.conditions.specs.Computed.{check_answer}

-- the page of an acceptance
page_accepted : (s page : List ℕ) (n : ℕ) → check_answer s (length page) ≡ done n →
    page_after (check_answer s (length page)) (bytes_of (program s)) page ≡ bytes_of (program s) ++ drop (length (bytes_of (program s))) page
page_accepted s page n e = rw e

-- run takes the program, with a name that is not stale
run_program : (s : List ℕ) → Bytes s → WellFormed s → FiveConditions s → (name : ℕ) → (StaleName s name → ⊥) → run_answer s name (bytes_of (program s)) ≡ done (signal s name (bytes_of (program s)))
run_program s b w c name =
    let r = (passes_iff (tells_1_to_5 s b)).1 w.read in
    fresh_taken s (bytes_of (program s)) b name ((passes_iff (tells_program s (bytes_of (program s)) b)).0 (rw (r, program_good s b w c)))

-- ---- Demand 3
-- every acceptance keeps the promise
pub demand_3 : Demand3
demand_3 s page b n e =
    let (f, w, c, l) = (accepted_iff s b (length page) n).0 e in
    let g : length (bytes_of (program s)) ≡ program_length n = program_bytes s ∙ ap program_length (sym f) in
    let p = page_accepted s page n e in
    let t : take (program_length n) (page_after (check_answer s (length page)) (bytes_of (program s)) page) ≡ bytes_of (program s) = ap (take (program_length n)) p ∙ take_at (bytes_of (program s)) _ (program_length n) g in
    record {
      program = t;
      rest = ap (drop (program_length n)) p ∙ drop_at (bytes_of (program s)) _ (program_length n) g ∙ ap (λ k. drop k page) g;
      right = ap (run_answer s (name_at s (guess s))) t ∙ run_program s b w c (name_at s (guess s)) (λ (d, _). d refl) ∙ ap done (right_signal s b w c);
      wrong = λ name z. ap (run_answer s name) t ∙ run_program s b w c name (λ (_, t). z.fresh t) ∙ ap done (wrong_signal s b w c name z);
    }

-- every name that run takes, other than the guess's own, is that of a wrong guess, and signals 0
pub demand_3_taken : Demand3Taken
demand_3_taken s page b n e name d v r =
    let P = take (program_length n) (page_after (check_answer s (length page)) (bytes_of (program s)) page) in
    let f = (demand_3 s page b n e).wrong name (record { other = d; fresh = taken_fresh s P b name v d r }) in
    let g : done v ≡ done 0 = sym r ∙ f in cc

-- and every well-formed submission that meets the five conditions, with page enough, is accepted
pub every_good_accepted : (s : List ℕ) → Bytes s → (room : ℕ) → WellFormed s → FiveConditions s → program_length (steps s) ≤ room → check_answer s room ≡ done (steps s)
every_good_accepted s b room w c l = (accepted_iff s b room (steps s)).1 (refl, w, c, l)
