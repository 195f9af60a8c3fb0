-- The checks in order and the page: a law for each way out of the call.
use mathlib.Core.Path.{◌≡◌, sym, ap, ◌∙◌}
use mathlib.Core.List.{List}
use Prim.Native.Nat.{ℕ}
use native.Mathlib.Omega.{arith}
use lib.{ListN.length, Seq.take_all}
use borrow.Author.Tests.{ltb-false}
use Rattle.std.specs.Prelude.{Result, Ok, Err}
use Rattle.base.specs.declared.refusal.Refusal.{Refusal}
use Rattle.base.specs.Code.{check_of}
use Rattle.base.specs.{Answer.done, Answer.refused, Answer.number_of, Answer.answer_of, Answer.Puts}
use Rattle.base.specs.Computed.{Check, any, passes, fails, fails_if, check_room, and_then, answered}
use Rattle.base.proofs.AnswerLaws.{fails_not_passes, if_passes}
use Rattle.base.proofs.PutLaws.{puts_front}
use Rattle.submission.specs.{Body.Bodies, Body.records, Body.submission_of, Computed.check_limits}
use Rattle.form.specs.Computed.{ragged, write_answer}
use Rattle.form.specs.Code.{Writable}
use Rattle.form.specs.Calls.{FormWritten}

-- a refusal of the first two checks is that of all three
stays_refused : (c d e : Check) {n p : ℕ} → fails n p ≡ and_then c d → and_then c (and_then d e) ≡ fails n p
stays_refused passes passes e h = fails_not_passes h
stays_refused passes (fails n p) e h = sym h
stays_refused (fails n p) d e h = sym h

module _ (b : Bodies) (page : List ℕ) where
  room : Check
  room = check_room (length (submission_of b)) (length page)

  module _ (w : Writable b) {n : ℕ} (f : n ≡ length (submission_of b)) where
    answer_is : {x : Check} → room ≡ x → write_answer b (length page) ≡ answered x (done n)
    unfolding room write_answer
    answer_is e = rw (w.whole, w.limited, e, f)

    module _ (u : Result Unit Refusal) (g : check_of u ≡ check_room n (length page)) where
      room_is : room ≡ check_of u
      unfolding room
      room_is = sym (rw f at g)

      pub page_short : {x : Refusal} (r : Result ℕ Refusal) → u ≡ Err x → answer_of r ≡ refused (number_of x.fault) x.place → FormWritten b page r page
      page_short r e h = let a = answer_is (room_is ∙ ap check_of e) in record { answer = h ∙ sym a; bytes = rw a }

      pub page_written : {v : Unit} {page' : List ℕ} {k : ℕ} → u ≡ Ok v → Puts page 0 (submission_of b) page' k → FormWritten b page (Ok n) page'
      unfolding room
      page_written e p =
          let a = answer_is (room_is ∙ ap check_of e) in
          let l = ltb-false (length page) n ((if_passes _ 11 n).0 (sym g ∙ ap check_of e)) in
          record { answer = sym a; bytes = rw a (puts_front p ∙ rw (take_all (length page) (submission_of b) (omega arith))) }

  -- a refusal x of checks 14 and 2 goes straight out
  pub refused_out : (r : Result ℕ Refusal) (x : Refusal) → fails (number_of x.fault) x.place ≡ and_then (fails_if (any (ragged b) 4) 14 0) (check_limits (records b)) →
      answer_of r ≡ refused (number_of x.fault) x.place → FormWritten b page r page
  unfolding room write_answer
  refused_out r x e f = let z = stays_refused (fails_if (any (ragged b) 4) 14 0) (check_limits (records b)) room e in record { answer = f ∙ rw z; bytes = rw z }
