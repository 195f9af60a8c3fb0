-- Writing answers as its rows and their order say.
use mathlib.Core.Path.{◌≡◌, sym}
use mathlib.Core.Logic.{◌↔◌}
use Prim.Native.Nat.{ℕ}
use lib.ListN.{length}
use Rattle.base.specs.Answer.{Answer, done, Answers}
use Rattle.base.specs.Computed.{any, fails_if, check_room, and_then}
use Rattle.base.proofs.{Says.says_any, RefusalLaws.Tells, RefusalLaws.tells_if, RefusalLaws.tells_room, RefusalLaws.tells_then, RefusalLaws.answers_iff, AnswerLaws.if_passes, AnswerLaws.then_passes, AnswerLaws.answered_done}
use Rattle.submission.specs.{Body.Bodies, Body.records, Body.submission_of, Computed.check_limits}
use Rattle.submission.proofs.Theory.ReadingRows.{tells_limits}
use Rattle.form.specs.{Write.write_rows, Computed.ragged, Computed.write_answer, Code.Writable}
use Rattle.form.proofs.Theory.WritableBodies.{says_ragged, writable}

module _ (b : Bodies) (room : ℕ) where
  tells_write : Tells (and_then (fails_if (any (ragged b) 4) 14 0) (and_then (check_limits (records b)) (check_room (length (submission_of b)) room))) (write_rows b room)
  tells_write =
      tells_then (fails_if (any (ragged b) 4) 14 0) _ (tells_if (any (ragged b) 4) 14 0 (says_any (ragged b) 4 (says_ragged b))) (λ _.
      tells_then (check_limits (records b)) _ (tells_limits (records b)) (λ _.
      tells_room (length (submission_of b)) room))

  -- Writing refuses with n at p exactly when row n holds at p and no row holds that the order puts before it; else it is done with the
  -- submission's length.
  pub write_exact : (a : Answer) → (write_answer b room ≡ a) ↔ Answers (write_rows b room) (λ n. n ≡ length (submission_of b)) a
  unfolding write_answer
  write_exact = answers_iff tells_write (length (submission_of b)) (λ n. n ≡ length (submission_of b)) (λ _ n. (sym, sym))

  -- where it is done the bodies are whole and within their limits
  pub written_writable : {n : ℕ} → write_answer b room ≡ done n → Writable b
  unfolding write_answer
  written_writable {n} e =
      let (f, _) = (answered_done _ (length (submission_of b)) n).0 e in
      let (g, h) = (then_passes (fails_if (any (ragged b) 4) 14 0) _).0 f in
      writable b ((if_passes (any (ragged b) 4) 14 0).0 g) ((then_passes (check_limits (records b)) _).0 h).0
