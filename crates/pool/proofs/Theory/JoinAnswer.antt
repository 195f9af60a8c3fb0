-- Joining answers as its rows and their order say; and when it is done.
use mathlib.Core.Path.{◌≡◌, refl, sym}
use mathlib.Core.Logic.{◌↔◌}
use mathlib.Core.Bool.{false}
use mathlib.Core.List.{List}
use Prim.Native.Nat.{ℕ, ◌≤◌}
use borrow.Author.Tests.{ltb-false, le-ltb}
use lib.{ListN.length, Dec.ltb}
use Rattle.base.specs.{Words.Bytes, Answer.Answer, Answer.done, Answer.Answers, Computed.fails_if, Computed.check_room}
use Rattle.base.proofs.{Says.Says, Says.says_ltb, Says.says_or, Says.denies, RefusalLaws.tells_if, RefusalLaws.tells_room, RefusalLaws.tells_then, RefusalLaws.answers_iff, AnswerLaws.if_passes, AnswerLaws.then_passes, AnswerLaws.answered_done}
use Rattle.submission.specs.{Record.most, Body.records, Code.SubmissionRead, Computed.checks1to5}
use Rattle.submission.proofs.Theory.ReadingRows.{tells_1_to_5}
use Rattle.pool.specs.{Pool.pool, Pool.joined, Pool.Overfull, Pool.join_rows, Computed.overfull, Computed.checks_of_pool, Computed.join_answer}

pub says_overfull : (a b : List ℕ) → Says (overfull a b) (Overfull a b)
says_overfull a b = says_or _ _ (says_ltb (most 0) (records (pool a b) 0)) (says_ltb (most 1) (records (pool a b) 1))

-- the two passed checks 1 to 5, and their pool is within the limits
pub record Joinable (a b : List ℕ) : Type 0 where
  pub first : SubmissionRead a
  pub second : SubmissionRead b
  pub within : overfull a b ≡ false

pub not_overfull : {a b : List ℕ} → Joinable a b → Overfull a b → ⊥
not_overfull {a} {b} h = (denies (overfull a b) (says_overfull a b)).0 h.within

-- Joining refuses with n at p exactly when row n holds at p and no row holds that the order puts before it; else it is done with the pool's length.
pub join_exact : (a b : List ℕ) → Bytes a → Bytes b → (room : ℕ) (c : Answer) → (join_answer a b room ≡ c) ↔ Answers (join_rows a b room) (λ n. n ≡ length (joined a b)) c
unfolding join_answer
join_exact a b x y room =
    answers_iff
    (tells_then (checks1to5 a) _ (tells_1_to_5 a x) (λ _.
    tells_then (checks1to5 b) (checks_of_pool a b room) (tells_1_to_5 b y) (λ _.
    tells_then (fails_if (overfull a b) 20 0) _ (tells_if (overfull a b) 20 0 (says_overfull a b)) (λ _.
    tells_room (length (joined a b)) room))))
    (length (joined a b)) (λ n. n ≡ length (joined a b)) (λ _ n. (sym, sym))

module _ (a b : List ℕ) (room : ℕ) where
  -- where it is done the two can be joined, it says the pool's length, and the page has room for the pool
  pub join_done : Bytes a → Bytes b → (n : ℕ) → join_answer a b room ≡ done n → Joinable a b × (length (joined a b) ≡ n) × (length (joined a b) ≤ room)
  unfolding join_answer
  join_done x y n e =
      let (f, l) = (answered_done _ (length (joined a b)) n).0 e in
      let (p, g) = (then_passes (checks1to5 a) _).0 f in
      let (q, h) = (then_passes (checks1to5 b) (checks_of_pool a b room)).0 g in
      let (o, r) = (then_passes (fails_if (overfull a b) 20 0) (check_room (length (joined a b)) room)).0 h in (
        record { first = record { bytes = x; passed = p }; second = record { bytes = y; passed = q }; within = (if_passes (overfull a b) 20 0).0 o },
        l,
        ltb-false _ _ ((if_passes (ltb room (length (joined a b))) 11 _).0 r),
      )

  -- and with page enough it is done
  pub done_joinable : Joinable a b → length (joined a b) ≤ room → join_answer a b room ≡ done (length (joined a b))
  unfolding join_answer
  done_joinable h l =
      (answered_done _ (length (joined a b)) _).1 (
        (then_passes (checks1to5 a) _).1 (
          h.first.passed,
          (then_passes (checks1to5 b) (checks_of_pool a b room)).1 (
            h.second.passed,
            (then_passes (fails_if (overfull a b) 20 0) (check_room (length (joined a b)) room)).1
                ((if_passes (overfull a b) 20 0).1 h.within, (if_passes (ltb room (length (joined a b))) 11 _).1 (le-ltb _ _ l)),
          ),
        ),
        refl,
      )
