-- The checks in order, and the page: a law for each return.
use mathlib.Core.Path.{◌≡◌, sym, ap, ◌∙◌}
use mathlib.Core.Bool.{false}
use mathlib.Core.List.{List}
use Prim.Native.Nat.{ℕ}
use native.Mathlib.Omega.{arith}
use lib.ListN.{length}
use lib.Seq.{take_all}
use lib.Dec.{ltb}
use borrow.Author.Tests.{ltb-false}
use Rattle.std.specs.Prelude.{Result, Ok}
use Rattle.base.specs.declared.refusal.Refusal.{Refusal}
use Rattle.base.specs.declared.writer.Writer.{Writer}
use Rattle.base.specs.{Words.byte, Words.first, Code.Wrote, Code.check_of, Computed.fails_at, Computed.fails_if, Computed.check_room}
use Rattle.base.proofs.{AnswerLaws.if_passes, StageLaws.stage_passes, PutLaws.puts_front, PutLaws.wrote_then, PutLaws.wrote_out}
use Rattle.submission.specs.{Code.SubmissionRead}
use Rattle.derivation.specs.Step.{written}
use Rattle.program.specs.{Program.test_at, Computed.bad_program}
use Rattle.machine.specs.Code.{RegisterNumbers}
use Rattle.readback.specs.ReadBack.{derivation_read, claim_read, bodies_read, bodies_length}
use Rattle.readback.specs.Computed.{off_table, no_claim, read_back_answer}
use Rattle.readback.specs.Code.{Numbered, Claimable}
use Rattle.readback.specs.Calls.{BodiesWritten}
use Rattle.readback.proofs.Theory.ReplacedBodies.{bodies_length_lem}
use Rattle.readback.proofs.ReadReturns.{all_numbered}

-- ---- check 11 passed: b instructions were counted, and n bytes are needed
module _ {s P l : List ℕ} (page : List ℕ) {b n : ℕ} (z : Claimable s P l) (e : b ≡ byte P 0) (f : n ≡ bodies_length b) where
  abbrev q : Numbered s P l
  q = z.numbered

  pub page_written : {r : Result (Unit {0}) Refusal} {x : Unit {0}} {u v : Writer} {page' : List ℕ} {w : Writer} → check_of r ≡ check_room n (length page) → r ≡ Ok x →
      Wrote u (derivation_read s P) v → Wrote v (claim_read s P) w → u.buffer.now ≡ page → u.at ≡ 0 → page' ≡ w.buffer.now → BodiesWritten s P page (Ok n) page'
  unfolding read_back_answer
  page_written h p d c i j m =
      let g : n ≡ bodies_length (byte P 0) = f ∙ ap bodies_length e in
      let k : ltb (length page) (bodies_length (byte P 0)) ≡ false = rw g at ((if_passes _ 11 n).0 (stage_passes _ h p)) in
      record {
        answer = rw (q.read.passed, q.good, q.table, z.claimed, k, g);
        bytes =
            rw (q.read.passed, q.good, q.table, z.claimed, k)
            (puts_front (wrote_out (wrote_then d c) i j m) ∙ rw (take_all (length page) (bodies_read s P) (omega (arith, bodies_length_lem s P, ltb-false _ _ k))));
      }

-- ---- checks 17 and 18
pub claimable : {s P l : List ℕ} {T U : Type 0} {u : Result T Refusal} {v : Result U Refusal} {x : T} {y : U} → SubmissionRead s → bad_program s P ≡ false → RegisterNumbers s P l →
    check_of u ≡ fails_at 17 (first (off_table s P) (written s (byte P 0))) → u ≡ Ok x → check_of v ≡ fails_if (no_claim s (test_at P)) 18 0 → v ≡ Ok y → Claimable s P l
claimable w g z e t f p = record { numbered = all_numbered w g z e t; claimed = (if_passes _ 18 0).0 (sym f ∙ ap check_of p) }
