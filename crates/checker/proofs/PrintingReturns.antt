-- The returns of `write_verdict`: the text of an acceptance and of a refusal, whole in a buffer that is long enough.
use mathlib.Core.Path.{◌≡◌, sym, ap, ap₂, ◌∙◌}
use mathlib.Core.List.{List}
use Prim.Native.Nat.{ℕ, ◌<◌}
use native.Mathlib.Omega.{arith}
use lib.ListN.{replicate, length-replicate}
use Rattle.base.specs.Answer.{Answer, done, refused, Puts}
use Rattle.base.specs.Words.{Bytes}
use Rattle.submission.specs.Record.{entries}
use Rattle.submission.proofs.Theory.ReadingRows.{claimed_clear}
use Rattle.text.specs.Text.{answer_text, refused_text}
use Rattle.text.proofs.Theory.TextLength.{accepted_whole, refused_whole}
use Rattle.conditions.specs.declared.Verdict.{Verdict}
use Rattle.conditions.specs.declared.Verdict.TheVariants.{Accepted, Refused}
use Rattle.conditions.specs.Computed.{check_answer}
use Rattle.checker.specs.Calls.{verdict_text, Printed}
use Rattle.conditions.specs.Calls.{verdict_answer, Checked}
use Rattle.conditions.proofs.Theory.Acceptance.{accepted_iff}

module _ (s : List ℕ) {page : List ℕ} (v : Verdict) (c : Checked s (replicate 388 0) v page) where
  -- the text, from the answer that the page of 388 bytes got
  text_of : (a : Answer) → verdict_answer v ≡ a → verdict_text s ≡ answer_text (entries s) a page
  unfolding verdict_text
  text_of a e =
      let f : check_answer s 388 ≡ a = rw (length-replicate {A = ℕ} 388 0) at (sym c.answer ∙ e) in
      ap₂ (answer_text (entries s)) f (sym c.bytes)

  pub printed_accepted : {out out' : List ℕ} {known n r : ℕ} → Bytes s → Bytes page → v ≡ Accepted n → known ≡ entries s →
      Puts out 0 (answer_text known (done n) page) out' r → Printed s out r out'
  printed_accepted {out} {out'} {known} {n} {r} b p e f h =
      let g : answer_text known (done n) page ≡ verdict_text s = ap (λ k. answer_text k (done n) page) f ∙ sym (text_of (done n) (ap verdict_answer e)) in
      let a : check_answer s 388 ≡ done n = rw (length-replicate {A = ℕ} 388 0) at (sym c.answer ∙ ap verdict_answer e) in
      let (m, w, _, _) = (accepted_iff s b 388 n).0 a in
      let z = (claimed_clear s b w.read).read in
      record {
        puts = rw g at h;
        whole = λ l. rw (← g) (accepted_whole page p known n (omega (arith, b 5)) (omega (arith, z.steps_most)) (omega (arith, z.steps_most)) h);
      }

  pub printed_refused : {out out' : List ℕ} {number place r : ℕ} → v ≡ Refused number place → number < 256 → place < 65536 →
      Puts out 0 (refused_text number place) out' r → Printed s out r out'
  unfolding answer_text
  printed_refused {out} {out'} {number} {place} {r} e k l h =
      let g : refused_text number place ≡ verdict_text s = sym (text_of (refused number place) (ap verdict_answer e)) in
      record { puts = rw g at h; whole = λ m. rw (← g) (refused_whole number place k l (omega arith) h) }
