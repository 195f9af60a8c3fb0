-- A submission longer than the contents can describe is refused with 1 whatever its bytes are, so a reader of standard input may stop
-- at 4,096 bytes.
use mathlib.Core.Path.{◌≡◌, sym, ◌∙◌}
use mathlib.Core.Bool.{true, not}
use mathlib.Core.List.{List}
use Prim.Native.Nat.{ℕ, ◌≤◌, ◌<◌, ◌*◌, ◌+◌}
use native.Mathlib.Omega.{arith}
use lib.Dec.{eqb, ltb}
use mathlib.Core.Logic.{by_cases}
use native.Mathlib.Decide.{dec_lt}
use lib.ListN.{length, take, length-take, get_or-eq_default}
use lib.Seq.{get_or-take}
use borrow.Author.Tests.{ne_eqb}
use Rattle.base.specs.Words.{byte, Bytes}
use Rattle.base.proofs.BoolLaws.{or_right}
use Rattle.base.specs.Answer.{refused}
use Rattle.submission.specs.Record.{letter, start_of, start}
use Rattle.base.specs.Computed.{any}
use Rattle.text.specs.Text.{answer_text, refused_text}
use Rattle.submission.specs.Computed.{bad_contents, checks1to4, checks1to5}
use Rattle.checker.specs.Calls.{verdict_text}
use Rattle.conditions.specs.Computed.{checks_before_page, check_answer}

-- the bodies end at byte 3,076 at the latest
end_small : (s : List ℕ) → Bytes s → start s 4 ≤ 3076
unfolding start_of
end_small s b = let t = b 1 in let k = b 5 in let d = b 9 in let v = b 13 in omega arith

long_contents : (s : List ℕ) → Bytes s → 3076 < length s → bad_contents s ≡ true
unfolding bad_contents
long_contents s b l =
    let e : not (eqb (length s) (start s 4)) ≡ true = rw (ne_eqb (length s) (start s 4) (λ e. let h = end_small s b in omega arith)) in
    or_right (ltb (length s) 16) _ (or_right (any (λ i. not (eqb (byte s (4 * i)) (letter i))) 4) _
    (or_right (any (λ i. not (eqb (byte s (4 * i + 2) * 256 + byte s (4 * i + 3)) (start s i))) 4) _ e))

pub long_refused : (s : List ℕ) → Bytes s → 3076 < length s → (page : ℕ) → check_answer s page ≡ refused 1 0
unfolding check_answer checks_before_page checks1to5 checks1to4
long_refused s b l page = rw (long_contents s b l)

long_verdict : (s : List ℕ) → Bytes s → 3076 < length s → verdict_text s ≡ refused_text 1 0
unfolding verdict_text answer_text
long_verdict s b l = rw (long_refused s b l 388)

taken_bytes : (n : ℕ) (s : List ℕ) → Bytes s → Bytes (take n s)
taken_bytes n s b i =
    by_cases (dec_lt i n) (λ l. rw (get_or-take n s i 0 l) (b i)) (λ g. let h : length (take n s) ≤ i = rw (length-take n s) (omega arith) in rw (get_or-eq_default (take n s) 0 h) (omega arith))

-- the first 4,096 bytes of a longer input get the text that its whole bytes have
pub long_text : (s : List ℕ) → Bytes s → 4096 ≤ length s → verdict_text (take 4096 s) ≡ verdict_text s
long_text s b l =
    long_verdict (take 4096 s) (taken_bytes 4096 s b) (rw (length-take 4096 s) (omega arith)) ∙ sym (long_verdict s b (omega arith))
