-- How long the printed texts are at most, and that a buffer with that much room holds them whole.
use mathlib.Core.Path.{◌≡◌}
use mathlib.Core.Bool.{Bool, true, false, cond}
use mathlib.Core.Option.{Option, none, some}
use mathlib.Core.List.{List}
use Prim.Native.Nat.{ℕ, zero, suc, ◌+◌, ◌*◌, ◌^◌, ◌≤◌, ◌<◌}
use native.Mathlib.Nat.{le_trans}
use native.Mathlib.Omega.{arith}
use lib.ListN.{length, take, length-append}
use Rattle.term.specs.Number.{has_one}
use Rattle.term.proofs.Rule.{word_length}
use Rattle.base.specs.Answer.{done}
use Rattle.base.specs.Words.{byte, Bytes}
use Rattle.term.specs.Term.{Relation, equal, inverses}
use Rattle.program.specs.Program.{relation_of, relation_word, Instruction, instruction_at, test_at}
use Rattle.std.proofs.lemmas.Fmt.{length-decimal-le}
use Rattle.text.specs.Text.{decimal, register_text, second_text, step_line, step_lines, test_line, refused_text, answer_text}
use Rattle.base.specs.Answer.{Puts}
use Rattle.base.proofs.PutLaws.{puts_whole}
use Rattle.text.proofs.Theory.Decimal.{decimal_is}

-- a number below ten to the k has at most k digits
decimal_length : (k n : ℕ) → 0 < k → n < 10 ^ k → n < 65536 → length (decimal n) ≤ k
decimal_length k n z h l = rw (← (decimal_is n l)) (length-decimal-le k n z h (omega arith))

register_length : (r : ℕ) → r < 1000 → length (register_text r) ≤ 4
register_length r h = omega (arith, decimal_length 3 r (omega arith) h (omega arith))

picked_length : (m : ℕ) (b : Bool) (x y : List ℕ) → length x ≤ m → length y ≤ m → length (cond b x y) ≤ m
picked_length m true x y h k = h
picked_length m false x y h k = k

relation_length : (o : Option Relation) → length (relation_word o) ≤ 6
relation_length none = omega arith
relation_length (some equal) = omega arith
relation_length (some inverses) = omega arith

second_length : (rule r : ℕ) → r < 1000 → length (second_text rule r) ≤ 5
second_length rule r h = picked_length 5 (has_one rule) _ _ (omega arith) (omega (arith, register_length r h))

step_length : (r : ℕ) (i : Instruction) → r < 1000 → i.left < 1000 → i.right < 1000 → length (step_line r i) ≤ 22
unfolding step_line
step_length r i h f s =
    simp length-append (omega (arith, register_length r h, word_length i.rule, register_length i.left f, second_length i.rule i.right s))

test_length : (t : Instruction) → t.left < 1000 → t.right < 1000 → length (test_line t) ≤ 24
unfolding test_line
test_length t f s = simp length-append (omega (arith, register_length t.left f, relation_length (relation_of t.rule), register_length t.right s))

module _ (page : List ℕ) (bytes : Bytes page) where
  steps_length : (r n : ℕ) → r + n ≤ 1000 → length (step_lines r page n) ≤ 22 * n
  unfolding step_lines instruction_at
  steps_length r zero h = omega arith
  steps_length r (suc n) h =
      rw length-append
      (omega (arith, steps_length r n (omega arith), step_length (r + n) (instruction_at page n) (omega arith) (omega (arith, bytes (3 * n + 2))) (omega (arith, bytes (3 * n + 3)))))

  accepted_length : (known n : ℕ) → known < 256 → n < 256 → length (answer_text known (done n) page) ≤ 22 * n + 37
  unfolding answer_text instruction_at
  accepted_length known n h k =
      simp length-append
      (omega (arith, decimal_length 3 n (omega arith) (omega arith) (omega arith), steps_length (known + 1) n (omega arith), test_length (test_at page) (omega (arith, bytes (3 * byte page 0 + 2))) (omega (arith, bytes (3 * byte page 0 + 3)))))

  -- an acceptance is printed whole; a buffer of 4,096 bytes is long enough for 128 steps, and one of 8,192 for 255
  pub accepted_whole : {out out' : List ℕ} {r : ℕ} (known n : ℕ) → known < 256 → n < 256 → 22 * n + 37 ≤ length out → Puts out 0 (answer_text known (done n) page) out' r → (r ≡ length (answer_text known (done n) page)) × (take r out' ≡ answer_text known (done n) page)
  accepted_whole {out} known n h k room p = puts_whole p (le_trans (accepted_length known n h k) room)

refused_length : (number place : ℕ) → number < 256 → place < 65536 → length (refused_text number place) ≤ 18
refused_length number place h k =
    simp length-append (omega (arith, decimal_length 3 number (omega arith) (omega arith) (omega arith), decimal_length 5 place (omega arith) (omega arith) k))

-- and so is a refusal
pub refused_whole : {out out' : List ℕ} {r : ℕ} (number place : ℕ) → number < 256 → place < 65536 → 18 ≤ length out → Puts out 0 (refused_text number place) out' r → (r ≡ length (refused_text number place)) × (take r out' ≡ refused_text number place)
refused_whole number place h k room p = puts_whole p (le_trans (refused_length number place h k) room)
