-- The pieces of a line, one after the other: a law for each function that writes them.
use mathlib.Core.Path.{◌≡◌, subst}
use mathlib.Core.List.{List, [], ◌∷◌, ◌++◌, append_assoc}
use Prim.Native.Nat.{ℕ, ◌+◌}
use Rattle.term.specs.Number.{word_of}
use Rattle.base.specs.declared.writer.Writer.{Writer}
use Rattle.base.specs.{Answer.done, Code.Wrote}
use Rattle.base.proofs.PutLaws.{wrote_then}
use Rattle.program.specs.Program.{relation_of, relation_word, test_at, Instruction}
use Rattle.program.specs.declared.Instruction.{Instruction as InstructionRead}
use Rattle.program.specs.declared.Test.{Test as TestRead}
use Rattle.program.specs.Code.{instruction_in, test_in}
use Rattle.text.specs.Text.{decimal, space, newline, register_text, second_text, step_line, step_lines, test_line, refused_text, answer_text}

grouped : (w x y z : List ℕ) → w ++ (x ++ y ++ z) ≡ w ++ x ++ y ++ z
grouped w x y z = simp append_assoc

-- the lines of an instruction and of the test
module _ {w0 w1 w2 w3 w4 w5 w6 w7 : Writer} {v : ℕ} where
  pub step_put : (r : ℕ) (i : InstructionRead) → Wrote w0 (register_text r) w1 → Wrote w1 (space ++ (0x3D ∷ []) ++ space) w2 → Wrote w2 (word_of i.rule) w3 → Wrote w3 space w4 → v ≡ i.left → Wrote w4 (register_text v) w5 → Wrote w5 (second_text i.rule i.right) w6 → Wrote w6 newline w7 → Wrote w0 (step_line r (instruction_in i)) w7
  unfolding step_line
  step_put r i l0 l1 l2 l3 d l4 l5 l6 =
      let m = subst (λ (u : List ℕ). Wrote w0 u w2) (grouped (register_text r) space (0x3D ∷ []) space) (wrote_then l0 l1) in
      rw (← d) (wrote_then (wrote_then (wrote_then (wrote_then (wrote_then m l2) l3) l4) l5) l6)

  pub test_put : {w : ℕ} (t : TestRead) → Wrote w0 ((0x73 ∷ 0x69 ∷ 0x67 ∷ 0x6E ∷ 0x61 ∷ 0x6C ∷ []) ++ space) w1 → v ≡ t.left → Wrote w1 (register_text v) w2 → Wrote w2 space w3 → Wrote w3 (relation_word (relation_of t.letter)) w4 → Wrote w4 space w5 → w ≡ t.right → Wrote w5 (register_text w) w6 → Wrote w6 newline w7 → Wrote w0 (test_line (test_in t)) w7
  unfolding test_line
  test_put t l0 d l1 l2 l3 l4 e l5 l6 =
      rw (← d, ← e) (wrote_then (wrote_then (wrote_then (wrote_then (wrote_then (wrote_then l0 l1) l2) l3) l4) l5) l6)

-- what is printed of a refusal, and of an acceptance
module _ {w0 w1 w2 w3 w4 w5 : Writer} {w : ℕ} where
  pub refused_put : (number place : ℕ) → Wrote w0 ((0x72 ∷ 0x65 ∷ 0x66 ∷ 0x75 ∷ 0x73 ∷ 0x65 ∷ 0x64 ∷ []) ++ space) w1 → w ≡ number → Wrote w1 (decimal w) w2 → Wrote w2 space w3 → Wrote w3 (decimal place) w4 → Wrote w4 newline w5 → Wrote w0 (refused_text number place) w5
  refused_put number place l0 e l1 l2 l3 l4 = rw (← e) (wrote_then (wrote_then (wrote_then (wrote_then l0 l1) l2) l3) l4)

  pub accepted_put : {x : Instruction} {v : ℕ} (known n : ℕ) (page : List ℕ) → Wrote w0 ((0x61 ∷ 0x63 ∷ 0x63 ∷ 0x65 ∷ 0x70 ∷ 0x74 ∷ 0x65 ∷ 0x64 ∷ []) ++ space) w1 → w ≡ n → Wrote w1 (decimal w) w2 → Wrote w2 newline w3 → v ≡ known → Wrote w3 (step_lines (v + 1) page n) w4 → x ≡ test_at page → Wrote w4 (test_line x) w5 → Wrote w0 (answer_text known (done n) page) w5
  unfolding answer_text
  accepted_put known n page l0 d l1 l2 e l3 f l4 = wrote_then (wrote_then (wrote_then (wrote_then l0 (rw d at l1)) l2) (rw e at l3)) (rw f at l4)
