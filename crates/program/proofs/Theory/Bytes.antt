-- A program's bytes: how many they are, and that reading them gives the program back.
use mathlib.Core.Path.{◌≡◌, refl, ap, ◌∙◌}
use mathlib.Core.Bool.{false}
use mathlib.Core.List.{List, [], ◌∷◌, ◌++◌}
use Prim.Native.Nat.{ℕ, zero, suc, ◌+◌, ◌*◌, ◌≤◌, ◌<◌}
use native.Mathlib.Omega.{arith}
use lib.ListN.{length, get_or, length-append, get_or-append}
use lib.Seq.{get_or-append_seam}
use borrow.Author.Tests.{eq-eqb, ne_eqb, le-ltb}
use Rattle.base.specs.Words.{byte}
use Rattle.base.proofs.First.{passed_not_any}
use Rattle.submission.specs.Record.{entries}
use Rattle.program.specs.Program.{Instruction, Program, instruction_bytes, bytes_of, program_length, instruction_at, test_at}
use Rattle.base.specs.Computed.{any}
use Rattle.program.specs.Computed.{bad_instruction, bad_test, bad_program}

-- three bytes an instruction
pub bytes_length : (is : List Instruction) → length (instruction_bytes is) ≡ 3 * length is
unfolding instruction_bytes
bytes_length [] = refl
bytes_length (i ∷ is) = omega (arith, bytes_length is)

pub bytes_append : (is js : List Instruction) → instruction_bytes (is ++ js) ≡ instruction_bytes is ++ instruction_bytes js
unfolding instruction_bytes
bytes_append [] js = refl
bytes_append (i ∷ is) js = rw (bytes_append is js)

pub program_length_lem : (p : Program) → length (bytes_of p) ≡ program_length (length p.steps)
unfolding bytes_of
program_length_lem p =
    let e : length (p.steps ++ p.test ∷ []) ≡ length p.steps + 1 = simp length-append (omega arith) in
    omega (arith, e, bytes_length (p.steps ++ p.test ∷ []))

read_later : (x a b : ℕ) (l : List ℕ) (i : ℕ) → instruction_at (x ∷ a ∷ b ∷ l) (suc i) ≡ instruction_at l i
unfolding instruction_at
read_later x a b l i =
    let e : 3 * suc i + 1 ≡ suc (suc (suc (3 * i + 1))) = omega arith in
    let f : 3 * suc i + 2 ≡ suc (suc (suc (3 * i + 2))) = omega arith in
    let g : 3 * suc i + 3 ≡ suc (suc (suc (3 * i + 3))) = omega arith in
    rw (e, f, g)

read_at : (x : ℕ) (is : List Instruction) (d : Instruction) (i : ℕ) → i < length is → instruction_at (x ∷ instruction_bytes is) i ≡ get_or is i d
unfolding instruction_bytes instruction_at
read_at x [] d i l = absurd (omega arith)
read_at x (j ∷ is) d zero l = refl
read_at x (j ∷ is) d (suc i) l = read_later x j.rule j.left (j.right ∷ instruction_bytes is) i ∙ read_at j.right is d i (omega arith)

module _ (p : Program) where
  -- "N in one byte"
  pub byte_count : byte (bytes_of p) 0 ≡ length p.steps
  unfolding bytes_of
  byte_count = refl

  pub instruction_back : (d : Instruction) (i : ℕ) → i < length p.steps → instruction_at (bytes_of p) i ≡ get_or p.steps i d
  unfolding bytes_of
  instruction_back d i l =
      rw (read_at (length p.steps) (p.steps ++ p.test ∷ []) d i (simp length-append (omega arith)))
      (get_or-append p.steps (p.test ∷ []) d i l)

  test_read : instruction_at (bytes_of p) (length p.steps) ≡ p.test
  unfolding bytes_of
  test_read =
      let is = p.steps ++ p.test ∷ [] in
      let d = p.test in
      let l : length p.steps < length is = simp length-append (omega arith) in
      read_at (length p.steps) is d (length p.steps) l ∙ get_or-append_seam p.steps d [] d

  pub test_back : test_at (bytes_of p) ≡ p.test
  test_back = ap (instruction_at (bytes_of p)) byte_count ∙ test_read

  -- check 13 passes a program whose instructions and test are good
  pub program_passes : (s : List ℕ) (d : Instruction) → length p.steps ≤ 128 →
      ((i : ℕ) → i < length p.steps → bad_instruction (entries s + 1 + i) (get_or p.steps i d) ≡ false) →
      bad_test (entries s + 1 + length p.steps) p.test ≡ false → bad_program s (bytes_of p) ≡ false
  unfolding bad_program
  program_passes s d few each test =
      let n = length p.steps in
      let none : any (λ i. bad_instruction (entries s + 1 + i) (instruction_at (bytes_of p) i)) n ≡ false =
      passed_not_any {i = n} (record { within = omega arith; failed = λ i l. ap (bad_instruction (entries s + 1 + i)) (instruction_back d i l) ∙ each i l }) (omega arith) in
      rw (byte_count, program_length_lem p, none, test_read, test, le-ltb 128 n few, eq-eqb (program_length n) (program_length n) refl, ne_eqb (program_length n) 0 (omega arith))
