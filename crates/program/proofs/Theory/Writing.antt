-- A program's bytes on a page: the count, the instructions on the rest that is lent, and the test behind them.
use mathlib.Core.Path.{◌≡◌, refl, sym, ap, ◌∙◌}
use mathlib.Core.List.{List, [], ◌∷◌, ◌++◌}
use Prim.Native.Nat.{ℕ, ◌+◌, ◌-◌, ◌*◌, ◌≤◌, ◌<◌}
use native.Mathlib.Nat.{zero-add}
use native.Mathlib.Numerals.{add-one}
use native.Mathlib.Omega.{arith}
use lib.ListN.{length, get_or, set, take, drop}
use lib.Seq.{sets, take-suc, take_all}
use Rattle.std.proofs.lemmas.List.{map-append, length-map}
use borrow.Rule.Slice.PartMut.{mid_of, put_mid}
use Rattle.base.proofs.Overwrite.{overwrite}
use Rattle.base.proofs.Parts.{rest_lent, rest_back}
use Rattle.base.specs.declared.writer.Writer.{Writer}
use Rattle.base.specs.Code.{Wrote}
use Rattle.base.proofs.PutLaws.{wrote_then}
use Rattle.program.specs.declared.Instruction.{Instruction as InstructionRead}
use Rattle.program.specs.declared.Program.{Program as ProgramRead}
use Rattle.program.specs.Program.{instruction_bytes, bytes_of, program_length}
use Rattle.program.specs.Code.{instruction_in, instructions_in, program_in, test_in}
use Rattle.program.proofs.Theory.Bytes.{bytes_length, bytes_append}

-- the bytes of the first i instructions
abbrev pub code : List InstructionRead → ℕ → List ℕ
code xs i = instruction_bytes (instructions_in (take i xs))

code_more : (xs : List InstructionRead) (i : ℕ) (d : InstructionRead) → i < length xs →
    code xs (i + 1) ≡ code xs i ++ (get_or xs i d).rule ∷ (get_or xs i d).left ∷ (get_or xs i d).right ∷ []
unfolding instruction_bytes
code_more xs i d l = rw (add-one i, take-suc xs i d l, map-append instruction_in, bytes_append (instructions_in (take i xs)) (instruction_in (get_or xs i d) ∷ []))

pub wrote_more : (xs : List InstructionRead) (i : ℕ) (d : InstructionRead) {u v w : Writer} → Wrote u (code xs i) v → i < length xs →
    Wrote v ((get_or xs i d).rule ∷ (get_or xs i d).left ∷ (get_or xs i d).right ∷ []) w → Wrote u (code xs (i + 1)) w
wrote_more xs i d a l b = rw (code_more xs i d l) (wrote_then a b)

-- the buffer is the part p again
pub wrote_all : (xs : List InstructionRead) {i : ℕ} {u v : Writer} {d p : List ℕ} → Wrote u (code xs i) v → length xs ≤ i → u.buffer.now ≡ d → u.at ≡ 0 →
    p ≡ v.buffer.now → p ≡ sets d 0 (instruction_bytes (instructions_in xs))
wrote_all xs {i} a l e f g = g ∙ a.puts.stored ∙ rw (e, f, take_all i xs l)

-- the first byte is m, and k bytes b are written on the lent rest of the page
lent_back : (xs b part : List ℕ) (m x k : ℕ) → length b ≡ k → k ≤ length xs → part ≡ sets (mid_of 1 (length (m ∷ xs) - 1) (m ∷ xs)) 0 b →
    put_mid 1 (length (m ∷ xs) - 1) (m ∷ xs) part ≡ (m ∷ b) ++ drop (k + 1) (x ∷ xs)
lent_back xs b part m x k l h e =
    rest_back 1 (m ∷ xs) part ∙ ap (λ (t : List ℕ). m ∷ t) (rw (e, rest_lent 1 (m ∷ xs), add-one k) (overwrite [] xs b 0 refl (omega arith) ∙ rw (zero-add, l)))

-- the count in the first byte, the instructions on the lent rest of the page, and the test behind them
module _ (v : ProgramRead) {p part p' : List ℕ} where
  pub program_written : (page : List ℕ) (n a : ℕ) → n ≡ length v.instructions.now → a ≡ 3 * n + 1 → program_length n ≤ length page → p ≡ set page 0 n →
      part ≡ sets (mid_of 1 (length p - 1) p) 0 (instruction_bytes (instructions_in v.instructions.now)) →
      p' ≡ sets (put_mid 1 (length p - 1) p part) a (v.test.letter ∷ v.test.left ∷ v.test.right ∷ []) →
      p' ≡ bytes_of (program_in v) ++ drop (program_length n) page
  unfolding bytes_of instruction_bytes
  program_written [] n a l q h g f k = absurd (omega arith)
  program_written (x ∷ xs) n a l q h g f k =
      let is = instructions_in v.instructions.now in
      let b = instruction_bytes is in
      let vs = v.test.letter ∷ v.test.left ∷ v.test.right ∷ [] in
      let m : length is ≡ n = length-map v.instructions.now instruction_in ∙ sym l in
      let o : length b ≡ 3 * n = omega (arith, bytes_length is) in
      let y = lent_back xs b part n x (3 * n) o (omega arith) (rw g at f) in
      let z : 3 * n + 1 + 3 ≡ program_length n = omega arith in
      k ∙ rw (q, g, y, overwrite (n ∷ b) (x ∷ xs) vs (3 * n + 1) (omega arith) (omega arith), z, m, bytes_append is (test_in v.test ∷ []))
