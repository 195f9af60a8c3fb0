-- A program's value, as its array is filled: it holds the instructions of a list, one more each time.
use mathlib.Core.Path.{◌≡◌, refl}
use mathlib.Core.List.{List}
use Prim.Native.Nat.{ℕ, zero, suc, ◌<◌, ◌≤◌}
use native.Mathlib.Omega.{arith}
use lib.ListN.{length, get_or, take}
use lib.Seq.{take-suc}
use Rattle.std.proofs.lemmas.List.{map-append}
use Rattle.base.specs.Words.{listed, grow}
use Rattle.program.specs.declared.Instruction.{Instruction as InstructionRead}
use Rattle.program.specs.Program.{Instruction}
use Rattle.program.specs.Code.{instruction_in, instructions_in}

abbrev blank : InstructionRead
blank = record { rule = 0; left = 0; right = 0 }

-- the array xs holds f 0 to f (i - 1)
pub record Holds (f : ℕ → Instruction) (i : ℕ) (xs : List InstructionRead) : Type 0 where
  pub long : length xs ≡ 128
  pub is : (k : ℕ) → k < i → instruction_in (get_or xs k blank) ≡ f k

-- the first n of them are the list
pub held_steps : {f : ℕ → Instruction} {n : ℕ} {xs : List InstructionRead} → Holds f n xs → n ≤ 128 → instructions_in (take n xs) ≡ listed f n
unfolding grow
held_steps {n = zero} w h = refl
held_steps {f} {n = suc i} {xs} w h =
    let l : i < length xs = omega (arith, w.long) in
    let v : Holds f i xs = record { long = w.long; is = λ k b. w.is k (omega arith) } in
    let e : instruction_in (get_or xs i blank) ≡ f i = w.is i (omega arith) in
    rw (take-suc xs i blank l, map-append, e, held_steps v (omega arith))
