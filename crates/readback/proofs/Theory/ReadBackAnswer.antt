-- Reading back answers as its rows and their order say; and where it is done, each register's term has its number.
use mathlib.Core.Path.{◌≡◌, sym}
use mathlib.Core.Logic.{◌↔◌}
use mathlib.Core.Bool.{false}
use mathlib.Core.List.{List, [], ◌∷◌}
use Prim.Native.Nat.{ℕ, ◌<◌}
use Rattle.base.specs.{Words.first, Words.byte, Words.Bytes, Answer.Answer, Answer.numbered, Answer.row11, Answer.Answers, Computed.fails_at, Computed.fails_if, Computed.and_then}
use Rattle.base.proofs.{Says.Says, Says.says_eqb, Says.says_ltb, Says.says_and, Says.says_or, Says.denies}
use Rattle.base.proofs.RefusalLaws.{answers_iff, tells_if, tells_at, tells_room, tells_then}
use Rattle.submission.specs.{Record.terms, Record.entries, Record.term, Computed.checks1to5}
use Rattle.submission.proofs.Theory.{ListedTerms.Listed, ListedNumbers.says_unlisted, ListedNumbers.has_number, ListedNumbers.number_some, ListedNumbers.number_unique}
use Rattle.derivation.specs.Step.{written}
use Rattle.program.specs.{Program.Instruction, Program.test_at, Computed.bad_program}
use Rattle.machine.specs.Run.{held}
use Rattle.machine.proofs.Theory.RunAnswer.{tells_program}
use Rattle.readback.specs.ReadBack.{number, bodies_length, OffTable, NoClaim, read_back_rows}
use Rattle.readback.specs.Computed.{off_table, no_claim, checks_after13, read_back_answer}

-- ---- checks 17 and 18
pub says_off_table : (s P : List ℕ) (r : ℕ) → Says (off_table s P r) (OffTable s P r)
unfolding off_table
says_off_table s P r = says_unlisted s (held s P r)

pub says_no_claim : (s : List ℕ) (t : Instruction) → Says (no_claim s t) (NoClaim s t)
says_no_claim s t = says_or _ _ (says_ltb t.left (entries s)) (says_and _ _ (says_eqb t.left (entries s)) (says_eqb t.right (entries s)))

-- ---- Demand 1, reading back
-- the rows after 13
abbrev pub later_rows : List ℕ → List ℕ → ℕ → List (ℕ → ℕ → Type 0)
later_rows s P room =
    numbered 17 (λ r. (r < written s (byte P 0)) × OffTable s P r) ∷ numbered 18 (λ p. (p ≡ 0) × NoClaim s (test_at P)) ∷ row11 (bodies_length (byte P 0)) room ∷ []

-- It refuses with n at p exactly when row n holds at p and no row holds that the order puts before it; else it is done with the bodies' length.
pub read_back_exact : (s P : List ℕ) → Bytes s → (room : ℕ) (a : Answer) → (read_back_answer s P room ≡ a) ↔ Answers (read_back_rows s P room) (λ n. n ≡ bodies_length (byte P 0)) a
unfolding read_back_answer
read_back_exact s P b room =
    answers_iff
    (tells_then (and_then (checks1to5 s) (fails_if (bad_program s P) 13 0)) (checks_after13 s P room) (tells_program s P b) (λ _.
    tells_then (fails_at 17 (first (off_table s P) (written s (byte P 0)))) _ (tells_at 17 (off_table s P) (written s (byte P 0)) (λ r l. says_off_table s P r)) (λ _.
    tells_then (fails_if (no_claim s (test_at P)) 18 0) _ (tells_if (no_claim s (test_at P)) 18 0 (says_no_claim s (test_at P))) (λ _.
    tells_room (bodies_length (byte P 0)) room))))
    (bodies_length (byte P 0)) (λ n. n ≡ bodies_length (byte P 0)) (λ _ n. (sym, sym))

-- ---- the numbers of the registers' terms
-- a listed term's number
pub number_found : (s P : List ℕ) (r : ℕ) → off_table s P r ≡ false → (number s P r < terms s) × (held s P r ≡ term s (number s P r))
unfolding number off_table
number_found s P r e =
    let (n, f) = has_number s (held s P r) e in
    rw (f, number) (number_some s (held s P r) n f)

-- is the only one
pub listed_number : {s : List ℕ} → Listed s → (P : List ℕ) (r n : ℕ) → n < terms s → held s P r ≡ term s n → number s P r ≡ n
unfolding number
listed_number {s} z P r n l e = rw (number_unique s (held s P r) z n l e, number)

-- and where it is listed, the register is on the table
pub listed_on : (s P : List ℕ) (r n : ℕ) → n < terms s → held s P r ≡ term s n → off_table s P r ≡ false
listed_on s P r n l e = (denies (off_table s P r) (says_off_table s P r)).1 (λ u. u n l e)
