-- Demand 3 at document 01's examples M3, M1 and M8, one for each way, at three with hashes, and at three of ways k and j: its hypotheses can be met, and so can those of a
-- wrong guess.
use mathlib.Core.Path.{◌≡◌, refl, ap, ◌∙◌}
use mathlib.Core.Logic.Dec
use mathlib.Core.Bool.{Bool, true, ◌&&◌}
use mathlib.Core.List.{List, [], ◌∷◌}
use Prim.Native.Nat.{ℕ, zero, suc, ◌≤◌}
use native.Mathlib.Decide.{ℕ_discrete}
use native.Mathlib.Omega.{arith}
use lib.Dec.{ltb, lit<, lit≤}
use lib.ListN.{length, take}
use Rattle.base.proofs.Says.{says_ltb, says_and, says_true}
use Rattle.base.specs.Words.{first, first_from, grow, Bytes}
use Rattle.term.specs.Computed.{is_part}
use Rattle.term.specs.Term.{decoded}
use Rattle.base.specs.Answer.{done, page_after}
use Rattle.submission.specs.Record.{start_of, term, record_at, guessed}
use Rattle.term.specs.Number.{shape_of}
use Rattle.program.specs.Program.{program_length, bytes_of}
use Rattle.submission.specs.Computed.{is_known_part, is_stale}
use Rattle.conditions.specs.Demand.{WrongGuess, KeptPromise}
use Rattle.checker.proofs.Theory.Examples.{Example, m1, m3, m8, wpa2, four_way, hashed, guess_shown, inverse_shown, inverse_known, got, want, example_right}
use Rattle.conditions.proofs.Theory.Acceptance.{accepted_iff}
use Rattle.conditions.proofs.Theory.Promise.{demand_3}
use Rattle.conditions.specs.Calls.{program}
use Rattle.base.specs.Computed.{any}
use Rattle.machine.specs.Computed.{run_answer}
use Rattle.conditions.specs.Computed.{check_answer, is_wrong_guess}
use Rattle.conditions.proofs.Theory.WrongGuesses.{says_wrong}

-- ---- the hypotheses as tests
are_bytes : List ℕ → Bool
are_bytes [] = true
are_bytes (x ∷ xs) = ltb x 256 && are_bytes xs

are_bytes_lem : (s : List ℕ) → are_bytes s ≡ true → Bytes s
unfolding are_bytes
are_bytes_lem [] e i = omega arith
are_bytes_lem (x ∷ xs) e zero = ((says_and _ _ (says_ltb x 256) (says_true (are_bytes xs))).0 e).0
are_bytes_lem (x ∷ xs) e (suc i) = are_bytes_lem xs ((says_and _ _ (says_ltb x 256) (says_true (are_bytes xs))).0 e).1 i

-- ---- the examples
-- with any page of 388 bytes the example's acceptance with n keeps its promise, and this name is a wrong one and signals 0
abbrev pub Shown : Example → ℕ → ℕ → Type 0
Shown e n name =
    (page : List ℕ) → length page ≡ 388 →
    KeptPromise e.bytes page n (page_after (check_answer e.bytes (length page)) (bytes_of (program e.bytes)) page) × WrongGuess e.bytes name × (run_answer e.bytes name (take (program_length n) (page_after (check_answer e.bytes (length page)) (bytes_of (program e.bytes)) page)) ≡ done 0)

-- it is enough that the example is accepted with a shorter page, and that the tests say so
shown : (e : Example) (n name : ℕ) → got e ≡ want e → e.wanted.answer ≡ done n → length e.page ≤ 388 →
    are_bytes e.bytes && is_wrong_guess e.bytes name ≡ true → Shown e n name
shown e n name g a l t page f =
    let s = e.bytes in
    let (u, v) = (says_and _ _ (says_true (are_bytes s)) (says_true (is_wrong_guess s name))).0 t in
    let b : Bytes s = are_bytes_lem s u in
    let z : WrongGuess s name = (says_wrong s name).0 v in
    let (m, w, c, k) = (accepted_iff s b (length e.page) n).0 (ap (λ o. o.answer) g ∙ a) in
    let p : KeptPromise s page n (page_after (check_answer s (length page)) (bytes_of (program s)) page) = demand_3 s page b n ((accepted_iff s b (length page) n).1 (m, w, c, omega arith)) in
    (p, z, p.wrong name z)

-- one example for each of ways a, b and c; WPA2, the four-way handshake, and a hash whose y of 0 is no part; ways k and j, and j with 255
pub examples_shown :
    Shown m3 3 60000 × Shown m1 1 3 × Shown m8 1 9 × Shown wpa2 1 7 × Shown four_way 9 7 × Shown hashed 1 9
    × Shown guess_shown 2 9 × Shown inverse_shown 1 6 × Shown inverse_known 0 6
unfolding are_bytes is_wrong_guess is_stale is_known_part is_part any first first_from grow decoded start_of shape_of record_at term guessed Dec.and ℕ_discrete
examples_shown = (
  shown m3 3 60000 (example_right 2 (lit< tt)) refl (lit≤ tt) refl,
  shown m1 1 3 (example_right 0 (lit< tt)) refl (lit≤ tt) refl,
  shown m8 1 9 (example_right 7 (lit< tt)) refl (lit≤ tt) refl,
  shown wpa2 1 7 (example_right 11 (lit< tt)) refl (lit≤ tt) refl,
  shown four_way 9 7 (example_right 12 (lit< tt)) refl (lit≤ tt) refl,
  shown hashed 1 9 (example_right 13 (lit< tt)) refl (lit≤ tt) refl,
  shown guess_shown 2 9 (example_right 15 (lit< tt)) refl (lit≤ tt) refl,
  shown inverse_shown 1 6 (example_right 16 (lit< tt)) refl (lit≤ tt) refl,
  shown inverse_known 0 6 (example_right 17 (lit< tt)) refl (lit≤ tt) refl,
)
