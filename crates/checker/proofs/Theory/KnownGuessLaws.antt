-- What is promised of guesses that are already known holds.
use mathlib.Core.Path.{◌≡◌, refl, sym, subst}
use mathlib.Core.Logic.Iff
use mathlib.Core.Logic.{◌↔◌, inl, ⊎_elim}
use mathlib.Core.List.{List, [], ◌∷◌, ◌++◌}
use Prim.Native.Nat.{ℕ, ◌≤◌}
use native.Mathlib.Omega.{arith}
use Rattle.base.specs.{Words.Bytes, Answer.refused, Answer.Refuses, Answer.row11}
use Rattle.base.proofs.RefusalLaws.{first_of, after_refuses, refuses_split, refuses_some, Numbers, some_number}
use Rattle.submission.specs.{Record.steps, Record.way_at, Check.way_of, Check.Target, Check.the_guess, Check.its_inverse, Check.derived, Check.claims}
use Rattle.submission.proofs.Theory.{ListedTerms.claimed_fits, ListedTerms.guess_key, ReadingRows.claimed_clear}
use Rattle.program.specs.Program.{program_length}
use Rattle.conditions.specs.{Condition.WellFormed, Condition.Given, Condition.target, Condition.ClaimMet, Condition.EachFounded, Condition.FiveConditions, Condition.rows1to7, Condition.claim_rows, Condition.check_rows}
use Rattle.conditions.proofs.Theory.{Acceptance.begun_iff, Acceptance.accepted_iff, KnownGuess.target_deducible, KnownGuess.guess_hidden, KnownGuess.guess_unread, Refusal.check_exact, Signal.own_value}
use Rattle.checker.specs.KnownGuess.{KnownGuessPromise}

-- the letters of ways k and j
letter_k : (s : List ℕ) → way_at s ≡ 0x6B → claims s ≡ derived the_guess
unfolding way_of
letter_k s e = rw e

letter_j : (s : List ℕ) → way_at s ≡ 0x6A → claims s ≡ derived its_inverse
unfolding way_of
letter_j s e = rw e

-- rows 1 to 7 have no other numbers
pub begun_numbers : (s : List ℕ) → Numbers (λ n. n ≤ 7) (rows1to7 s)
begun_numbers s = (
  λ n p (e, _). omega arith,
  (
    λ n p (e, _). omega arith,
    (
      λ n p (e, _). omega arith,
      (
        λ n p (e, _). omega arith,
        (
          λ n p (e, _). omega arith,
          (λ n p. ⊎_elim (λ (e, _). omega arith) (λ (e, _). omega arith), tt),
        ),
      ),
    ),
  ),
)

module _ (s : List ℕ) (b : Bytes s) (t : Target) (k : claims s ≡ derived t) (room : ℕ) where
  -- the five conditions are: every step is founded, and the term claimed is given
  five_iff : FiveConditions s ↔ (EachFounded s × Given s (target s t))
  five_iff =
      (λ c. (c.founded, subst (ClaimMet s) k c.met), λ (f, g). record { founded = f; met = subst (ClaimMet s) (sym k) g })

  -- row 16 comes after rows 1 to 7
  refuses_16 : (p : ℕ) → Refuses (check_rows s room) 16 p ↔ ((p ≡ 0) × WellFormed s × EachFounded s × (Given s (target s t) → ⊥))
  refuses_16 p = (up, down)
    where
      up : Refuses (check_rows s room) 16 p → (p ≡ 0) × WellFormed s × EachFounded s × (Given s (target s t) → ⊥)
      up r = ⊎_elim
          (λ x. absurd (let l = some_number (λ n. n ≤ 7) (rows1to7 s) 16 p (begun_numbers s) (refuses_some (rows1to7 s) 16 p x) in omega arith))
          (λ (c, x). let (w, f) = (begun_iff s b).0 c in
          let y : Refuses (claim_rows s (derived t) ++ row11 (program_length (steps s)) room ∷ []) 16 p = subst (λ k. Refuses (claim_rows s k ++ row11 (program_length (steps s)) room ∷ []) 16 p) k x in
          ⊎_elim (λ h. let (_, (z, g)) = h.holds in (z, w, f, g)) (λ (_, later). ⊎_elim (λ h. absurd (let e = h.holds.0 in omega arith)) (λ (_, e). absurd e) later) y)
          (refuses_split (rows1to7 s) (claim_rows s (claims s) ++ row11 (program_length (steps s)) room ∷ []) 16 p r)

      down : (p ≡ 0) × WellFormed s × EachFounded s × (Given s (target s t) → ⊥) → Refuses (check_rows s room) 16 p
      down (z, w, f, g) =
          let y : Refuses (claim_rows s (derived t) ++ row11 (program_length (steps s)) room ∷ []) 16 p = inl (first_of (refl, (z, g)) (λ m q (_, (e, _)) l. omega arith) (λ m (e, _). omega arith)) in
          after_refuses (rows1to7 s) (claim_rows s (claims s) ++ row11 (program_length (steps s)) room ∷ []) 16 p ((begun_iff s b).1 (w, f))
          (subst (λ k. Refuses (claim_rows s k ++ row11 (program_length (steps s)) room ∷ []) 16 p) (sym k) y)

pub known_guess_promise : KnownGuessPromise
known_guess_promise = record {
  guess_deducible = λ s b room n e k. let (_, w, c, _) = (accepted_iff s b room n).0 e in target_deducible s w c the_guess (letter_k s k);
  inverse_deducible = λ s b room n e k.
      let (_, w, c, _) = (accepted_iff s b room n).0 e in
      let z = claimed_clear s b w.read in
      (guess_key z (claimed_fits z (derived its_inverse) (letter_j s k)), target_deducible s w c its_inverse (letter_j s k));
  not_deducible = λ s b room n e k. let (_, w, c, _) = (accepted_iff s b room n).0 e in guess_hidden s w c k;
  accepts = λ s b t k room n. let (up, down) = five_iff s b t k room in
      Iff.trans (accepted_iff s b room n) (λ (e, w, c, l). let (f, g) = up c in (e, w, f, g, l), λ (e, w, f, g, l). (e, w, down (f, g), l));
  refuses = λ s b t k room p. Iff.trans (check_exact s b room (refused 16 p)) (refuses_16 s b t k room p);
  unread = λ s b t k room n e. let (_, w, c, _) = (accepted_iff s b room n).0 e in guess_unread s w c b t k;
  unmoved = λ s b t k room n e name. let (_, w, c, _) = (accepted_iff s b room n).0 e in own_value s b w c name t k;
}
