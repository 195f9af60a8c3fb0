-- What is promised of a deduction that is shown, where the checker reads it and where it is condition 3's: document 02, A7.
use Rattle.std.specs.Prelude.{◌≡◌, ◌⊎◌, ◌↔◌, ◌≤◌}
use Rattle.base.specs.{Words.List, Words.ℕ, Words.suc, Words.Bytes, Answer.done, Answer.refused, Answer.Clear}
use Rattle.term.specs.{Term.Term, Step.Deducible}
use Rattle.submission.specs.{Record.p_at, Record.second_at, Record.verifying, Record.InKnowledge, Body.bodies, Body.body_at, Body.submission_of, Check.verifier, Check.claims, Check.rows1to4}
use Rattle.derivation.specs.Step.{Premise, rows6and7}
use Rattle.witness.specs.{Deduction.Deduction, Computed.deduction_answer}
use Rattle.conditions.specs.{Condition.WellFormed, Computed.check_answer}

-- the submission with the steps l in the place of its own derivation
abbrev pub with_steps : List ℕ → List ℕ → List ℕ
with_steps s l = submission_of (bodies (body_at s 0) (body_at s 1) l (body_at s 3))

pub record ShownPromise : Type 0 where
  -- "a derivation in step records": in the place of the submission's own, where it is no longer than a derivation may be, it passes checks 1 to
  -- 4, and rows 6 and 7 hold nowhere
  pub passes : (s : List ℕ) → Bytes s → Clear (rows1to4 s) → (t n : ℕ) (l : List ℕ) → Deduction s t n l → n ≤ 128 →
      Clear (rows1to4 (with_steps s l)) × ((m q : ℕ) → rows6and7 (with_steps s l) m q → ⊥)
  -- "The checker's condition 3 rests on the same working, and its promise must follow": what row 8 says holds of a well-formed submission
  -- exactly where the call's answer is yes for both premises of the verifying step, whatever the counts m and n of steps;
  pub reachable : (s : List ℕ) → Bytes s → WellFormed s → claims s ≡ verifier → (room : ℕ) → 1000 ≤ room → (m n : ℕ) →
      ((x : Term) → Premise s (verifying s) x → Deducible (InKnowledge s) x)
      ↔ ((deduction_answer s (p_at s (verifying s)) room m ≡ done (suc m)) × (deduction_answer s (second_at s (verifying s)) room n ≡ done (suc n)))
  -- so after an 8 both are shown;
  pub shown : (s : List ℕ) → Bytes s → (room p : ℕ) → check_answer s room ≡ refused 8 p → (sheet : ℕ) → 1000 ≤ sheet → (m n : ℕ) →
      (deduction_answer s (p_at s (verifying s)) sheet m ≡ done (suc m)) × (deduction_answer s (second_at s (verifying s)) sheet n ≡ done (suc n))
  -- and condition 3 holds exactly where the answer is no for one of them
  pub hidden : (s : List ℕ) → Bytes s → WellFormed s → claims s ≡ verifier → (room : ℕ) → 1000 ≤ room → (m n : ℕ) →
      ((x : Term) × Premise s (verifying s) x × (Deducible (InKnowledge s) x → ⊥))
      ↔ ((deduction_answer s (p_at s (verifying s)) room m ≡ done 0) ⊎ (deduction_answer s (second_at s (verifying s)) room n ≡ done 0))
