-- Stale names: when run refuses with 15, which names it takes, and that it answers everything else as rows 1 to 5, row 13 and the signal say.
use mathlib.Core.Path.{◌≡◌, refl, ap, ◌∙◌}
use mathlib.Core.Logic.{◌↔◌, inl, inr, ⊎_elim}
use mathlib.Core.List.{List, [], ◌∷◌}
use Prim.Native.Nat.{ℕ}
use native.Mathlib.Omega.{arith}
use Rattle.base.specs.Words.{Bytes}
use Rattle.base.specs.Answer.{Answer, done, refused, numbered, Clear, Refuses, Answers}
use Rattle.base.proofs.RefusalLaws.{SomeHolds, refuses_some, first_of, before_refuses, after_refuses, refuses_split, both_clear, clear_split}
use Rattle.term.specs.Term.{Fresh}
use Rattle.submission.specs.Record.{guess, name_at, InKnowledge, guessed}
use Rattle.machine.specs.Run.{StaleName, signal, program_rows}
use Rattle.machine.specs.Computed.{run_answer}
use Rattle.machine.proofs.Theory.RunAnswer.{run_exact}

-- no other row of run has the number 15
no_15 : (s P : List ℕ) (p : ℕ) → SomeHolds (program_rows s P) 15 p → ⊥
no_15 s P p (inl (e, _)) = omega arith
no_15 s P p (inr (inl (e, _))) = omega arith
no_15 s P p (inr (inr (inl (e, _)))) = omega arith
no_15 s P p (inr (inr (inr (inl (e, _))))) = omega arith
no_15 s P p (inr (inr (inr (inr (inl (e, _)))))) = omega arith
no_15 s P p (inr (inr (inr (inr (inr (inl (e, _))))))) = omega arith
no_15 s P p (inr (inr (inr (inr (inr (inr x)))))) = elim x [ ]

module _ (s P : List ℕ) (b : Bytes s) (name : ℕ) where
  abbrev row15 : List (ℕ → ℕ → Type 0)
  row15 = numbered 15 (λ p. (p ≡ 0) × StaleName s name) ∷ []

  -- it refuses with 15 exactly when the checks before pass and the name is stale;
  pub stale_exact : (p : ℕ) → (run_answer s name P ≡ refused 15 p) ↔ ((p ≡ 0) × Clear (program_rows s P) × StaleName s name)
  stale_exact p = (
    λ e. ⊎_elim (λ r. absurd (no_15 s P p (refuses_some (program_rows s P) 15 p r))) there (refuses_split (program_rows s P) row15 15 p ((run_exact s P b name (refused 15 p)).0 e)),
    λ (e, c, t). (run_exact s P b name (refused 15 p)).1 (after_refuses (program_rows s P) row15 15 p c
        (inl (first_of (refl, (e, t)) (λ m q (_, (f, _)) l. omega arith) (λ m (f, _). omega arith)))),
  )
    where
      there : Clear (program_rows s P) × Refuses row15 15 p → (p ≡ 0) × Clear (program_rows s P) × StaleName s name
      there (c, inl f) = let (_, (e, t)) = f.holds in (e, c, t)
      there (c, inr (_, f)) = absurd f

  -- of the names other than the guess's own it takes those that are fresh;
  all_clear : (v : ℕ) → run_answer s name P ≡ done v → Clear (program_rows s P) × Clear row15
  all_clear v e = clear_split (program_rows s P) row15 ((run_exact s P b name (done v)).0 e).0

  pub taken_clear : (v : ℕ) → run_answer s name P ≡ done v → Clear (program_rows s P)
  taken_clear v e = (all_clear v e).0

  pub taken_fresh : (v : ℕ) → (name ≡ name_at s (guess s) → ⊥) → run_answer s name P ≡ done v → Fresh (InKnowledge s) (guessed s name)
  taken_fresh v d e t = (all_clear v e).1.0 15 0 (refl, (refl, (d, t)))

  pub fresh_taken : Clear (program_rows s P) → (StaleName s name → ⊥) → run_answer s name P ≡ done (signal s name P)
  fresh_taken c f =
      (run_exact s P b name (done (signal s name P))).1 (both_clear (program_rows s P) row15 c (λ m q (_, (_, t)). f t, tt), refl)

  -- and what the rows before and the signal say, it answers, unless it refuses with 15
  pub answers_kept : (a : Answer) → Answers (program_rows s P) (λ v. v ≡ signal s name P) a → (run_answer s name P ≡ refused 15 0 → ⊥) → run_answer s name P ≡ a
  answers_kept (done v) (c, e) f = fresh_taken c (λ t. f ((stale_exact 0).1 (refl, c, t))) ∙ ap done (omega arith)
  answers_kept (refused n p) r f = (run_exact s P b name (refused n p)).1 (before_refuses (program_rows s P) row15 n p r)
