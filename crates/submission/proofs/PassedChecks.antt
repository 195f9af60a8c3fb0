-- What a caller learns of a submission from a stage that passed.
use mathlib.Core.Path.{◌≡◌, refl, sym, ap, ◌∙◌}
use mathlib.Core.Bool.{not}
use mathlib.Core.List.{List}
use mathlib.Core.Option.{none, some}
use Prim.Native.Nat.{ℕ, ◌<◌}
use native.Mathlib.Omega.{arith}
use Rattle.std.specs.Prelude.{Result, Ok, Err, IsOk, IfErr, Option as Maybe, Some, None, IsSome}
use Rattle.term.specs.declared.kind.Kind.{Kind}
use Rattle.term.specs.Number.{shape_of}
use Rattle.term.specs.Code.{shape_read}
use Rattle.submission.specs.declared.Term.{Term}
use Rattle.base.specs.declared.refusal.Refusal.{Refusal}
use Rattle.base.specs.{Words.Bytes, Code.check_of, Computed.passes, Computed.fails_if}
use Rattle.submission.specs.Record.{count, terms, way_at}
use Rattle.submission.specs.Check.{way_of}
use Rattle.submission.specs.Code.{IsTerm, TableRead, SubmissionRead, Limited}
use Rattle.submission.specs.Computed.{checks1to4, checks1to5, good_claim}
use Rattle.base.proofs.AnswerLaws.{then_passes}
use Rattle.submission.proofs.Theory.ListedTerms.{pass_2_to_4, within_limits, facts, claimed}

pub body_passes : (s : List ℕ) → checks1to5 s ≡ passes → checks1to4 s ≡ passes
unfolding checks1to5
body_passes s e = ((then_passes (checks1to4 s) (fails_if (not (good_claim s)) 5 0)).0 e).0

-- bytes that passed checks 1 to 5 passed 1 to 4
pub table_passed : (s : List ℕ) → Bytes s → checks1to5 s ≡ passes → TableRead s
table_passed s b e = record { bytes = b; passed = body_passes s e }

pub limited : (s : List ℕ) → checks1to4 s ≡ passes → Limited s
limited s e =
    let good = (pass_2_to_4 s e).0 in
    record {
      terms = (within_limits (count s) 0 (good 0 (omega arith))).1;
      entries = (within_limits (count s) 1 (good 1 (omega arith))).1;
      steps = (within_limits (count s) 2 (good 2 (omega arith))).1;
    }

-- checks 1 to 4 passed
pub table_read : (s : List ℕ) {T : Type 0} {r : Result T Refusal} {v : T} → Bytes s → check_of r ≡ checks1to4 s → r ≡ Ok v → TableRead s
table_read s b e p = record { bytes = b; passed = sym e ∙ ap check_of p }

-- and checks 1 to 5
pub submission_read : (s : List ℕ) {T : Type 0} {r : Result T Refusal} {v : T} → Bytes s → check_of r ≡ checks1to5 s → r ≡ Ok v → SubmissionRead s
submission_read s b e p = record { bytes = b; passed = sym e ∙ ap check_of p }

-- a listed term's record is of some kind
pub kind_listed : {s : List ℕ} {i : ℕ} {t : Term} (m : Maybe Kind) → TableRead s → i < terms s → IsTerm s i t → shape_read m ≡ shape_of t.kind → IsSome m
kind_listed (Some k) r l p e = refl
kind_listed None r l p e = let z : none ≡ some _ = e ∙ ap shape_of p.kind ∙ ((facts r).good _ l).has in absurd (cc)

-- the letter of a claim that passed check 5 is a way's
pub way_decoded : {T E : Type 0} {s : List ℕ} (r : Result T E) → SubmissionRead s → IfErr r (λ e. way_of (way_at s) ≡ none) → IsOk r
way_decoded (Ok x) h e = refl
way_decoded (Err x) h e = let z : none ≡ some _ = sym e ∙ (claimed _ h.bytes h.passed).has_way in absurd (cc)
