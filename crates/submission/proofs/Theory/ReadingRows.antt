-- Checks 1 to 5 answer as rows 1 to 5 of the table of verdicts say.
use mathlib.Core.Path.{◌≡◌, refl}
use mathlib.Core.Logic.{inl, inr, ⊎_elim}
use mathlib.Core.Bool.{not}
use mathlib.Core.List.{List, [], ◌∷◌}
use Prim.Native.Nat.{ℕ, ◌≤◌, ◌<◌}
use native.Mathlib.Omega.{arith}
use lib.Dec.{eqb}
use Rattle.base.specs.Words.{Bytes, first}
use Rattle.base.specs.Answer.{Clear}
use Rattle.base.specs.Computed.{fails_at, fails_if}
use Rattle.base.proofs.Order.{lt_or_ge}
use Rattle.base.proofs.Says.{Says, says_eqb, says_ltb, says_not_ltb, says_or, says_not, says_any, refutes, true_or_false}
use Rattle.base.proofs.RefusalLaws.{Tells, passes_iff, tells_if, tells_at, tells_then}
use Rattle.submission.specs.Code.{SubmissionRead}
use Rattle.submission.specs.Record.{count, least, most, terms, entries, entry_at}
use Rattle.submission.specs.Check.{ContentsFit, row2, rows1and2, rows1to4, rows1to5}
use Rattle.submission.specs.Computed.{bad_contents, bad_count, check_limits, bad_term, bad_knowledge, good_claim, checks1to4, checks1to5}
use Rattle.submission.proofs.Theory.ContentsMeant.{contents_iff}
use Rattle.submission.proofs.Theory.GoodRecord.{says_bad_term}
use Rattle.submission.proofs.Theory.ListedTerms.{Claimed, claimed, says_claim}

says_bad_contents : (s : List ℕ) → Bytes s → Says (bad_contents s) (ContentsFit s → ⊥)
says_bad_contents s b = refutes (bad_contents s) (contents_iff s b)

-- check 2, of any four counts
pub tells_limits : (n : ℕ → ℕ) → Tells (check_limits n) (row2 n ∷ [])
tells_limits n = tells_at 2 (bad_count n) 4 (λ i l. says_or _ _ (says_ltb _ _) (says_ltb _ _))

pub tells_1_to_4 : (s : List ℕ) → Bytes s → Tells (checks1to4 s) (rows1to4 s)
unfolding checks1to4 bad_knowledge
tells_1_to_4 s b =
    tells_then (fails_if (bad_contents s) 1 0) _ (tells_if _ 1 0 (says_bad_contents s b)) (λ _.
    tells_then (check_limits (count s)) _ (tells_limits (count s)) (λ _.
    tells_then (fails_at 3 (first (bad_term s) (terms s))) (fails_at 4 (first (bad_knowledge s) (entries s))) (tells_at 3 (bad_term s) (terms s) (λ i l. says_bad_term s i)) (λ _.
    tells_at 4 (bad_knowledge s) (entries s) (λ i l. says_or _ _ (says_not_ltb _ _) (says_any (λ j. eqb (entry_at s j) (entry_at s i)) i (λ j m. says_eqb _ _))))))

pub tells_1_to_5 : (s : List ℕ) → Bytes s → Tells (checks1to5 s) (rows1to5 s)
unfolding checks1to5
tells_1_to_5 s b =
    tells_then (checks1to4 s) (fails_if (not (good_claim s)) 5 0) (tells_1_to_4 s b) (λ _. tells_if (not (good_claim s)) 5 0 (says_not _ (says_claim s)))

-- no row holds of bytes that passed them
pub rows_clear : {s : List ℕ} → SubmissionRead s → Clear (rows1to5 s)
rows_clear {s} r = (passes_iff (tells_1_to_5 s r.bytes)).0 r.passed

-- what holds where no row holds
pub claimed_clear : (s : List ℕ) → Bytes s → Clear (rows1to5 s) → Claimed s
claimed_clear s b c = claimed s b ((passes_iff (tells_1_to_5 s b)).1 c)

pub contents_fit : (s : List ℕ) → Bytes s → Clear (rows1and2 s) → ContentsFit s
contents_fit s b c =
    ⊎_elim (λ t. absurd (c.0 1 0 (refl, (refl, (says_bad_contents s b).0 t)))) (contents_iff s b).0 (true_or_false (bad_contents s))

-- the counts are within their limits: "V exactly 1"
pub counts_within : (s : List ℕ) → Clear (rows1and2 s) → (i : ℕ) → i < 4 → (least i ≤ count s i) × (count s i ≤ most i)
counts_within s c i l = (
  ⊎_elim (λ h. absurd (c.1.0 2 i (refl, (l, inl h)))) (λ h. h) (lt_or_ge (count s i) (least i)),
  ⊎_elim (λ h. absurd (c.1.0 2 i (refl, (l, inr h)))) (λ h. h) (lt_or_ge (most i) (count s i)),
)

pub one_claim : (s : List ℕ) → Clear (rows1and2 s) → count s 3 ≡ 1
one_claim s c = let (l, m) = counts_within s c 3 (omega arith) in omega arith

-- the first of the rows
pub first_four : (s : List ℕ) → Clear (rows1to5 s) → Clear (rows1to4 s)
first_four s c = (c.0, (c.1.0, (c.1.1.0, (c.1.1.1.0, tt))))

pub first_two : (s : List ℕ) → Clear (rows1to5 s) → Clear (rows1and2 s)
first_two s c = (c.0, (c.1.0, tt))
