-- The test of stale terms says that the term, or its inverse, is part of the knowledge; and what is part of it is listed.
use mathlib.Core.Path.{◌≡◌, refl, subst}
use mathlib.Core.Logic.Iff
use mathlib.Core.Logic.{inl, inr, ⊎_elim}
use mathlib.Core.List.{List}
use Prim.Native.Nat.{ℕ, ◌<◌}
use Rattle.base.proofs.Says.{Says, says_or, says_any}
use Rattle.term.specs.Term.{Term, inverse, Part, Stale, Rec, leaf, branch}
use Rattle.term.specs.Computed.{is_part}
use Rattle.term.proofs.PartLaws.{says_part, OfParts, part_listed}
use Rattle.submission.specs.Record.{terms, entries, entry_at, record_at, term, InKnowledge}
use Rattle.submission.proofs.Theory.ListedTerms.{Listed}
use Rattle.submission.specs.Computed.{is_known_part, is_stale}
use Rattle.submission.specs.Code.{KnownPart}

says_known_part : (s : List ℕ) (x : Term) → Says (is_known_part s x) (KnownPart s x)
unfolding is_known_part
says_known_part s x =
    Iff.trans (says_any {P = λ r. Part x (term s (entry_at s r))} (λ r. is_part x (term s (entry_at s r))) (entries s) (λ r l. says_part x _)) (
      λ (r, l, p). (term s (entry_at s r), (r, l, refl), p),
      λ (t, (r, l, e), p). (r, l, subst (Part x) e p),
    )

pub says_stale : (s : List ℕ) (w : Term) → Says (is_stale s w) (Stale (InKnowledge s) w)
unfolding is_stale
says_stale s w =
    Iff.trans (says_or _ _ (says_known_part s w) (says_known_part s (inverse w))) (
      ⊎_elim (λ (t, k, p). (t, k, inl p)) (λ (t, k, p). (t, k, inr p)),
      λ (t, k, p). ⊎_elim (λ q. inl (t, k, q)) (λ q. inr (t, k, q)) p,
    )

-- what is part of the knowledge is listed
pub listed_part : {s : List ℕ} → Listed s → {x : Term} → KnownPart s x → (n : ℕ) × (n < terms s) × (x ≡ term s n)
listed_part {s} z {x} (t, (r, l, e), p) =
    let (n, b, (_, f)) = part_listed z.table (λ n. Unit {0}) (λ n b m. any_parts (record_at s n)) x (entry_at s r) (z.entry_below r l) tt (subst (Part x) e p) in (n, b, f)
  where
    any_parts : (r : Rec) → OfParts (λ n. Unit {0}) r
    any_parts (leaf κ n) = tt
    any_parts (branch h y z) = (tt, tt)
