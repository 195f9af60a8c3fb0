-- The chains of records: how they grow, and the search for the record that equals a given one.
use mathlib.Core.Path.{◌≡◌, refl, sym, ◌∙◌}
use mathlib.Core.Bool.{Bool, true, false, true≢false, ◌&&◌}
use mathlib.Core.List.{List}
use Prim.Native.Nat.{ℕ, ◌+◌, ◌*◌, ◌%◌, ◌<◌}
use native.Mathlib.Omega.{arith}
use lib.Dec.{eqb}
use lib.ListN.{get_or, set, replicate}
use Rattle.std.specs.Prelude.{Option, Some, None}
use Rattle.base.specs.declared.byte_chains.ByteChains.{ByteChains}
use Rattle.base.specs.Code.{Chaining, FoundInBoth}
use Rattle.base.proofs.{Chains.chaining_none, Chains.chaining_more, Says.Says, Says.says_and, Says.says_eqb}
use Rattle.submission.specs.declared.Term.{Term}
use Rattle.submission.specs.{Record.kind_at, Record.x_at, Record.y_at, Code.IsTerm, Code.RecordFound, Code.chained_by}

-- ---- the chains with one factor
pub none_chained : (k : ℕ) (s : List ℕ) {c : ByteChains} → c.before ≡ replicate 256 255 → c.latest ≡ replicate 256 255 → Chaining (chained_by k s) 0 c.before c.latest
none_chained k s e f = rw (e, f) chaining_none

-- one record more
pub record_chained : (k : ℕ) (s : List ℕ) {before latest before' latest' : List ℕ} {i v : ℕ} {t : Term} → Chaining (chained_by k s) i before latest → i < 255 → IsTerm s i t → v ≡ (k * t.x + t.y) % 256 →
    before' ≡ set before i (get_or latest v 255) → latest' ≡ set latest v i → Chaining (chained_by k s) (i + 1) before' latest'
record_chained k s p l q o e f = rw (e, f) (chaining_more p l (sym (o ∙ rw (q.x, q.y))) refl (omega arith))

-- ---- one record
-- record n is t, as a test
abbrev is_row : List ℕ → ℕ → Term → Bool
is_row s n t = eqb (kind_at s n) t.kind && (eqb (x_at s n) t.x && eqb (y_at s n) t.y)

says_row : (s : List ℕ) (n : ℕ) (t : Term) → Says (is_row s n t) (IsTerm s n t)
says_row s n t =
    let (f, g) = says_and _ _ (says_eqb (kind_at s n) t.kind) (says_and _ _ (says_eqb (x_at s n) t.x) (says_eqb (y_at s n) t.y)) in
    (λ e. let (k, (x, y)) = f e in record { kind = sym k; x = sym x; y = sym y }, λ p. g (sym p.kind, (sym p.x, sym p.y)))

pub row_test : {s : List ℕ} {n : ℕ} (t : Term) {u : Term} {b r : Bool} → IsTerm s n u → b ≡ (eqb u.kind t.kind && (eqb u.x t.x && eqb u.y t.y)) → b ≡ r → is_row s n t ≡ r
row_test t p e h = rw (← p.kind, ← p.x, ← p.y) (sym e ∙ h)

-- what is found along the two chains of t
pub row_found : (s : List ℕ) (k m : ℕ) {i y z : ℕ} (t : Term) {Gave : ℕ → Bool → Type 0} (o : Option ℕ) → y ≡ (k * t.x + t.y) % 256 → z ≡ (m * t.x + t.y) % 256 →
    FoundInBoth (chained_by k s) (chained_by m s) i y z Gave o → ((n : ℕ) (b : Bool) → Gave n b → is_row s n t ≡ b) → RecordFound s i t o
row_found s k m t None e g f same = λ n l p. true≢false (sym ((says_row s n t).1 p) ∙ same n false (f.none refl n l (rw (← p.x, ← p.y, e)) (rw (← p.x, ← p.y, g))))
row_found s k m t (Some n) e g f same = let (l, h) = f.is n refl in (l, (says_row s n t).0 (same n true h))
