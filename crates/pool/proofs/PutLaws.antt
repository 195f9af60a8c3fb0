-- What the loops put: the records of the missing terms, and the entries that are new.
use mathlib.Core.Path.{◌≡◌, refl, ap, ◌∙◌}
use mathlib.Core.Bool.{Bool, true, false, cond}
use mathlib.Core.List.{List, [], ◌∷◌, ◌++◌, append-nil}
use Prim.Native.Nat.{ℕ, ◌+◌, ◌*◌, ◌≤◌, ◌<◌}
use native.Mathlib.Numerals.{add-one}
use native.Mathlib.Omega.{arith}
use lib.ListN.{length, take, length-append}
use Rattle.std.specs.List.{flat_map}
use Rattle.std.proofs.lemmas.Grind.{flat_map-append}
use Rattle.base.specs.declared.writer.Writer.{Writer}
use Rattle.base.specs.{Code.Wrote}
use Rattle.base.proofs.{RefusalLaws.passes_iff, PutLaws.wrote_none, PutLaws.wrote_then, PutLaws.wrote_out, PutLaws.puts_whole}
use Rattle.submission.specs.{Record.count, Record.width, Body.body_at, Code.TableRead}
use Rattle.submission.proofs.Theory.ReadingRows.{tells_1_to_4}
use Rattle.form.proofs.Theory.RoundTrip.{body_length}
use Rattle.pool.specs.declared.numbers.Numbers.{Numbers}
use Rattle.pool.specs.Pool.{is_missing, missing, renumbered}
use Rattle.pool.specs.Code.{missing_records, Noted}
use Rattle.pool.proofs.Theory.{PoolBodies.renumbered_length, PoolLists.threes_length, PoolNumbers.missing_none, PoolNumbers.missing_more}

-- ---- the records
pub records_none : (a b : List ℕ) {w : Writer} → Wrote w (missing_records a b 0) w
records_none a b = rw (missing_none a b) wrote_none

pub records_more : (a b : List ℕ) (j : ℕ) {u v w : Writer} → Wrote u (missing_records a b j) v → Wrote v (cond (is_missing a b j) (renumbered a b j) []) w → Wrote u (missing_records a b (j + 1)) w
records_more a b j {v = v} {w} p q = rw (add-one j, missing_more a b j, flat_map-append (renumbered a b) (missing a b j) (cond (is_missing a b j) (j ∷ []) [])) (wrote_then p (go (is_missing a b j) q))
  where
    go : (t : Bool) → Wrote v (cond t (renumbered a b j) []) w → Wrote v (flat_map (renumbered a b) (cond t (j ∷ []) [])) w
    go true q = rw (append-nil (renumbered a b j)) q
    go false q = q

-- ---- a buffer that was filled from its start with x and then with y, for which there is room
pub filled : {d x y t : List ℕ} {u v w : Writer} {n : ℕ} → u.buffer.now ≡ d → length d ≡ n → u.at ≡ 0 → t ≡ x → Wrote u t v → Wrote v y w → length (x ++ y) ≤ n →
    (w.at ≤ n) × (take w.at w.buffer.now ≡ x ++ y)
filled {y = y} e m f g p q l =
    let (k, h) = puts_whole (wrote_out (wrote_then p q) e f refl) (rw (← g, ← m) at l) in
    (omega (arith, k, l, ap (λ (z : List ℕ). length (z ++ y)) g), h ∙ rw g)

-- the pool's terms are no longer than the most are
-- what passed checks 1 to 4 has whole bodies
pub table_length : {a : List ℕ} → TableRead a → (i : ℕ) → i < 4 → length (body_at a i) ≡ width i * count a i
table_length {a} z = let c = (passes_iff (tells_1_to_4 a z.bytes)).0 z.passed in body_length a z.bytes (c.0, (c.1.0, tt))

pub terms_room : {a b : List ℕ} {n : ℕ} {numbers : Numbers} → TableRead a → Noted a b n numbers → length (body_at a 0 ++ missing_records a b n) ≤ 750
terms_room {a} {b} {n} z p =
    omega (arith, length-append (body_at a 0) (missing_records a b n), p.next, p.few, table_length z 0 (omega arith), threes_length (renumbered a b) (renumbered_length a b) (missing a b n))
