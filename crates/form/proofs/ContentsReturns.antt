-- The entries of the contents, one after the other.
use mathlib.Core.Path.{◌≡◌, refl, ◌∙◌, ap, ap₂}
use mathlib.Core.List.{List, [], ◌∷◌}
use Prim.Native.Nat.{ℕ, ◌+◌, ◌/◌, ◌%◌, ◌<◌}
use native.Mathlib.Numerals.{add-one}
use native.Mathlib.Omega.{arith}
use lib.ListN.{length, get_or}
use Rattle.std.specs.List.{zip}
use Rattle.std.specs.declared.iter.Zip.{Zip}
use Rattle.std.specs.declared.slice.Iter.{Iter}
use Rattle.std.specs.Iterator.Adapters.{zip_first, zip_second}
use Rattle.std.specs.Slice.Iter.{iter_rest}
use Rattle.std.proofs.lemmas.Fn.{fronts}
use Rattle.std.proofs.lemmas.Iterator.{YieldsList, YieldsList-from_slice, YieldsList-from_zip, zips}
use Rattle.std.proofs.lemmas.Slice.Zip.{length-zip, get_or-zip}
use Rattle.base.specs.Words.{first, first_from, fours, grow, listed}
use Rattle.base.specs.declared.writer.Writer.{Writer}
use Rattle.base.specs.Code.{Wrote}
use Rattle.base.proofs.Grow.{length_listed, listed_at}
use Rattle.base.proofs.PutLaws.{wrote_then}
use Rattle.base.proofs.Says.{each_of_four}
use Rattle.submission.specs.{Record.letter, Record.start_of, Body.Bodies, Body.records, Body.contents, Body.contents_entry, Computed.check_limits}
use Rattle.form.specs.Code.{Writable}
use Rattle.form.proofs.Theory.WritableBodies.{starts_few, records_few}

-- the limits of the counts in an array that lists f
pub limits_listed : (f : ℕ → ℕ) {l : List ℕ} → l ≡ listed f 4 → check_limits (λ i. get_or l i 0) ≡ check_limits f
unfolding first first_from grow
limits_listed f e = rw e

-- ---- the walk of `put_contents`: the letters, the counts and the starts
abbrev pub letters : List ℕ
letters = 0x54 ∷ 0x4B ∷ 0x44 ∷ 0x56 ∷ []

abbrev pub walked : List ℕ → List ℕ → List (ℕ × (ℕ × ℕ))
walked counts starts = zip letters (zip counts starts)

pub walks : {z : Zip (Iter ℕ) (Zip (Iter ℕ) (Iter ℕ))} (counts starts : List ℕ) → iter_rest (zip_first z) ≡ letters → iter_rest (zip_first (zip_second z)) ≡ counts → iter_rest (zip_second (zip_second z)) ≡ starts →
    YieldsList (zips fronts (zips fronts fronts)) (λ p. (p.0.now, (p.1.0.now, p.1.1.now))) z (walked counts starts)
walks counts starts e f g = YieldsList-from_zip (YieldsList-from_slice letters e) (YieldsList-from_zip (YieldsList-from_slice counts f) (YieldsList-from_slice starts g))

letters_are : (i d : ℕ) → i < 4 → get_or letters i d ≡ letter i
letters_are i d = each_of_four (λ k. get_or letters k d ≡ letter k) refl refl refl refl i

pub walked_length : (f g : ℕ → ℕ) {counts starts : List ℕ} → counts ≡ listed f 4 → starts ≡ listed g 4 → length (walked counts starts) ≡ 4
walked_length f g {counts} {starts} c s =
    let m : length counts ≡ 4 = ap length c ∙ length_listed f 4 in
    let n : length starts ≡ 4 = ap length s ∙ length_listed g 4 in
    omega (arith, length-zip letters (zip counts starts), length-zip counts starts)

-- its entry i is p
module _ {b : Bodies} (w : Writable b) (counts starts : List ℕ) (c : counts ≡ listed (records b) 4) (s : starts ≡ listed (start_of (records b)) 4)
    {i : ℕ} {p : ℕ × (ℕ × ℕ)} (e : (i < length (walked counts starts)) × (p ≡ get_or (walked counts starts) i p)) where
  entry_few : i < 4
  entry_few = omega (arith, e.0, walked_length (records b) (start_of (records b)) c s)

  entry_walked : p ≡ (letter i, (records b i, start_of (records b) i))
  entry_walked =
      let l = entry_few in
      let m : i < length counts = omega (arith, ap length c ∙ length_listed (records b) 4) in
      let n : i < length starts = omega (arith, ap length s ∙ length_listed (start_of (records b)) 4) in
      let k : i < length (zip counts starts) = omega (arith, length-zip counts starts) in
      let u : get_or counts i p.1.0 ≡ records b i = ap (λ (y : List ℕ). get_or y i p.1.0) c ∙ listed_at (records b) i 4 p.1.0 l in
      let v : get_or starts i p.1.1 ≡ start_of (records b) i = ap (λ (y : List ℕ). get_or y i p.1.1) s ∙ listed_at (start_of (records b)) i 4 p.1.1 l in
      e.1 ∙ get_or-zip letters (zip counts starts) i p l k
      ∙ ap₂ (λ x y. (x, y)) (letters_are i p.0 l) (get_or-zip counts starts i p.1 m n ∙ ap₂ (λ x y. (x, y)) u v)

  pub count_fits : p.1.0 < 256
  count_fits = rw entry_walked (records_few w i entry_few)

  pub start_fits : p.1.1 < 65536
  start_fits = rw entry_walked (starts_few w i entry_few)

  pub entry_put : {n m : ℕ} {bytes : List ℕ} {u v o : Writer} → n ≡ p.1.0 → m ≡ p.1.1 → bytes ≡ m / 256 % 256 ∷ m % 256 ∷ [] →
      Wrote u (fours (contents_entry (records b)) i) v → Wrote v (p.0 ∷ n ∷ get_or bytes 0 0 ∷ get_or bytes 1 0 ∷ []) o → Wrote u (fours (contents_entry (records b)) (i + 1)) o
  unfolding fours
  entry_put {bytes = bytes} f g h x y =
      let z = starts_few w i entry_few in
      let k : start_of (records b) i / 256 % 256 ≡ start_of (records b) i / 256 = omega arith in
      rw add-one (wrote_then x (rw (h, f, g, entry_walked, k) at y))

pub contents_put : (n : ℕ → ℕ) {i : ℕ} {u v : Writer} → i ≡ 4 → Wrote u (fours (contents_entry n) i) v → Wrote u (contents n) v
unfolding fours contents
contents_put n e p = rw e at p
