-- Laws of putting bytes into a buffer: nothing, one byte, one text after the other, also by a writer; and a whole text in a buffer that is long enough.
use mathlib.Core.Path.{◌≡◌, refl, sym, ap, ◌∙◌}
use mathlib.Core.Logic.{⊎_elim}
use mathlib.Core.List.{List, [], ◌∷◌, ◌++◌}
use Prim.Native.Nat.{ℕ, suc, ◌+◌, ◌-◌, ◌≤◌, ◌<◌, min}
use borrow.Rule.Slice.PartMut.{put_mid}
use lib.Seq.{drop-drop}
use Rattle.std.proofs.Common.{append_assoc}
use native.Mathlib.Nat.{add-zero, zero-add, add-suc, suc-add, le_antisymm}
use native.Mathlib.Numerals.{add-one}
use native.Mathlib.Omega.{arith}
use lib.ListN.{length, set, take, drop, length-append, take-append-drop, drop_of_length-le}
use lib.Seq.{sets, sets-eq, length-sets, set_out, take-append_seam, take_all, length-take-le}
use Rattle.base.proofs.Order.{lt_or_ge}
use Rattle.base.specs.declared.writer.Writer.{Writer}
use Rattle.base.specs.{Answer.Puts, Code.Wrote}

-- past the end nothing is stored
sets_past : (l : List ℕ) (i : ℕ) (vs : List ℕ) → length l ≤ i → sets l i vs ≡ l
sets_past l i [] h = refl
sets_past l i (a ∷ vs) h = rw (set_out l i a) (sets_past l (suc i) vs (omega arith))

sets_append : (l : List ℕ) (i : ℕ) (xs ys : List ℕ) → sets l i (xs ++ ys) ≡ sets (sets l i xs) (i + length xs) ys
sets_append l i [] ys = rw add-zero
sets_append l i (x ∷ xs) ys = rw (add-suc, ← suc-add) (sets_append (set l i x) (suc i) xs ys)

pub puts_length : {a b text : List ℕ} {i j : ℕ} → Puts a i text b j → length b ≡ length a
puts_length {a} {b} {text} {i} p = rw p.stored (length-sets a i text)

pub puts_none : {a : List ℕ} {i : ℕ} → Puts a i [] a i
puts_none = record { stored = refl; place = omega arith }

pub puts_full : (a : List ℕ) (i : ℕ) (text : List ℕ) → length a ≤ i → Puts a i text a i
puts_full a i text h = record { stored = sym (sets_past a i text h); place = omega arith }

pub puts_then : {a b c xs ys : List ℕ} {i j k : ℕ} → Puts a i xs b j → Puts b j ys c k → Puts a i (xs ++ ys) c k
puts_then {a} {b} {c} {xs} {ys} {i} {j} {k} p q =
    let l : length b ≡ length a = puts_length p in
    let m : length (xs ++ ys) ≡ length xs + length ys = length-append xs ys in
    let n : length (sets a i xs) ≡ length a = length-sets a i xs in
    record {
      stored =
          rw (q.stored, p.stored, sets_append)
          (⊎_elim
          (λ (h : j < length a). let f : j ≡ i + length xs = omega arith in rw f)
          (λ (h : length a ≤ j). rw (sets_past (sets a i xs) j ys (omega arith), sets_past (sets a i xs) (i + length xs) ys (omega arith)))
          (lt_or_ge j (length a)));
      place = omega arith;
    }

-- a writer that has put nothing, and one that has put one text after the other
pub wrote_none : {w : Writer} → Wrote w [] w
wrote_none = record { same = refl; puts = puts_none }

pub wrote_then : {u v w : Writer} {xs ys : List ℕ} → Wrote u xs v → Wrote v ys w → Wrote u (xs ++ ys) w
wrote_then p q = record { same = q.same ∙ p.same; puts = puts_then p.puts q.puts }

-- records one after the other, as a loop puts them: all n has the first n, and each n is the next; at the end they are n
pub next_put : {u v w : Writer} {n : ℕ} (all each : ℕ → List ℕ) → all (suc n) ≡ all n ++ each n → Wrote u (all n) v → Wrote v (each n) w → Wrote u (all (n + 1)) w
next_put all each e p q = rw (add-one, e) (wrote_then p q)

pub all_put : {u v : Writer} {m n : ℕ} (all : ℕ → List ℕ) → m ≤ n → n ≤ m → Wrote u (all m) v → Wrote u (all n) v
all_put all l h p = rw (← (le_antisymm l h)) p

-- a writer of the buffer d, from its start on, and the buffer p when the writer is done
pub wrote_out : {u w : Writer} {text d p : List ℕ} → Wrote u text w → u.buffer.now ≡ d → u.at ≡ 0 → p ≡ w.buffer.now → Puts d 0 text p w.at
wrote_out {text = text} a e f g = record { stored = g ∙ a.puts.stored ∙ rw (e, f); place = a.puts.place ∙ rw (e, f) }

-- a text put at the front, in a buffer of any length: what there is room for, and then the buffer's own rest
pub puts_front : {a b text : List ℕ} {k : ℕ} → Puts a 0 text b k → b ≡ take (length a) text ++ drop (length text) a
puts_front {a} {b} {text} p =
    p.stored ∙ ⊎_elim
    (λ (h : length a < length text).
    let t = take (length a) text in
    let n : length t ≡ length a = length-take-le (length a) text (omega arith) in
    ap (sets a 0) (sym (take-append-drop (length a) text))
    ∙ sets_append a 0 t (drop (length a) text)
    ∙ sets_past (sets a 0 t) (0 + length t) (drop (length a) text) (omega (arith, length-sets a 0 t))
    ∙ sets-eq t a 0 (omega arith)
    ∙ rw (drop_of_length-le a {i = length text} (omega arith), drop_of_length-le a {i = 0 + length t} (omega arith)))
    (λ (h : length text ≤ length a). sets-eq text a 0 (omega arith) ∙ rw (take_all (length a) text h, zero-add))
    (lt_or_ge (length a) (length text))

-- a text for which there is room stands there whole
pub puts_whole : {a b text : List ℕ} {k : ℕ} → Puts a 0 text b k → length text ≤ length a → (k ≡ length text) × (take k b ≡ text)
puts_whole {a} {b} {text} {k} p h =
    let l : k ≡ length text = omega (arith, p.place) in
    (l, rw (l, puts_front p, take_all (length a) text h, take-append_seam))

-- as many of the bytes as there is room for, in the place of as many
pub puts_room : (a : List ℕ) (i : ℕ) (bytes part : List ℕ) (n k : ℕ) → i < length a → n ≡ min (length bytes) (length a - i) → k ≡ n → part ≡ take n bytes → Puts a i bytes (put_mid i k a part) (i + n)
puts_room a i bytes part n k h e f g =
    let t = take n bytes in
    let m : length t ≡ n = length-take-le n bytes (omega arith) in
    let p : put_mid i k a part ≡ sets a i t =
    rw (f, g, sets-eq t a i (omega arith), m, append_assoc)
    (ap (λ (z : List ℕ). take i a ++ (t ++ z)) (drop-drop n i a)) in
    let r : sets a i t ≡ sets a i bytes =
    ⊎_elim
    (λ (l : length a - i < length bytes).
    sym (ap (sets a i) (sym (take-append-drop n bytes)) ∙ sets_append a i t (drop n bytes) ∙ sets_past (sets a i t) (i + length t) (drop n bytes) (omega (arith, length-sets a i t))))
    (λ (l : length bytes ≤ length a - i). rw (take_all n bytes (omega arith)))
    (lt_or_ge (length a - i) (length bytes)) in
    record { stored = p ∙ r; place = omega arith }
