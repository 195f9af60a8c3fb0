-- One of the second's entries more: it is put where it is new, and where the pool has room for it.
use mathlib.Core.Path.{◌≡◌, refl, sym, ap, ◌∙◌}
use mathlib.Core.Logic.{◌⊎◌, inl, inr, ⊎_elim}
use mathlib.Core.Bool.{Bool, true, false, cond, not, false≢true}
use mathlib.Core.List.{List, [], ◌∷◌, ◌++◌, append-nil}
use Prim.Native.Nat.{ℕ, zero, suc, ◌+◌, ◌≤◌, ◌<◌}
use native.Mathlib.Numerals.{add-one}
use native.Mathlib.Omega.{arith}
use lib.Dec.{eqb}
use lib.ListN.{length, get_or, length-append}
use borrow.Author.Tests.{ltb-false}
use Rattle.std.specs.Prelude.{Result, Ok, Err}
use Rattle.std.specs.List.{list_any}
use Rattle.base.specs.declared.refusal.Refusal.{Refusal}
use Rattle.base.specs.declared.writer.Writer.{Writer}
use Rattle.base.specs.{Words.byte, Words.grow, Code.Wrote, Code.check_of, Computed.fails_if}
use Rattle.base.proofs.{Says.Says, Says.says_eqb, Says.says_or, Says.same_test, PutLaws.puts_length, PutLaws.wrote_none, PutLaws.wrote_then}
use Rattle.submission.specs.{Record.terms, Record.entries, Record.entry_at, Body.body_at, Code.TableRead}
use Rattle.submission.proofs.Theory.{ListedTerms.facts}
use Rattle.form.proofs.Theory.RoundTrip.{body_byte}
use Rattle.pool.specs.declared.numbers.Numbers.{Numbers}
use Rattle.pool.specs.Pool.{pool_number, is_entry, new_entries}
use Rattle.pool.specs.Code.{entries_to, check_most, Noted}
use Rattle.pool.proofs.Theory.{PoolLists.kept_more, PoolLists.kept_rises, PoolKnowledge.says_entry}
use Rattle.pool.proofs.{MostLaws.most_passed, MostLaws.room_left, MostLaws.full_refused, PutLaws.table_length}

-- ---- whether a number is among the first's entries
says_member : (n : ℕ) (l : List ℕ) → Says (list_any (λ y. eqb y n) l) ((k : ℕ) × (k < length l) × (byte l k ≡ n))
says_member n [] = (λ e. absurd (false≢true e), λ (k, b, e). absurd (omega arith))
says_member n (x ∷ l) =
    let (f, g) = says_or (eqb x n) (list_any (λ y. eqb y n) l) (says_eqb x n) (says_member n l) in
    (λ e. ⊎_elim (λ h. (0, omega arith, h)) (λ (k, b, h). (suc k, omega arith, h)) (f e), λ (k, b, h). g (at k b h))
  where
    at : (k : ℕ) → k < length (x ∷ l) → byte (x ∷ l) k ≡ n → (x ≡ n) ⊎ ((k : ℕ) × (k < length l) × (byte l k ≡ n))
    at zero b h = inl h
    at (suc k) b h = inr (k, omega arith, h)

module _ {a : List ℕ} (z : TableRead a) where
  pub own_entries : length (body_at a 1) ≡ entries a
  own_entries = omega (arith, table_length z 1 (omega arith))

  pub entry_test : {known : List ℕ} {t : Bool} (n : ℕ) → known ≡ body_at a 1 → t ≡ list_any (λ y. eqb y n) known → t ≡ is_entry a n
  entry_test n e f =
      f ∙ ap (list_any (λ y. eqb y n)) e
      ∙ same_test (list_any (λ y. eqb y n) (body_at a 1)) (is_entry a n) (there, back) (says_entry a n)
    where
      there : list_any (λ y. eqb y n) (body_at a 1) ≡ true → (r : ℕ) × (r < entries a) × (entry_at a r ≡ n)
      there h = let (k, b, g) = (says_member n (body_at a 1)).0 h in let l : k < entries a = omega (arith, own_entries) in (k, l, sym (body_byte a 1 k (omega arith)) ∙ g)

      back : (r : ℕ) × (r < entries a) × (entry_at a r ≡ n) → list_any (λ y. eqb y n) (body_at a 1) ≡ true
      back (r, b, g) = (says_member n (body_at a 1)).1 (r, omega (arith, own_entries), body_byte a 1 r (omega arith) ∙ g)

-- the number of entry r of the second is noted
pub entry_number : {a b : List ℕ} {numbers : Numbers} {r e k : ℕ} → TableRead b → Noted a b (terms b) numbers → r < entries b → e ≡ entry_at b r → k ≡ e → get_or numbers.of k 0 ≡ pool_number a b (entry_at b r)
entry_number {numbers = numbers} y p l f g = ap (λ i. get_or numbers.of i 0) (g ∙ f) ∙ p.is _ ((facts y).entry_below _ l)

-- ---- one entry more
pub entries_none : {a : List ℕ} (b : List ℕ) {w : Writer} → TableRead a → (entries_to a b 0 ≤ 64) × Wrote w (new_entries a b 0) w
unfolding new_entries grow
entries_none b z = (omega (arith, (facts z).entries_most), wrote_none)

module _ (a b : List ℕ) (r : ℕ) where
  abbrev of_entry : ℕ
  of_entry = pool_number a b (entry_at b r)

  entries_more : new_entries a b (suc r) ≡ new_entries a b r ++ cond (not (is_entry a of_entry)) (of_entry ∷ []) []
  unfolding new_entries
  entries_more = kept_more (λ k. not (is_entry a k)) (λ r. pool_number a b (entry_at b r)) r

  -- it is known
  pub entry_known : is_entry a of_entry ≡ true → new_entries a b (r + 1) ≡ new_entries a b r
  entry_known e = rw (add-one r, entries_more, e) (append-nil (new_entries a b r))

  pub entry_new : is_entry a of_entry ≡ false → new_entries a b (r + 1) ≡ new_entries a b r ++ of_entry ∷ []
  entry_new e = rw (add-one r, entries_more, e) refl

  pub one_entry_more : is_entry a of_entry ≡ false → entries_to a b (r + 1) ≡ entries_to a b r + 1
  one_entry_more e = rw (entry_new e) (let z = length-append (new_entries a b r) (of_entry ∷ []) in omega arith)

-- more entries, no fewer in the pool
pub entries_kept : (a b : List ℕ) (r n : ℕ) → r ≤ n → entries_to a b r ≤ entries_to a b n
unfolding new_entries
entries_kept a b r n l = let m = kept_rises (λ k. not (is_entry a k)) (λ r. pool_number a b (entry_at b r)) r n l in omega arith

-- ---- the loop: of the entries before r those that are new are put, and the pool has room for them
module _ (a b : List ℕ) (r : ℕ) {u v : Writer} (at : u.at ≡ entries a) (room : length u.buffer.now ≡ 64) (few : entries_to a b r ≤ 64) (w : Wrote u (new_entries a b r) v) where
  -- an entry is one byte, so the place is their count
  pub place_counts : v.at ≡ entries_to a b r
  place_counts = omega (arith, w.puts.place)

  module _ {k : ℕ} {t : Bool} (e : k ≡ pool_number a b (entry_at b r)) (f : t ≡ is_entry a k) where
    entry_is : (d : Bool) → t ≡ d → is_entry a (pool_number a b (entry_at b r)) ≡ d
    entry_is d g = ap (is_entry a) (sym e) ∙ sym f ∙ g

    pub known_kept : t ≡ true → (entries_to a b (r + 1) ≤ 64) × Wrote u (new_entries a b (r + 1)) v
    known_kept g = let h = entry_known a b r (entry_is true g) in (omega (arith, ap length h), rw h w)

    pub new_put : {T : Type 0} {q : Result T Refusal} {o : T} {x : Writer} → t ≡ false → check_of q ≡ fails_if (eqb v.at 64) 20 0 → q ≡ Ok o → Wrote v (k ∷ []) x → (entries_to a b (r + 1) ≤ 64) × Wrote u (new_entries a b (r + 1)) x
    new_put g j i y =
        let h = entry_new a b r (entry_is false g) in
        let m : v.at < 64 = room_left 1 v.at j i (omega (arith, place_counts)) in
        (omega (arith, one_entry_more a b r (entry_is false g), place_counts), rw (h, ← e) (wrote_then w y))

    pub new_refused : {T : Type 0} {q : Result T Refusal} {y : Refusal} → t ≡ false → check_of q ≡ fails_if (eqb v.at 64) 20 0 → q ≡ Err y → r < entries b → check_of q ≡ check_most 1 (entries_to a b (entries b))
    new_refused g h i l =
        let m = entries_kept a b (r + 1) (entries b) (omega arith) in
        full_refused 1 v.at h i (omega (arith, one_entry_more a b r (entry_is false g), place_counts))

-- ---- the buffer of the entries: what stands in it before the new ones, and that there is room for all
module _ {a : List ℕ} (z : TableRead a) where
  pub own_put : {d t : List ℕ} {u v : Writer} → u.buffer.now ≡ d → length d ≡ 64 → u.at ≡ 0 → t ≡ body_at a 1 → Wrote u t v → (v.at ≡ entries a) × (length v.buffer.now ≡ 64)
  own_put e m f g w =
      (omega (arith, w.puts.place, ap length e, ap length g, own_entries z, (facts z).entries_most), puts_length w.puts ∙ ap length e ∙ m)

  pub entries_room : (b : List ℕ) (n : ℕ) {T : Type 0} {r : Result T Refusal} {v : T} → check_of r ≡ check_most 1 (entries_to a b n) → r ≡ Ok v → length (body_at a 1 ++ new_entries a b n) ≤ 64
  entries_room b n e f =
      let l = ltb-false 64 (entries_to a b n) (most_passed 1 (entries_to a b n) e f) in
      omega (arith, length-append (body_at a 1) (new_entries a b n), own_entries z)
