-- The knowledge of the pool: its entries are those of both, none twice.
use mathlib.Core.Path.{◌≡◌, refl, sym, ap, ◌∙◌}
use mathlib.Core.Logic.{◌↔◌, ◌⊎◌, inl, inr, ⊎_elim}
use mathlib.Core.Bool.{false, not}
use mathlib.Core.List.{List, ◌++◌}
use Prim.Native.Nat.{ℕ, ◌+◌, ◌-◌, ◌≤◌, ◌<◌}
use native.Mathlib.Omega.{arith}
use lib.{ListN.length, ListN.get_or-append, Seq.get_or-append-add, Dec.eqb}
use Rattle.base.specs.{Words.byte}
use Rattle.base.proofs.{Order.lt_or_ge, Says.Says, Says.says_eqb, Says.says_any, Says.denies, Says.not_is_true, Says.true_or_false}
use Rattle.term.specs.Term.{Term}
use Rattle.submission.specs.{Record.terms, Record.entries, Record.entry_at, Record.term, Record.InKnowledge, Body.Bodies, Body.body_at}
use Rattle.submission.specs.Code.{SubmissionRead}
use Rattle.form.proofs.Theory.RoundTrip.{body_byte}
use Rattle.submission.proofs.Theory.{ListedTerms.claim_facts, ReadingRows.rows_clear}
use Rattle.pool.specs.Pool.{pool_number, is_entry, new_entries, pool, joined}
use Rattle.pool.proofs.Theory.{JoinAnswer.Joinable, PoolLists.kept_place, PoolLists.kept_at, PoolBodies.own_length, PoolBodies.pool_reads, PoolBodies.count_is, PoolRecords.term_count, PoolTable.first_term, PoolTable.second_term}

pub says_entry : (a : List ℕ) (n : ℕ) → Says (is_entry a n) ((r : ℕ) × (r < entries a) × (entry_at a r ≡ n))
says_entry a n = says_any (λ r. eqb (entry_at a r) n) (entries a) (λ r l. says_eqb (entry_at a r) n)

-- no two entries are equal
entries_apart : {s : List ℕ} → SubmissionRead s → (i j : ℕ) → i < entries s → j < entries s → entry_at s i ≡ entry_at s j → i ≡ j
entries_apart {s} r i j l m e =
    let c = rows_clear r in ⊎_elim
    (λ u. absurd (c.1.1.1.0 4 j (refl, (m, inr (i, u, e)))))
    (λ u. ⊎_elim (λ v. absurd (c.1.1.1.0 4 i (refl, (l, inr (j, v, sym e))))) (λ v. omega arith) (lt_or_ge j i))
    (lt_or_ge i j)

module _ {a b : List ℕ} (h : Joinable a b) where
  abbrev p : List ℕ
  p = joined a b

  -- the number in the pool of the second's entry r
  abbrev m : ℕ → ℕ
  m r = pool_number a b (entry_at b r)

  abbrev new : List ℕ
  new = new_entries a b (entries b)

  entry_count : entries p ≡ entries a + length new
  entry_count = count_is h 1 (omega arith)

  entry_byte : (r : ℕ) → r < entries p → entry_at p r ≡ byte (body_at a 1 ++ new) r
  unfolding pool
  entry_byte r l = sym (body_byte p 1 r (omega arith)) ∙ ap (λ (b : Bodies). byte b.knowledge r) (pool_reads h).bodies

  own_entries : length (body_at a 1) ≡ entries a
  own_entries = omega (arith, own_length b h.first 1 (omega arith))

  first_entry : (r : ℕ) → r < entries a → entry_at p r ≡ entry_at a r
  first_entry r l =
      entry_byte r (omega (arith, entry_count)) ∙ get_or-append (body_at a 1) new 0 r (omega (arith, own_entries)) ∙ body_byte a 1 r (omega arith)

  later_entry : (k : ℕ) → k < length new → entry_at p (entries a + k) ≡ byte new k
  later_entry k l =
      let e : entries a + k ≡ length (body_at a 1) + k = omega (arith, own_entries) in
      entry_byte (entries a + k) (omega (arith, entry_count)) ∙ ap (byte (body_at a 1 ++ new)) e ∙ get_or-append-add (body_at a 1) new k 0

  second_message : (r : ℕ) → r < entries b → term p (m r) ≡ term b (entry_at b r)
  second_message r l = (second_term h (entry_at b r) ((claim_facts h.second).read.entry_below r l)).1

  -- each of the pool's entries is the first's, or a new one of the second's
  record New (r : ℕ) : Type 0 where
    pub place : ℕ
    pub below : place < entries b
    pub lacks : is_entry a (m place) ≡ false
    pub before : entries a + length (new_entries a b place) ≡ r
    pub is : entry_at p r ≡ m place

  whose_entry : (r : ℕ) → r < entries p → (r < entries a) ⊎ New r
  unfolding new_entries
  whose_entry r l = ⊎_elim
      (λ u. inl u)
      (λ u.
      let (j, v, e, g, f) = kept_at (λ k. not (is_entry a k)) m (entries b) (r - entries a) (omega (arith, entry_count)) in
      let q : r ≡ entries a + (r - entries a) = omega arith in
      inr (record { place = j; below = v; lacks = (not_is_true _).0 e; before = omega (arith, g); is = ap (entry_at p) q ∙ later_entry (r - entries a) (omega (arith, entry_count)) ∙ f }))
      (lt_or_ge r (entries a))

  new_entry : (r : ℕ) → r < entries b → is_entry a (m r) ≡ false → (entries a + length (new_entries a b r) < entries p) × (entry_at p (entries a + length (new_entries a b r)) ≡ m r)
  unfolding new_entries
  new_entry r l e =
      let (u, f) = kept_place (λ k. not (is_entry a k)) m (entries b) r l ((not_is_true _).1 e) in
      (omega (arith, entry_count), later_entry (length (new_entries a b r)) u ∙ f)

  -- row 4: each is below the count of terms, and no earlier one is equal
  pub entry_good : (r : ℕ) → r < entries p → (terms p ≤ entry_at p r) ⊎ ((k : ℕ) × (k < r) × (entry_at p k ≡ entry_at p r)) → ⊥
  entry_good r l (inl u) = ⊎_elim
      (λ v. let w = (claim_facts h.first).read.entry_below r v in omega (arith, first_entry r v, term_count h))
      (λ (n : New r). let w = (second_term h (entry_at b n.place) ((claim_facts h.second).read.entry_below n.place n.below)).0 in omega (arith, n.is))
      (whose_entry r l)
  entry_good r l (inr (k, u, e)) = go (whose_entry r l) (whose_entry k (omega arith))
    where
      go : (r < entries a) ⊎ New r → (k < entries a) ⊎ New k → ⊥
      go (inl v) (inl w) = let q = entries_apart h.first k r w v (sym (first_entry k w) ∙ e ∙ first_entry r v) in omega arith
      go (inl v) (inr n) = omega (arith, n.before)
      go (inr n) (inl w) = (denies _ (says_entry a (m n.place))).0 n.lacks (k, w, sym (first_entry k w) ∙ e ∙ n.is)
      go (inr n) (inr o) =
          let q : m o.place ≡ m n.place = sym o.is ∙ e ∙ n.is in
          let t = sym (second_message o.place o.below) ∙ ap (term p) q ∙ second_message n.place n.below in
          let f = (claim_facts h.second).read.same_number _ _ ((claim_facts h.second).read.entry_below o.place o.below) ((claim_facts h.second).read.entry_below n.place n.below) t in
          let g : o.place ≡ n.place = entries_apart h.second o.place n.place o.below n.below f in
          let i : k ≡ r = sym o.before ∙ ap (λ j. entries a + length (new_entries a b j)) g ∙ n.before in
          omega arith

  -- its messages are those of both
  pub knowledge_of_both : (t : Term) → InKnowledge p t ↔ (InKnowledge a t ⊎ InKnowledge b t)
  knowledge_of_both t = (
    λ (r, l, e). ⊎_elim
        (λ u. inl (r, u, e ∙ ap (term p) (first_entry r u) ∙ (first_term h (entry_at a r) ((claim_facts h.first).read.entry_below r u)).1))
        (λ (n : New r). inr (n.place, n.below, e ∙ ap (term p) n.is ∙ second_message n.place n.below))
        (whose_entry r l),
    ⊎_elim
        (λ (r, l, e). (r, omega (arith, entry_count), e ∙ sym (first_term h (entry_at a r) ((claim_facts h.first).read.entry_below r l)).1 ∙ sym (ap (term p) (first_entry r l))))
        (λ (r, l, e). ⊎_elim
        (λ v. let (k, w, f) = (says_entry a (m r)).0 v in (k, omega (arith, entry_count), e ∙ sym (second_message r l) ∙ sym (ap (term p) (first_entry k w ∙ f))))
        (λ v. let (w, f) = new_entry r l v in (entries a + length (new_entries a b r), w, e ∙ sym (second_message r l) ∙ sym (ap (term p) f)))
        (true_or_false (is_entry a (m r)))),
  )
