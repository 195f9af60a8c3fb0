-- A table of records with no two equal and parts earlier: its numbers stand for its terms, one for one.
use mathlib.Core.Path.{◌≡◌, refl, ap, ap₂, sym, ◌∙◌, subst}
use mathlib.Core.Logic.{◌⊎◌, inl, inr, by_cases}
use mathlib.Core.List.{[]}
use Prim.Native.Nat.{ℕ, zero, suc, ◌≤◌, ◌<◌}
use native.Mathlib.Decide.{dec_lt}
use native.Mathlib.Nat.{zero-add}
use native.Mathlib.Omega.{arith}
use lib.ListN.{get_or}
use Rattle.base.proofs.Grow.{grow_kept, grow_at}
use Rattle.term.specs.Term.{Kind, Head, Term, atom, node, Rec, leaf, branch, message, void, decoded}
use Rattle.term.specs.Code.{Below, Table}

-- ---- equal terms have equal numbers
module _ {rec : ℕ → Rec} {N : ℕ} {T : ℕ → Term} (t : Table rec N T) where
  same : (m n : ℕ) → m < N → n < N → ((x y : ℕ) → x < m → y < N → T x ≡ T y → x ≡ y) →
      (r s : Rec) → Below m r → Below n s → message T r ≡ message T s → r ≡ s
  same m n a b ih (leaf κ x) (leaf κ' y) f g i = cc
  same m n a b ih (leaf κ x) (branch h y z) f g i = cc
  same m n a b ih (branch h x y) (leaf κ z) f g i = cc
  same m n a b ih (branch h x y) (branch h' x' y') f g i =
      let p : x ≡ x' = ih x x' (omega arith) (omega arith) (cc) in
      let q : y ≡ y' = ih y y' (omega arith) (omega arith) (cc) in
      cc

  below : (k m n : ℕ) → m < k → m < N → n < N → T m ≡ T n → m ≡ n
  below zero m n l a b e = absurd (omega arith)
  below (suc k) m n l a b e =
      t.distinct m n a b (same m n a b (λ x y c d. below k x y (omega arith) (omega arith) d) (rec m) (rec n) (t.earlier m a) (t.earlier n b)
      (sym (t.reads m a) ∙ e ∙ t.reads n b))

  pub decode_inj : (m n : ℕ) → m < N → n < N → T m ≡ T n → m ≡ n
  decode_inj m n a b e = below (suc m) m n (omega arith) a b e

-- ---- equal records have equal terms
module _ {rec rec' : ℕ → Rec} {N : ℕ} {T T' : ℕ → Term} (t : Table rec N T) (t' : Table rec' N T') (same-rec : (n : ℕ) → n < N → rec n ≡ rec' n) where
  agree_below : (k n : ℕ) → n < k → n < N → T n ≡ T' n
  agree_below zero n l b = absurd (omega arith)
  agree_below (suc k) n l b =
      t.reads n b ∙ go (rec n) (t.earlier n b) (agree_below k) ∙ ap (message T') (same-rec n b) ∙ sym (t'.reads n b)
    where
      go : (r : Rec) → Below n r → ((m : ℕ) → m < k → m < N → T m ≡ T' m) → message T r ≡ message T' r
      go (leaf κ x) c ih = refl
      go (branch h x y) c ih = ap₂ (node h) (ih x (omega arith) (omega arith)) (ih y (omega arith) (omega arith))

  pub tables_agree : (n : ℕ) → n < N → T n ≡ T' n
  tables_agree n b = agree_below (suc n) n (omega arith) b

-- ---- the terms that `decoded` gives
module _ (rec : ℕ → Rec) (N : ℕ) where
  abbrev at : ℕ → ℕ → Term
  at n m = get_or (decoded rec n) m void

  stays : (n x : ℕ) → n < N → x < n → at n x ≡ at N x
  unfolding decoded
  stays n x b c = sym (grow_kept [] (λ ts n. message (λ m. get_or ts m void) (rec n)) n N x void (omega arith) (omega arith))

  agree : (n : ℕ) → n < N → (r : Rec) → Below n r → message (at n) r ≡ message (at N) r
  agree n b (leaf κ m) c = refl
  agree n b (branch h x y) c = ap₂ (node h) (stays n x b c.0) (stays n y b c.1)

  pub decoded_reads : ((n : ℕ) → n < N → Below n (rec n)) → (n : ℕ) → n < N →
      get_or (decoded rec N) n void ≡ message (λ m. get_or (decoded rec N) m void) (rec n)
  unfolding decoded
  decoded_reads earlier n b =
      (rw (zero-add n) at (grow_at [] (λ ts n. message (λ m. get_or ts m void) (rec n)) n N void b)) ∙ agree n b (rec n) (earlier n b)

-- ---- the record of a term
module _ {rec : ℕ → Rec} {N : ℕ} {T : ℕ → Term} (t : Table rec N T) where
  pub branch_of : (a : ℕ) → a < N → {h : Head} {r k : Term} → T a ≡ node h r k → (x y : ℕ) × (rec a ≡ branch h x y) × (T x ≡ r) × (T y ≡ k)
  branch_of a b {h} {r} {k} e = go (rec a) refl (sym (t.reads a b) ∙ e)
    where
      go : (s : Rec) → rec a ≡ s → message T s ≡ node h r k → (x y : ℕ) × (rec a ≡ branch h x y) × (T x ≡ r) × (T y ≡ k)
      go (leaf κ n) i f = absurd (let z : ◌≡◌ {A = ℕ} 0 1 = cc in omega arith)
      go (branch h' x y) i f = let p : h' ≡ h = cc in (x, y, i ∙ ap (λ z. branch z x y) p, cc, cc)

  pub leaf_of : (a : ℕ) → a < N → {κ : Kind} {n : ℕ} → T a ≡ atom κ n → rec a ≡ leaf κ n
  leaf_of a b {κ} {n} e = go (rec a) refl (sym (t.reads a b) ∙ e)
    where
      go : (s : Rec) → rec a ≡ s → message T s ≡ atom κ n → rec a ≡ leaf κ n
      go (leaf κ' n') i f = cc
      go (branch h x y) i f = cc

  pub node_of : (a : ℕ) → a < N → {h : Head} {x y : ℕ} → rec a ≡ branch h x y → T a ≡ node h (T x) (T y)
  node_of a b e = t.reads a b ∙ ap (message T) e

  pub part_below : (a : ℕ) → a < N → {h : Head} {x y : ℕ} → rec a ≡ branch h x y → (x < N) × (y < N)
  part_below a b e = let f = subst (Below a) e (t.earlier a b) in (omega arith, omega arith)

-- ---- one record more
module _ {rec : ℕ → Rec} {N : ℕ} {T : ℕ → Term} (t : Table rec N T) (r : Rec) (low : Below N r) (new : (n : ℕ) → n < N → rec n ≡ r → ⊥)
    (rec' : ℕ → Rec) (T' : ℕ → Term) (same-rec : (n : ℕ) → n < N → rec' n ≡ rec n) (same_term : (n : ℕ) → n < N → T' n ≡ T n)
    (last-rec : rec' N ≡ r) (last-term : T' N ≡ message T r) where
  carried : (n : ℕ) → n ≤ N → (s : Rec) → Below n s → message T s ≡ message T' s
  carried n b (leaf κ m) c = refl
  carried n b (branch h x y) c = ap₂ (node h) (sym (same_term x (omega arith))) (sym (same_term y (omega arith)))

  pub extended : Table rec' (suc N) T'
  extended = record { reads = λ n b. reading n (cut n b); earlier = λ n b. below' n (cut n b); distinct = λ m n a b e. apart m n (cut m a) (cut n b) e }
    where
      cut : (n : ℕ) → n < suc N → (n < N) ⊎ (n ≡ N)
      cut n b = by_cases (dec_lt n N) (λ l. inl l) (λ l. inr (omega arith))

      reading : (n : ℕ) → (n < N) ⊎ (n ≡ N) → T' n ≡ message T' (rec' n)
      reading n (inl l) = same_term n l ∙ t.reads n l ∙ carried n (omega arith) (rec n) (t.earlier n l) ∙ ap (message T') (sym (same-rec n l))
      reading n (inr e) = rw e (last-term ∙ carried N (omega arith) r low ∙ ap (message T') (sym last-rec))

      below' : (n : ℕ) → (n < N) ⊎ (n ≡ N) → Below n (rec' n)
      below' n (inl l) = rw (same-rec n l) (t.earlier n l)
      below' n (inr e) = rw (e, last-rec) low

      apart : (m n : ℕ) → (m < N) ⊎ (m ≡ N) → (n < N) ⊎ (n ≡ N) → rec' m ≡ rec' n → m ≡ n
      apart m n (inl k) (inl l) e = t.distinct m n k l (sym (same-rec m k) ∙ e ∙ same-rec n l)
      apart m n (inl k) (inr l) e = absurd (new m k (sym (same-rec m k) ∙ e ∙ ap rec' l ∙ last-rec))
      apart m n (inr k) (inl l) e = absurd (new n l (sym (same-rec n l) ∙ sym e ∙ ap rec' k ∙ last-rec))
      apart m n (inr k) (inr l) e = k ∙ sym l
