-- The run with a wrong guess: what each register may hold, and that each way's test fails.
use mathlib.Core.Path.{◌≡◌, refl, ap, ap₂, sym, ◌∙◌, subst, subst₂}
use mathlib.Core.Logic.{◌⊎◌, inl, inr, ⊎_elim}
use mathlib.Core.Bool.{true}
use native.Mathlib.Omega.{arith}
use Prim.Native.Nat.{ℕ}
use Rattle.term.specs.Term.{plain, public, private, Cipher, symmetric, asymmetric, Side, left, right, pair, hash, encryption, Head, make, part, decrypt, Term, atom, node, is_key, inverse, Match, single, Part, pick, Fresh}
use Rattle.term.specs.Code.{builds, Message}
use Rattle.term.specs.Reduce.{op}
use Rattle.term.specs.Step.{Step, Undoes}
use Rattle.term.proofs.Reduce.{Atomic, atom_not_node, part_self, part_node, match_det, match_sym, Reduces, op_cases, step_op, step_det}
use Rattle.term.proofs.Reach.{Reach, stepped, reach_message, reach_fresh}

-- a key is not its own inverse
key_apart : (k : Term) → is_key k → inverse k ≡ k → ⊥
key_apart (atom plain n) f e = f
key_apart (atom public n) f e = let z : ◌≡◌ {A = ℕ} 0 1 = cc in omega arith
key_apart (atom private n) f e = let z : ◌≡◌ {A = ℕ} 0 1 = cc in omega arith
key_apart (node h a b) f e = f

part_atomic : (x y : Term) → Atomic y → Part x y → x ≡ y
part_atomic x (atom κ n) a p = p
part_atomic x (node h b c) a p = absurd (atom_not_node a refl)

-- a key that matches another has no atom but those of the other and their inverses
match_part : (c : Cipher) (x k j : Term) → Match c k j → Part x j → Part x k ⊎ Part (inverse x) k
match_part symmetric x k j m i = inl (subst (Part x) m i)
match_part asymmetric x (atom plain n) j m i = absurd m.0
match_part asymmetric x (atom public n) j m i = inr (ap inverse (subst (Part x) m.1 i))
match_part asymmetric x (atom private n) j m i = inr (ap inverse (subst (Part x) m.1 i))
match_part asymmetric x (node h y z) j m i = absurd m.0

-- a step of the rule h from p to t undoes a step of the derivation D
abbrev pub UndoesSome : (Head → Term → Term → Term → Type 0) → Head → Term → Term → Type 0
UndoesSome D h p t = (h' : Head) × (p' q' t' : Term) × D h' p' q' t' × Undoes h p t h' p' t'

-- one of the premises p and q is out of reach from K
abbrev pub OutOfReach : (Term → Type 0) → Term → Term → Type 0
OutOfReach K p q = (Reach K p → ⊥) ⊎ (Reach K q → ⊥)

-- K is the knowledge, D the steps of the derivation, g the guess, w the value that is tried for it
module _ (K : Term → Type 0) (D : Head → Term → Term → Term → Type 0) (g w : Term) where
  -- the guess w is fresh: neither it nor its inverse is part of the knowledge, which holds messages; and D holds Dolev-Yao steps
  pub record FreshGuess : Type 0 where
    pub sound : (h : Head) (p q t : Term) → D h p q t → Step h p q t
    pub messages : (t : Term) → K t → Message t
    pub w_atom : Atomic w
    pub is_fresh : Fresh K w

  -- A register of the term t may hold the value v: the term itself where it is reached without the guess, the tried value for the guess,
  -- or what a step of the derivation formed, with w in it.
  pub data MayHold : Term → Term → Type 0 where
    clean : {t v : Term} → Reach K t → v ≡ t → MayHold t v
    tried : {t v : Term} → t ≡ g → v ≡ w → MayHold t v
    formed : {t v : Term} (h : Head) (p q a b : Term) → D h p q t → MayHold p a → MayHold q b → Part w v → v ≡ node h a b → MayHold t v

  -- a step of the derivation is executed on the values v and u; the operand of a rule with one is read twice
  pub record Executed (h : Head) (p q t v u : Term) : Type 0 where
    pub step : D h p q t
    pub first : MayHold p v
    pub second : MayHold q u
    pub once : single h ≡ true → v ≡ u

  module _ (fresh : FreshGuess) where
    open fresh use {sound, messages, w_atom, is_fresh}

    inverse_atomic : Atomic (inverse w)
    inverse_atomic = let e = w_atom.2 in subst (λ z. Atomic (inverse z)) (sym e) (_, w_atom.1, refl)

    clean_fresh : {t v : Term} → Reach K t → v ≡ t → Part w v → ⊥
    clean_fresh r e i = reach_fresh K w w_atom (λ t k p. is_fresh (t, k, inl p)) r (subst (Part w) e i)

    -- a value is clean, or has w in it: it is tainted
    status : {t v : Term} → MayHold t v → (Reach K t × (v ≡ t)) ⊎ Part w v
    status (clean r e) = inl (r, e)
    status (tried e f) = inr (subst (Part w) (sym f) (part_self w))
    status (formed h p q a b d x y i e) = inr i

    -- the inverse of the key that is tried is in no value
    no_inverse : is_key w → {t v : Term} → MayHold t v → Part (inverse w) v → ⊥
    no_inverse k (clean r e) i = reach_fresh K (inverse w) inverse_atomic (λ t k p. is_fresh (t, k, inr p)) r (subst (Part (inverse w)) e i)
    no_inverse k (tried e f) i = key_apart w k (part_atomic (inverse w) w w_atom (subst (Part (inverse w)) f i))
    no_inverse k (formed h p q a b d x y j e) i =
        ⊎_elim (no_inverse k x) (no_inverse k y) (part_node (inverse w) h a b inverse_atomic (subst (Part (inverse w)) e i))

    -- a value tells its term
    same_term : {t v u x : Term} → MayHold t v → MayHold u x → v ≡ x → t ≡ u
    same_term (clean r e) (clean s f) i = cc
    same_term (clean r e) (tried s f) i = absurd (clean_fresh r (sym f ∙ sym i ∙ e) (part_self w))
    same_term (clean r e) (formed h p q a b d x y j f) i = absurd (clean_fresh r (sym i ∙ e) j)
    same_term (tried r e) (clean s f) i = absurd (clean_fresh s (sym e ∙ i ∙ f) (part_self w))
    same_term (tried r e) (tried s f) i = cc
    same_term (tried r e) (formed h p q a b d x y j f) i = absurd (atom_not_node w_atom (sym e ∙ i ∙ f))
    same_term (formed h p q a b d x y j e) (clean s f) i = absurd (clean_fresh s (i ∙ f) j)
    same_term (formed h p q a b d x y j e) (tried s f) i = absurd (atom_not_node w_atom (sym f ∙ sym i ∙ e))
    same_term {t} {u = u} (formed h p q a b d x y j e) (formed h' p' q' a' b' d' x' y' j' e') i =
        same (cc) (same_term x x' (cc)) (same_term y y' (cc))
      where
        same : h ≡ h' → p ≡ p' → q ≡ q' → t ≡ u
        same k l m = step_det h p q t u (sound h p q t d) (rw (k, l, m) (sound h' p' q' u d'))

    -- a compound value of a term that is not clean: a step of the derivation formed it
    formed_by_lem : {p v : Term} {h : Head} {a b : Term} → MayHold p v → v ≡ node h a b → (Reach K p → v ≡ p → ⊥) →
        (p₁ q₁ : Term) × D h p₁ q₁ p × MayHold p₁ a × MayHold q₁ b
    formed_by_lem (clean r e) i f = absurd (f r e)
    formed_by_lem (tried r e) i f = absurd (atom_not_node w_atom (sym e ∙ i))
    formed_by_lem {p} {h = h} {a} {b} (formed h' p₁ q₁ a' b' d x y j e) i f =
        let k : h' ≡ h = cc in let l : a' ≡ a = cc in let m : b' ≡ b = cc in
        (p₁, q₁, subst (λ z. D z p₁ q₁ p) k d, subst (MayHold p₁) l x, subst (MayHold q₁) m y)

    -- what has a head that builds no message is not clean
    not_message : {p v : Term} {h : Head} {a b : Term} → v ≡ node h a b → (builds h a b → ⊥) → Reach K p → v ≡ p → ⊥
    not_message e f r i = f (subst Message (sym i ∙ e) (reach_message K messages r)).0

    -- a key is clean or the tried one, and nothing matches that
    key_clean : {q v : Term} → MayHold q v → is_key v → (v ≡ q) ⊎ (v ≡ w)
    key_clean (clean r e) k = inl e
    key_clean (tried r e) k = inr e
    key_clean (formed h p q a b d x y j e) k = absurd (subst is_key e k)

    unmatched : {q b : Term} → MayHold q b → Match asymmetric w b → ⊥
    unmatched y m = no_inverse m.0 y (subst (Part (inverse w)) (sym m.1) (part_self (inverse w)))

    -- keys whose values match are themselves a match
    match_back : (c : Cipher) {p q a b : Term} → MayHold p a → MayHold q b → Match c a b → Match c p q
    match_back symmetric x y m = same_term y x m
    match_back asymmetric {p} {q} {a} {b} x y m = go (key_clean x m.0) (key_clean y (match_sym asymmetric a b m).0)
      where
        go : (a ≡ p) ⊎ (a ≡ w) → (b ≡ q) ⊎ (b ≡ w) → Match asymmetric p q
        go (inl e) (inl f) = subst (λ z. Match asymmetric z q) e (subst (Match asymmetric a) f m)
        go (inl e) (inr f) = absurd (unmatched x (subst (λ z. Match asymmetric z a) f (match_sym asymmetric a b m)))
        go (inr e) f = absurd (unmatched y (subst (λ z. Match asymmetric z b) e m))

    -- the key of a clean value matches no tainted one
    encrypted_fresh : (c : Cipher) (b : Term) {p v r k : Term} → v ≡ node (make (encryption c)) r k → Match c k b → Part w v ⊎ Part w b → Reach K p → v ≡ p → ⊥
    encrypted_fresh c b f m (inl i) x e = clean_fresh x e i
    encrypted_fresh c b {p} {v = v} {r} {k} f m (inr i) x e =
        ⊎_elim (out w w_atom (λ t k p. is_fresh (t, k, inl p))) (out (inverse w) inverse_atomic (λ t k p. is_fresh (t, k, inr p))) (match_part c w k b m i)
      where
        out : (z : Term) → Atomic z → ((t : Term) → K t → Part z t → ⊥) → Part z k → ⊥
        out z l o j = reach_fresh K z l o x (subst (Part z) (sym f ∙ e) (inr (inr j)))

    -- both sides of an equation are tainted where one is
    both : {v u : Term} → v ≡ u → Part w v ⊎ Part w u → Part w v
    both e (inl i) = i
    both e (inr i) = subst (Part w) (sym e) i

    pick_may_hold : (i : Side) {p q a b : Term} → MayHold p a → MayHold q b → MayHold (pick i p q) (pick i a b)
    pick_may_hold left x y = x
    pick_may_hold right x y = y

    -- A reduction on a tainted value gives what the conclusion's register may hold, and the step undoes one of the derivation:
    -- the step that formed the operand that is reduced.
    reduced : (h : Head) (p q t : Term) {v u r : Term} → Executed h p q t v u → Part w v ⊎ Part w u → Reduces h v u r →
        MayHold t r × UndoesSome D h p t
    reduced (make pair) p q t {r = r} x taint red =
        let (p₀, p₁, d, x₀, x₁) = formed_by_lem x.first red.2 (not_message red.2 (λ f. f)) in
        let (q₀, q₁, d', y₀, y₁) = formed_by_lem x.second red.3 (not_message red.3 (λ f. f)) in
        let e : p₀ ≡ q₀ = same_term x₀ y₀ refl in
        let s = sound (make pair) p q t x.step in
        let s₁ = sound (part left) p₀ p₁ p d in
        let s₂ = sound (part right) q₀ q₁ q d' in
        let f : p₀ ≡ t = cc in
        (subst (λ z. MayHold z r) f x₀, (part left, p₀, p₁, p, d, inr (refl, f)))
    reduced (make hash) p q t x taint red = absurd red
    reduced (part i) p q t x taint red =
        let (p₁, q₁, d, x₁, y₁) = formed_by_lem x.first red.2 (λ k e. clean_fresh k e (both (x.once refl) taint)) in
        let s = sound (part i) p q t x.step in
        let s₁ = sound (make pair) p₁ q₁ p d in
        let f : p₁ ≡ s.0.0 = cc in
        let f' : q₁ ≡ s.0.1 = cc in
        (subst₂ MayHold (ap₂ (pick i) f f' ∙ sym s.0.3) (sym red.3) (pick_may_hold i x₁ y₁), (make pair, p₁, q₁, p, d, inl (refl, refl)))
    reduced (make (encryption c)) p q t {r = r} x taint red =
        let (p₁, q₁, d, x₁, y₁) = formed_by_lem x.first red.1 (not_message red.1 (λ f. f)) in
        let s = sound (make (encryption c)) p q t x.step in
        let s₁ = sound (decrypt c) p₁ q₁ p d in
        let e : q ≡ s₁.0 = match_det c _ _ _ (match_back c y₁ x.second red.2) (match_sym c _ _ s₁.2) in
        let f : p₁ ≡ t = cc in
        (subst (λ z. MayHold z r) f x₁, (decrypt c, p₁, q₁, p, d, inr (refl, f)))
    reduced (decrypt c) p q t {u = u} {r} x taint red =
        let (p₁, q₁, d, x₁, y₁) = formed_by_lem x.first red.1 (encrypted_fresh c u red.1 red.2 taint) in
        let s = sound (decrypt c) p q t x.step in
        let s₁ = sound (make (encryption c)) p₁ q₁ p d in
        let f : p₁ ≡ t = cc in
        (subst (λ z. MayHold z r) f x₁, (make (encryption c), p₁, q₁, p, d, inl (refl, refl)))

    -- a step on a tainted value
    tainted : {h : Head} {p q t v u : Term} → Executed h p q t v u → Part w v ⊎ Part w u →
        MayHold t (op h v u) × (UndoesSome D h p t ⊎ (op h v u ≡ node h v u))
    tainted {h} {p} {q} {t} {v} {u} x taint =
        ⊎_elim (λ o. let z = reduced h p q t x taint o.1 in (subst (MayHold t) (sym o.2) z.0, inl z.1))
        (λ e. (formed h p q v u x.step x.first x.second (subst (Part w) (sym e) (inr taint)) e, inr e)) (op_cases h v u)

    -- a step on two clean values
    cleaned : {h : Head} {p q t v u : Term} → D h p q t → Reach K p × (v ≡ p) → Reach K q × (u ≡ q) → Reach K t × (op h v u ≡ t)
    cleaned {h} {p} {q} {t} d (r, e) (r', f) =
        let s = sound h p q t d in
        (stepped h p q s r r', ap₂ (op h) e f ∙ step_op h p q t s (reach_message K messages r))

    -- a step's result is clean, or one of its operands is tainted
    either : {h : Head} {p q t v u : Term} → Executed h p q t v u → (Reach K t × (op h v u ≡ t)) ⊎ (Part w v ⊎ Part w u)
    either {h} {p} {q} {t} {v} {u} x = go (status x.first) (status x.second)
      where
        go : (Reach K p × (v ≡ p)) ⊎ Part w v → (Reach K q × (u ≡ q)) ⊎ Part w u → (Reach K t × (op h v u ≡ t)) ⊎ (Part w v ⊎ Part w u)
        go (inl c) (inl k) = inl (cleaned x.step c k)
        go (inl c) (inr i) = inr (inr i)
        go (inr i) k = inr (inl i)

    -- the result of every step is one that its register may hold
    pub op_may_hold : {h : Head} {p q t v u : Term} → Executed h p q t v u → MayHold t (op h v u)
    op_may_hold x = ⊎_elim (λ c. clean c.0 c.1) (λ i. (tainted x i).0) (either x)

    -- a step that undoes none forms its term where a value is tainted
    unreduced : {h : Head} {p q t v u : Term} → Executed h p q t v u → Part w v ⊎ Part w u → (UndoesSome D h p t → ⊥) → op h v u ≡ node h v u
    unreduced x taint f = ⊎_elim (λ z. absurd (f z)) (λ e. e) (tainted x taint).1

    -- ---- the verifying step: a premise is out of reach without the guess, and it undoes no step
    module _ {h : Head} {p q t v u : Term} (x : Executed h p q t v u) (hidden : OutOfReach K p q) (kept : UndoesSome D h p t → ⊥) where
      taint : Part w v ⊎ Part w u
      taint =
          ⊎_elim (λ f. ⊎_elim (λ c. absurd (f c.0)) (λ i. inl i) (status x.first))
          (λ f. ⊎_elim (λ c. absurd (f c.0)) (λ i. inr i) (status x.second)) hidden

      verified : op h v u ≡ node h v u
      verified = unreduced x taint kept

      -- way a: another step to the same conclusion has another value
      pub another_step_differs : {h' : Head} {p' q' v' u' : Term} → Executed h' p' q' t v' u' → (UndoesSome D h' p' t → ⊥) →
          (h ≡ h' → p ≡ p' → q ≡ q' → ⊥) → op h v u ≡ op h' v' u' → ⊥
      another_step_differs {h'} {v' = v'} {u'} y kept' differ e =
          ⊎_elim (λ c. clean_fresh c.0 (sym verified ∙ e ∙ c.1) (inr taint))
          (λ i. let l : node h v u ≡ node h' v' u' = sym verified ∙ e ∙ unreduced y i kept' in
          differ (cc) (same_term x.first y.first (cc)) (same_term x.second y.second (cc))) (either y)

      -- way b: a value at the start is another, that of the knowledge and the tried one
      pub at_start_differs : (z : Term) → K z ⊎ (z ≡ w) → op h v u ≡ z → ⊥
      at_start_differs z (inl k) e = is_fresh (z, k, inl (subst (Part w) (sym verified ∙ e) (inr taint)))
      at_start_differs z (inr k) e = atom_not_node w_atom (sym k ∙ sym e ∙ verified)

      -- way c: the value is no key
      pub verified_no_key : is_key (op h v u) → ⊥
      verified_no_key k = subst is_key verified k
