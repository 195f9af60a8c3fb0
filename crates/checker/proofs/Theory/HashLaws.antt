-- A2's promises hold.
use mathlib.Core.Path.{◌≡◌, refl, sym, ap, ◌∙◌, subst}
use mathlib.Core.Logic.{◌↔◌, ◌⊎◌, inl, inr, ⊎_elim}
use mathlib.Core.Bool.{true, cond, false≢true}
use mathlib.Core.List.{List, [], ◌∷◌, ◌++◌, append-nil}
use mathlib.Core.Option.{some}
use Prim.Native.Nat.{ℕ, ◌+◌, ◌≤◌, ◌<◌}
use native.Mathlib.Omega.{arith}
use Rattle.base.specs.Words.{Bytes}
use Rattle.base.specs.Answer.{Clear}
use Rattle.base.proofs.RefusalLaws.{passes_iff}
use Rattle.term.specs.Term.{symmetric, pair, hash, encryption, Form, Head, make, part, decrypt, Term, atom, node, Part, compound}
use Rattle.term.specs.Reduce.{op}
use Rattle.term.specs.Step.{Step, Deducible, Undoes}
use Rattle.term.specs.Number.{shape_of, head_of, has_one, word_of}
use Rattle.term.proofs.KindLaws.{kind_shape}
use Rattle.term.proofs.Reduce.{Reduces, op_cases}
use Rattle.term.proofs.Reach.{known, stepped, reach_opened, reach_iff}
use Rattle.term.proofs.Deducibility.{Built, given, made, Analysed, reach_is_built}
use Rattle.submission.specs.Record.{terms, kind_at, x_at, y_at, rule_at, q_at, term}
use Rattle.submission.specs.Check.{Shaped, rows1to4}
use Rattle.submission.proofs.Theory.ListedTerms.{listed, compound_term}
use Rattle.submission.proofs.Theory.ReadingRows.{tells_1_to_4}
use Rattle.derivation.specs.Step.{first_premise, second_premise, concluded, Premise, StepFits}
use Rattle.program.specs.Program.{Instruction}
use Rattle.text.specs.Text.{space, newline, register_text, second_text, step_line}
use Rattle.checker.specs.Hash.{hash_of, enc_of, HashPromise}

-- ---- records and steps of a submission
hash_listed : (s : List ℕ) → Bytes s → Clear (rows1to4 s) → (n : ℕ) → n < terms s → kind_at s n ≡ 7 →
    (y_at s n ≡ 0) × ((x_at s n < n) × (term s n ≡ hash_of (term s (x_at s n))))
hash_listed s b c n l k =
    let z = listed s b ((passes_iff (tells_1_to_4 s b)).1 c) in
    let g = z.good n l in
    let e : some g.shape ≡ some (compound hash) = sym g.has ∙ ap shape_of k ∙ kind_shape (compound hash) in
    let o : g.shape ≡ compound hash = cc in
    let f : Shaped s n (compound hash) = subst (Shaped s n) o g.fits in
    (f.1, (f.0, (compound_term z n hash l k).2))

hash_concludes : (s : List ℕ) (i : ℕ) → rule_at s i ≡ 7 → StepFits s i →
    (q_at s i ≡ 0) × ((concluded s i ≡ hash_of (first_premise s i)) × ((x : Term) → Premise s i x → x ≡ first_premise s i))
unfolding has_one head_of
hash_concludes s i e w =
    let f : Step (make hash) (first_premise s i) (second_premise s i) (concluded s i) =
    subst (λ h. Step h (first_premise s i) (second_premise s i) (concluded s i)) (ap head_of e) w.step in
    (w.unused (ap has_one e), (f.1 ∙ ap (node (make hash) (first_premise s i)) f.0, λ x. ⊎_elim (λ u. u) (λ u. u ∙ f.0)))

-- ---- steps over all terms
hash_parts : (x t : Term) → Part x (hash_of t) ↔ ((x ≡ hash_of t) ⊎ Part x t)
hash_parts x t = (⊎_elim (λ e. inl e) (λ p. inr (⊎_elim (λ u. u) (λ u. u) p)), ⊎_elim (λ e. inl e) (λ p. inr (inl p)))

hash_kept : (h : Head) (p t p' t' : Term) → Undoes h p t (make hash) p' t' → ⊥
hash_kept (make f) p t p' t' (inl (e, _)) = let z : ◌≡◌ {A = ℕ} 0 1 = cc in omega arith
hash_kept (part i) p t p' t' (inl (e, _)) = let z : ◌≡◌ {A = ℕ} 0 1 = cc in omega arith
hash_kept (decrypt c) p t p' t' (inl (e, _)) = let z : ◌≡◌ {A = ℕ} 0 1 = cc in omega arith
hash_kept h p t p' t' (inr (e, _)) = let z : ◌≡◌ {A = ℕ} 0 1 = cc in omega arith

hash_shut : (h : Head) (x q c : Term) → Step h (hash_of x) q c → (f : Form) × (c ≡ node (make f) (hash_of x) q)
hash_shut (make f) x q c s = (f, s.1)
hash_shut (part i) x q c ((y, z, e, f), g) = absurd (let o : ◌≡◌ {A = ℕ} 0 1 = cc in omega arith)
hash_shut (decrypt c') x q c (k, e, m) = absurd (let o : ◌≡◌ {A = ℕ} 0 1 = cc in omega arith)

hash_built : (K : Term → Type 0) (x : Term) → Deducible K x → Deducible K (hash_of x)
hash_built K x d = let r = (reach_iff K x).1 d in (reach_iff K (hash_of x)).0 (stepped (make hash) x x (refl, refl) r r)

hash_opened : (K : Term → Type 0) (t x : Term) → Deducible K (enc_of t (hash_of x)) → Deducible K x → Deducible K t
hash_opened K t x d e =
    (reach_iff K t).0 (reach_opened symmetric ((reach_iff K (enc_of t (hash_of x))).1 d) refl ((reach_iff K (hash_of x)).1 (hash_built K x e)))

-- ---- one way: nothing is taken out of a hash, and what is built from it is at least as large
size : Term → ℕ
size (atom κ n) = 1
size (node h a b) = size a + size b + 1

module _ (x : Term) where
  abbrev Alone : Term → Type 0
  Alone t = t ≡ hash_of x

  analysed : Analysed Alone Alone
  analysed = record {
    holds = λ t e. e;
    reached = λ t e. known e;
    taken = λ i a b e. absurd (let o : ◌≡◌ {A = ℕ} 0 1 = cc in omega arith);
    opened = λ c a k j e m b. absurd (let o : ◌≡◌ {A = ℕ} 0 1 = cc in omega arith);
  }

  built_larger : {t : Term} → Built Alone t → size (hash_of x) ≤ size t
  unfolding size
  built_larger (given e) = omega (arith, ap size e)
  built_larger (made f a b o e u v) = omega (arith, ap size e, built_larger u)

  alone_hides : Deducible Alone x → ⊥
  unfolding size
  alone_hides d = omega (arith, built_larger ((reach_is_built analysed x).0 ((reach_iff Alone x).1 d)))

-- ---- the machine
hash_no_reduct : (h : Head) (x b r : Term) → Reduces h (hash_of x) b r → ⊥
hash_no_reduct (make pair) x b r (y, z, e, f) = let o : ◌≡◌ {A = ℕ} 0 1 = cc in omega arith
hash_no_reduct (make hash) x b r u = u
hash_no_reduct (make (encryption c)) x b r (k, e, m) = let o : ◌≡◌ {A = ℕ} 0 1 = cc in omega arith
hash_no_reduct (part i) x b r (y, z, e, f) = let o : ◌≡◌ {A = ℕ} 0 1 = cc in omega arith
hash_no_reduct (decrypt c) x b r (k, e, m) = let o : ◌≡◌ {A = ℕ} 0 1 = cc in omega arith

hash_irreducible : (h : Head) (x b : Term) → op h (hash_of x) b ≡ node h (hash_of x) b
hash_irreducible h x b = ⊎_elim (λ (r, u, e). absurd (hash_no_reduct h x b r u)) (λ e. e) (op_cases h (hash_of x) b)

-- ---- the text
one_register : (l : List ℕ) (rule second : ℕ) → has_one rule ≡ true → l ++ second_text rule second ≡ l
one_register l rule second e = ap (λ b. l ++ cond b [] (space ++ register_text second)) e ∙ append-nil l

hash_printed : (r : ℕ) (i : Instruction) → i.rule ≡ 7 →
    step_line r i ≡ register_text r ++ space ++ (0x3D ∷ []) ++ space ++ (0x68 ∷ 0x61 ∷ 0x73 ∷ 0x68 ∷ []) ++ space ++ register_text i.left ++ newline
unfolding step_line word_of has_one head_of
hash_printed r i e =
    ap (λ l. l ++ newline) (one_register (line (word_of i.rule)) i.rule i.right (ap has_one e)) ∙ ap (λ w. line w ++ newline) (ap word_of e)
  where
    line : List ℕ → List ℕ
    line w = register_text r ++ space ++ (0x3D ∷ []) ++ space ++ w ++ space ++ register_text i.left

pub hash_promise : HashPromise
unfolding op
hash_promise = record {
  listed = hash_listed;
  concludes = hash_concludes;
  parts = hash_parts;
  key_of5 = λ t x. (refl, refl);
  not_of6 = λ t x c s. false≢true s.0;
  built = hash_built;
  opened = hash_opened;
  kept = hash_kept;
  keeps = λ h p t p' t' u. hash_kept h p' t' p t (⊎_elim (λ e. inr e) (λ e. inl e) u);
  shut = hash_shut;
  one_way = alone_hides;
  unreduced = λ a b. refl;
  irreducible = hash_irreducible;
  printed = hash_printed;
}
