-- The machine's step over nodes: each rule forms its own node, or a reduction gives one that is there.
use mathlib.Core.Path.{◌≡◌, refl, sym, ap, ap₂, ◌∙◌, subst}
use mathlib.Core.Bool.{Bool, true, false, ◌&&◌, false≢true}
use mathlib.Core.List.{[], ◌∷◌}
use mathlib.Core.Logic.Dec
use mathlib.Core.Logic.{if_neg}
use Prim.Native.Nat.{ℕ, ◌+◌, ◌<◌}
use native.Mathlib.Omega.{arith}
use Rattle.base.proofs.Says.{Says, says_true, says_eqb, says_and, denies}
use Rattle.term.specs.{Term.Cipher, Term.symmetric, Term.asymmetric, Term.Side, Term.left, Term.right, Term.pair, Term.hash, Term.encryption, Term.Head, Term.make, Term.part, Term.decrypt, Term.Term, Term.atom, Term.node, Computed.head?, Computed.term?, Term.Match}
use Rattle.base.specs.Words.{ite, grow}
use Rattle.term.specs.Code.{Below, rule_of}
use Rattle.term.specs.Computed.{match?}
use Rattle.term.specs.Reduce.{cancelled, paired, parted, op}
use Rattle.term.specs.Term.{pick, Rec, leaf, branch, message}
use Rattle.term.specs.Number.{rules, head_of}
use Rattle.term.proofs.Reduce.{says_test, cancelled_reduced, parted_reduced, paired_reduced}
use Rattle.term.proofs.Numbered.{same_below, Arms, choice}
use Rattle.term.proofs.Rule.{rule_head}
use Rattle.term.proofs.Table.{decode_inj}
use Rattle.machine.specs.declared.Node.{Node}
use Rattle.machine.specs.declared.Operands.{Operands}
use Rattle.std.specs.Prelude.{Option as Maybe, Some, None}
use Rattle.std.specs.Bool.{then_some}
use Rattle.machine.specs.declared.Machine.{Machine}
use Rattle.machine.specs.declared.Head.{Head as NodeHead}
use Rattle.machine.specs.declared.Head.TheVariants.{Atom, Word}
use Rattle.machine.specs.Code.{record_for, node_for, is_word, reduced, parts_of_one, match_nodes, Valued, Placed}
use Rattle.machine.proofs.Theory.StateMeaning.{operands_in, node_in, node_at, term_at, SoundState, Gives}
use Rattle.machine.proofs.Theory.NodeRecords.{compound_below, compound_term, compound_node}
use Rattle.machine.proofs.Theory.NodeSearch.{Absent, placed_there, placed_gives}
use Rattle.machine.proofs.Theory.StateGrowth.{Fit}
use Rattle.machine.proofs.Theory.KeyNodes.{keys_match}

-- the numbers of two nodes of the state m
pub record Ready (m : Machine) (a b : ℕ) : Type 0 where
  pub sound : SoundState m
  pub left : a < m.nodes.used
  pub right : b < m.nodes.used

-- what the head h over the nodes a and b reduces to in the state m, where it does
pub record Reduct (m : Machine) (h : Head) (a b : ℕ) (x : Maybe ℕ) : Type 0 where
  pub there : (n : ℕ) → x ≡ Some n → (n < m.nodes.used) × (op h (term_at m a) (term_at m b) ≡ term_at m n)
  pub nothing : x ≡ None → op h (term_at m a) (term_at m b) ≡ node h (term_at m a) (term_at m b)

-- ---- a rule's own node
abbrev pub form : ℕ → ℕ → ℕ → Node
form rule a b = record { head = Word rule; left = a; right = b }

form_record : (rule a b : ℕ) → record_for (form rule a b) ≡ branch (head_of rule) a b
unfolding record_for
form_record rule a b = refl

module _ {m : Machine} {rule a b : ℕ} (w : Ready m a b) (l : rule < rules) where
  form_fit : Fit m (form rule a b)
  form_fit = record {
    sound = w.sound;
    canonical = rw (form_record rule a b, rule_head rule l);
    low = rw (form_record rule a b) (w.left, w.right);
  }

  -- a node comes after its left operand
  form_absent : Absent m (form rule a b) (a + 1)
  form_absent = record { none = λ k i e. let z : (a < k) × (b < k) = subst (Below k) (ap record_for e ∙ form_record rule a b) (w.sound.table.earlier k (omega (arith, w.left))) in omega (arith, z.0) }

  -- the result: what the rule's word reduces to, or its own node
  pub result_gives : {r : Machine} (x o : Maybe ℕ) → Reduct m (head_of rule) a b x → Valued m.nodes (form rule a b) x o → Placed m (form rule a b) o r → Gives m (op (head_of rule) (term_at m a) (term_at m b)) r
  result_gives (Some n) o d h v =
      let (l, t) = d.there n refl in
      rw t (placed_there {v = form rule a b} w.sound l (rw h at v))
  result_gives None o d h v = rw (d.nothing refl, ← (ap (message (term_at m)) (form_record rule a b))) (placed_gives (a + 1) form_fit form_absent o h v)

-- ---- whether a rule reduces, by a test
when_reduct : {m : Machine} {h : Head} {a b : ℕ} (t : Bool) (n : ℕ) → (t ≡ true → (n < m.nodes.used) × (op h (term_at m a) (term_at m b) ≡ term_at m n)) →
    (t ≡ false → op h (term_at m a) (term_at m b) ≡ node h (term_at m a) (term_at m b)) → Reduct m h a b (then_some t n)
when_reduct true n f g = record {
  there = λ k e. let q : n ≡ k = cc in rw (← q) (f refl);
  nothing = λ e. absurd (let z : ◌≡◌ {A = ℕ} 0 1 = cc in omega arith);
}
when_reduct false n f g = record { there = λ k e. absurd (let z : ◌≡◌ {A = ℕ} 0 1 = cc in omega arith); nothing = λ e. g refl }

-- ---- a node of this head, as it was read
says_word : (h : NodeHead) (r : ℕ) → Says (is_word h r) (h ≡ Word r)
says_word (Atom k) r = (λ e. absurd (false≢true e), λ e. absurd (let z : ◌≡◌ {A = ℕ} 0 1 = cc in omega arith))
says_word (Word q) r = (λ e. ap Word ((says_eqb q r).0 e), λ e. (says_eqb q r).1 (let z : q ≡ r = cc in z))

module _ (h : Head) {m : Machine} {a : ℕ} {x : Node} (w : SoundState m) (l : a < m.nodes.used) (e : x ≡ node_in m a) (q : x.head ≡ Word (rule_of h)) where
  head_is : (node_in m a).head ≡ Word (rule_of h)
  head_is = sym (ap (λ z. z.head) e) ∙ q

  left_below : x.left < m.nodes.used
  left_below = rw e (compound_below w l h head_is).0

  right_below : x.right < m.nodes.used
  right_below = rw e (compound_below w l h head_is).1

  term_is : term_at m a ≡ node h (term_at m x.left) (term_at m x.right)
  term_is = rw e (compound_term w l h head_is)

-- a compound term's node, as it was read
read_node : {m : Machine} {a : ℕ} {x : Node} {h : Head} {p q : Term} → SoundState m → a < m.nodes.used → x ≡ node_in m a → term_at m a ≡ node h p q →
    (x.head ≡ Word (rule_of h)) × (term_at m x.left ≡ p) × (term_at m x.right ≡ q)
read_node w l e f = rw e (compound_node w l f)

-- a node's right operand is a node, and an atom has 0 there
pub right_part_in : (m : Machine) (a : ℕ) → SoundState m → a < m.nodes.used → m.nodes.used < 384 → (node_in m a).right < 384
right_part_in m a w l h = go (node_at m a) refl
  where
    go : (r : Rec) → node_at m a ≡ r → (node_in m a).right < 384
    go (leaf κ n) q = let z : (node_in m a).right ≡ 0 = ap (λ z. z.right) (sym (w.canonical a l) ∙ ap node_for q) in omega arith
    go (branch f u v) q =
        let z : (node_in m a).right ≡ v = ap (λ z. z.right) (sym (w.canonical a l) ∙ ap node_for q) in
        let y : (u < a) × (v < a) = subst (Below a) q (w.table.earlier a l) in
        omega (arith, y.1)

-- ---- heads that cancel
cancel_none : (c : Cipher) (inner outer : Head) (a b : Term) → ((x k : Term) → a ≡ node inner x k → Match c k b → ⊥) → cancelled c inner outer a b ≡ node outer a b
unfolding cancelled
cancel_none c inner outer (atom κ n) b f = refl
cancel_none c inner outer (node h x k) b f =
    if_neg (Dec.and (head? h inner) (match? c k b)) (λ u. f x k (ap (λ z. node z x k) u.0) u.1) x (node outer (node h x k) b)

-- the head h cancels the head g
module _ (c : Cipher) (g h : Head) (steps : (a b : Term) → op h a b ≡ cancelled c g h a b) where
  cancel_reduct : {m : Machine} {a b : ℕ} {x k y : Node} {r : Maybe ℕ} → Ready m a b → x ≡ node_in m a → k ≡ node_in m x.right → y ≡ node_in m b →
      r ≡ then_some (is_word x.head (rule_of g) && match_nodes c x.right b k y) x.left → Reduct m h a b r
  cancel_reduct {m} {a} {b} {x} {k} {y} w e f i q = rw q (when_reduct _ _ here other)
    where
      match_is : x.head ≡ Word (rule_of g) → match_nodes c x.right b k y ≡ ite (match? c (term_at m x.right) (term_at m b)) true false
      match_is u = keys_match w.sound (right_below g w.sound w.left e u) w.right c f i

      here : (is_word x.head (rule_of g) && match_nodes c x.right b k y) ≡ true → (x.left < m.nodes.used) × (op h (term_at m a) (term_at m b) ≡ term_at m x.left)
      here t =
          let (u, v) = (says_and _ _ (says_word x.head (rule_of g)) (says_true (match_nodes c x.right b k y))).0 t in (
            left_below g w.sound w.left e u,
            steps _ _ ∙ ap (λ t. cancelled c g h t (term_at m b)) (term_is g w.sound w.left e u)
                ∙ cancelled_reduced c g h _ _ _ ((says_test (match? c _ _)).0 (sym (match_is u) ∙ v)),
          )

      other : (is_word x.head (rule_of g) && match_nodes c x.right b k y) ≡ false → op h (term_at m a) (term_at m b) ≡ node h (term_at m a) (term_at m b)
      other t =
          steps _ _ ∙ cancel_none c g h _ _ (λ z j s u.
          let d = read_node w.sound w.left e s in
          let o : match_nodes c x.right b k y ≡ false = rw ((says_word _ _).1 d.0) at t in
          (denies _ (says_test (match? c _ _))).0 (sym (match_is d.0) ∙ o) (subst (λ z. Match c z (term_at m b)) (sym d.2) u))

-- ---- a pair of parts
pair_none : (a b : Term) → ((x p q : Term) → a ≡ node (part left) x p → b ≡ node (part right) x q → ⊥) → paired a b ≡ node (make pair) a b
unfolding paired
pair_none (atom κ n) b f = refl
pair_none (node h x p) (atom κ n) f = refl
pair_none (node h x p) (node h' y q) f =
    if_neg (Dec.and (head? h (part left)) (Dec.and (head? h' (part right)) (term? y x)))
    (λ u. f x p q (ap (λ z. node z x p) u.0) (ap₂ (λ z v. node z v q) u.1.0 u.1.1)) x (node (make pair) (node h x p) (node h' y q))

says_parts : (x y : Node) → Says (parts_of_one x y) ((x.head ≡ Word (rule_of (part left))) × ((y.head ≡ Word (rule_of (part right))) × (x.left ≡ y.left)))
unfolding parts_of_one
says_parts x y = says_and _ _ (says_word _ _) (says_and _ _ (says_word _ _) (says_eqb _ _))

pair_reduct : {m : Machine} {a b : ℕ} {x y : Node} {r : Maybe ℕ} → Ready m a b → x ≡ node_in m a → y ≡ node_in m b → r ≡ then_some (parts_of_one x y) x.left → Reduct m (make pair) a b r
unfolding op
pair_reduct {m} {a} {b} {x} {y} w e g q = rw q (when_reduct _ _ here other)
  where
    here : parts_of_one x y ≡ true → (x.left < m.nodes.used) × (paired (term_at m a) (term_at m b) ≡ term_at m x.left)
    here t =
        let u = (says_parts x y).0 t in (
          left_below (part left) w.sound w.left e u.0,
          ap₂ paired (term_is (part left) w.sound w.left e u.0) (term_is (part right) w.sound w.right g u.1.0
              ∙ ap (λ z. node (part right) (term_at m z) (term_at m y.right)) (sym u.1.1)) ∙ paired_reduced _ _ _,
        )

    other : parts_of_one x y ≡ false → paired (term_at m a) (term_at m b) ≡ node (make pair) (term_at m a) (term_at m b)
    other t = pair_none _ _ (λ z p k i j.
        let u = read_node w.sound w.left e i in
        let v = read_node w.sound w.right g j in
        (denies _ (says_parts x y)).0 t (
          u.0,
          (
            v.0,
            decode_inj w.sound.table _ _ (left_below (part left) w.sound w.left e u.0) (left_below (part right) w.sound w.right g v.0) (u.1 ∙ sym v.1),
          ),
        ))

-- ---- a part of a pair
part_none : (s : Side) (a b : Term) → ((x y : Term) → a ≡ node (make pair) x y → ⊥) → parted s a b ≡ node (part s) a b
unfolding parted
part_none s (atom κ n) b f = refl
part_none s (node h x y) b f = if_neg (head? h (make pair)) (λ u. f x y (ap (λ z. node z x y) u)) _ _

picked : (T : ℕ → Term) (s : Side) (x y : ℕ) → pick s (T x) (T y) ≡ T (pick s x y)
picked T left x y = refl
picked T right x y = refl

part_reduct : {m : Machine} {a b : ℕ} {x : Node} {r : Maybe ℕ} (s : Side) → Ready m a b → x ≡ node_in m a →
    r ≡ then_some (is_word x.head (rule_of (make pair))) (pick s x.left x.right) → Reduct m (part s) a b r
unfolding op
part_reduct {m} {a} {b} {x} s w e q = rw q (when_reduct _ _ here other)
  where
    below : (s : Side) → x.head ≡ Word (rule_of (make pair)) → pick s x.left x.right < m.nodes.used
    below left h = left_below (make pair) w.sound w.left e h
    below right h = right_below (make pair) w.sound w.left e h

    here : is_word x.head (rule_of (make pair)) ≡ true →
        (pick s x.left x.right < m.nodes.used) × (parted s (term_at m a) (term_at m b) ≡ term_at m (pick s x.left x.right))
    here t =
        let h = (says_word x.head (rule_of (make pair))).0 t in
        (below s h, ap (λ z. parted s z (term_at m b)) (term_is (make pair) w.sound w.left e h) ∙ parted_reduced s _ _ _ ∙ picked (term_at m) s _ _)

    other : is_word x.head (rule_of (make pair)) ≡ false → parted s (term_at m a) (term_at m b) ≡ node (part s) (term_at m a) (term_at m b)
    other t = part_none s _ _ (λ y z f. (denies _ (says_word x.head (rule_of (make pair)))).0 t (read_node w.sound w.left e f).0)

-- ---- the reductions
-- what the head h over the nodes a and b reduces to
pub reduct : {m : Machine} {a b : ℕ} (h : Head) → Ready m a b → Reduct m h a b (reduced h (operands_in m a b) b)
unfolding op
reduct (make pair) w = pair_reduct w refl refl refl
reduct (make hash) w = record { there = λ k e. absurd (let z : ◌≡◌ {A = ℕ} 0 1 = cc in omega arith); nothing = λ u. refl }
reduct (make (encryption c)) w = cancel_reduct c (decrypt c) (make (encryption c)) (λ a b. refl) w refl refl refl refl
reduct (part s) w = part_reduct s w refl refl
reduct (decrypt c) w = cancel_reduct c (make (encryption c)) (decrypt c) (λ a b. refl) w refl refl refl refl

-- the rules' reductions, as the code has them: the arms, and no other rule reduces
module _ (o : Operands) (j : ℕ) where
  abbrev pub reductions : Arms (Maybe ℕ)
  reductions =
      (rule_of (make pair), reduced (make pair) o j)
      ∷ (rule_of (part left), reduced (part left) o j)
      ∷ (rule_of (part right), reduced (part right) o j)
      ∷ (rule_of (make (encryption symmetric)), reduced (make (encryption symmetric)) o j)
      ∷ (rule_of (decrypt symmetric), reduced (decrypt symmetric) o j)
      ∷ (rule_of (make (encryption asymmetric)), reduced (make (encryption asymmetric)) o j)
      ∷ (rule_of (decrypt asymmetric), reduced (decrypt asymmetric) o j)
      ∷ []

  pub reduction : {n : ℕ} {r f : Maybe ℕ} → n < rules → r ≡ f → f ≡ choice reductions None n → r ≡ reduced (head_of n) o j
  unfolding head_of grow
  reduction {n} l d e = d ∙ e ∙ sym (same_below (λ n. reduced (head_of n) o j) (choice reductions None) rules refl n l)
