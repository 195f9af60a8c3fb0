-- The reductions as relations, and what the machine's step does: for any two heads that cancel, and for a pair and its parts.
use mathlib.Core.Path.{◌≡◌, refl, ap, ap₂, sym, ◌∙◌, subst}
use mathlib.Core.Logic.Dec
use mathlib.Core.Logic.{◌⊎◌, inl, inr, ⊎_elim, ite, if_pos}
use mathlib.Core.Bool.{false≢true, true, false}
use native.Mathlib.Omega.{arith}
use Prim.Native.Nat.{ℕ}
use Rattle.base.proofs.Says.{Says}
use Rattle.term.specs.{Term.Kind, Term.plain, Term.public, Term.private, Term.Cipher, Term.symmetric, Term.asymmetric, Term.Side, Term.left, Term.right, Term.Form, Term.pair, Term.hash, Term.encryption, Term.Head, Term.make, Term.part, Term.decrypt, Term.Term, Term.atom, Term.node, Term.single, Computed.term?, Computed.head?, Term.is_key, Term.inverse, Term.Match, Term.Part}
use Rattle.base.specs.Words.{ite}
use Rattle.term.specs.Code.{Message}
use Rattle.term.specs.Computed.{match?}
use Rattle.term.specs.Reduce.{cancelled, paired, parted, op}
use Rattle.term.specs.Term.{pick}
use Rattle.term.specs.Step.{Step}

-- a decision as a test says what was decided
pub says_test : {P : Type 0} (d : Dec P) → Says (ite d true false) P
says_test (yes p) = (λ e. p, λ x. refl)
says_test (no f) = (λ e. absurd (false≢true e), λ x. absurd (f x))

-- ---- keys that match determine each other
pub match_det : (c : Cipher) (k j j' : Term) → Match c k j → Match c k j' → j ≡ j'
match_det symmetric k j j' p q = cc
match_det asymmetric k j j' (f, p) (g, q) = cc

inverse_twice : (k : Term) → is_key k → is_key (inverse k) × (k ≡ inverse (inverse k))
inverse_twice (atom plain n) f = absurd f
inverse_twice (atom public n) f = (tt, refl)
inverse_twice (atom private n) f = (tt, refl)
inverse_twice (node h a b) f = absurd f

pub match_sym : (c : Cipher) (k j : Term) → Match c k j → Match c j k
match_sym symmetric k j m = sym m
match_sym asymmetric k j (f, e) = let (g, h) = inverse_twice k f in (subst is_key (sym e) g, h ∙ ap inverse (sym e))

-- ---- the reductions
-- a has the inner head over r, under a key that matches b
abbrev pub Cancels : Cipher → Head → Term → Term → Term → Type 0
Cancels c inner a b r = (k : Term) × (a ≡ node inner r k) × Match c k b

-- the head h over a and b is reduced to r
abbrev pub Reduces : Head → Term → Term → Term → Type 0
Reduces (make pair) a b r = (x y : Term) × (a ≡ node (part left) r x) × (b ≡ node (part right) r y)
Reduces (make hash) a b r = ⊥
Reduces (part s) a b r = (x y : Term) × (a ≡ node (make pair) x y) × (r ≡ pick s x y)
Reduces (make (encryption c)) a b r = Cancels c (decrypt c) a b r
Reduces (decrypt c) a b r = Cancels c (make (encryption c)) a b r

-- v is what a reduction gives, or the head over its operands
abbrev pub Outcome : Head → Term → Term → Term → Type 0
Outcome h a b v = ((r : Term) × Reduces h a b r × (v ≡ r)) ⊎ (v ≡ node h a b)

ite_cases : {P : Type 0} {C : Type 0} (d : Dec P) (x y : C) → (P × (ite d x y ≡ x)) ⊎ (ite d x y ≡ y)
ite_cases (yes p) x y = inl (p, refl)
ite_cases (no n) x y = inr refl

-- each scheme does one or the other
cancelled_cases : (c : Cipher) (inner outer : Head) (a b : Term) →
    ((r : Term) × Cancels c inner a b r × (cancelled c inner outer a b ≡ r)) ⊎ (cancelled c inner outer a b ≡ node outer a b)
unfolding cancelled
cancelled_cases c inner outer (atom κ n) b = inr refl
cancelled_cases c inner outer (node h x k) b =
    ⊎_elim (λ u. inl (x, (k, ap (λ z. node z x k) u.0.0, u.0.1), u.1)) (λ f. inr f)
    (ite_cases (Dec.and (head? h inner) (match? c k b)) x (node outer (node h x k) b))

parted_cases : (s : Side) (a b : Term) → Outcome (part s) a b (parted s a b)
unfolding parted
parted_cases s (atom κ n) b = inr refl
parted_cases s (node h x y) b =
    ⊎_elim (λ u. inl (pick s x y, (x, y, ap (λ z. node z x y) u.0, refl), u.1)) (λ f. inr f)
    (ite_cases (head? h (make pair)) (pick s x y) (node (part s) (node h x y) b))

paired_cases : (a b : Term) → Outcome (make pair) a b (paired a b)
unfolding paired
paired_cases (atom κ n) b = inr refl
paired_cases (node h x x') (atom κ n) = inr refl
paired_cases (node h x x') (node h' y y') =
    ⊎_elim (λ u. let e : node h' y y' ≡ node (part right) x y' = cc in inl (x, (x', y', ap (λ z. node z x x') u.0.0, e), u.1)) (λ f. inr f)
    (ite_cases (Dec.and (head? h (part left)) (Dec.and (head? h' (part right)) (term? y x))) x (node (make pair) (node h x x') (node h' y y')))

pub op_cases : (h : Head) (a b : Term) → Outcome h a b (op h a b)
unfolding op
op_cases (make pair) a b = paired_cases a b
op_cases (make hash) a b = inr refl
op_cases (make (encryption c)) a b = cancelled_cases c (decrypt c) (make (encryption c)) a b
op_cases (part s) a b = parted_cases s a b
op_cases (decrypt c) a b = cancelled_cases c (make (encryption c)) (decrypt c) a b

-- and reduces where it can
pub cancelled_reduced : (c : Cipher) (inner outer : Head) (x k b : Term) → Match c k b → cancelled c inner outer (node inner x k) b ≡ x
unfolding cancelled
cancelled_reduced c inner outer x k b m = if_pos (Dec.and (head? inner inner) (match? c k b)) (refl, m) x _

cancelled_reduces : (c : Cipher) (inner outer : Head) (a b r : Term) → Cancels c inner a b r → cancelled c inner outer a b ≡ r
cancelled_reduces c inner outer a b r u = ap (λ z. cancelled c inner outer z b) u.1 ∙ cancelled_reduced c inner outer r u.0 b u.2

pub parted_reduced : (s : Side) (x y b : Term) → parted s (node (make pair) x y) b ≡ pick s x y
unfolding parted
parted_reduced s x y b = refl

pub paired_reduced : (x y z : Term) → paired (node (part left) x y) (node (part right) x z) ≡ x
unfolding paired
paired_reduced x y z =
    if_pos (Dec.and (head? (part left) (part left)) (Dec.and (head? (part right) (part right)) (term? x x))) (refl, (refl, refl)) x _

pub op_reduces : (h : Head) (a b r : Term) → Reduces h a b r → op h a b ≡ r
unfolding op
op_reduces (make pair) a b r u = ap₂ paired u.2 u.3 ∙ paired_reduced r u.0 u.1
op_reduces (make hash) a b r u = absurd u
op_reduces (make (encryption c)) a b r u = cancelled_reduces c (decrypt c) (make (encryption c)) a b r u
op_reduces (part s) a b r u = ap (λ z. parted s z b) u.2 ∙ parted_reduced s u.0 u.1 b ∙ sym u.3
op_reduces (decrypt c) a b r u = cancelled_reduces c (make (encryption c)) (decrypt c) a b r u

-- ---- over messages a form reduces nothing, and the machine does what the rule says
message_unreduced : (f : Form) (a b r : Term) → Message a → Reduces (make f) a b r → ⊥
message_unreduced pair a b r p u = (subst Message u.2 p).0
message_unreduced hash a b r p u = u
message_unreduced (encryption c) a b r p u = (subst Message u.1 p).0

op_message : (f : Form) (a b : Term) → Message a → op (make f) a b ≡ node (make f) a b
op_message f a b p = ⊎_elim (λ u. absurd (message_unreduced f a b u.0 p u.1)) (λ e. e) (op_cases (make f) a b)

-- what holds of both parts holds of the one picked
pub picked : (P : Term → Type 0) (s : Side) {x y : Term} → P x → P y → P (pick s x y)
picked P left a b = a
picked P right a b = b

pub step_op : (h : Head) (p q t : Term) → Step h p q t → Message p → op h p q ≡ t
step_op (make f) p q t s m = op_message f p q m ∙ sym s.1
step_op (part i) p q t s f = op_reduces (part i) p q t s.0
step_op (decrypt c) p q t s f = op_reduces (decrypt c) p q t s

pub step_message : (h : Head) (p q t : Term) → Step h p q t → Message p → Message q → Message t
step_message (make k) p q t s f g = subst Message (sym s.1) (s.0, f, g)
step_message (part i) p q t s f g =
    let (b, x, y) = subst Message s.0.2 f in
    subst Message (sym s.0.3) (picked Message i x y)
step_message (decrypt c) p q t s f g = (subst Message s.1 f).1

-- and where it gives a message over messages, it did what the rule says; a head with one operand has it twice
reduced_step : (h : Head) (a b r : Term) → Reduces h a b r → Message a → (single h ≡ true → b ≡ a) → Step h a b r
reduced_step (make f) a b r u m o = absurd (message_unreduced f a b r m u)
reduced_step (part s) a b r u m o = (u, o refl)
reduced_step (decrypt c) a b r u m o = u

formed_step : (h : Head) (a b : Term) → Message (node h a b) → Step h a b (node h a b)
formed_step (make f) a b m = (m.0, refl)
formed_step (part s) a b m = absurd m.0
formed_step (decrypt c) a b m = absurd m.0

pub op_step : (h : Head) (a b : Term) → Message a → Message (op h a b) → (single h ≡ true → b ≡ a) → Step h a b (op h a b)
op_step h a b m n o = ⊎_elim
    (λ (r, u, e). subst (Step h a b) (sym e) (reduced_step h a b r u m o))
    (λ e. subst (Step h a b) (sym e) (formed_step h a b (subst Message e n)))
    (op_cases h a b)

-- a step's rule and premises determine its conclusion
pub step_det : (h : Head) (p q t u : Term) → Step h p q t → Step h p q u → t ≡ u
step_det (make f) p q t u s r = cc
step_det (part left) p q t u s r = cc
step_det (part right) p q t u s r = cc
step_det (decrypt c) p q t u s r = cc

-- ---- no step invents an atom
abbrev pub Atomic : Term → Type 0
Atomic t = (κ : Kind) × (n : ℕ) × (t ≡ atom κ n)

pub key_is_atom : (k : Term) → is_key k → Atomic k
key_is_atom (atom κ n) f = (κ, n, refl)
key_is_atom (node h a b) f = absurd f

pub atom_not_node : {x : Term} {h : Head} {a b : Term} → Atomic x → x ≡ node h a b → ⊥
atom_not_node (κ, n, f) e = let z : ◌≡◌ {A = ℕ} 0 1 = cc in omega arith

pub part_self : (t : Term) → Part t t
part_self (atom κ n) = refl
part_self (node h a b) = inl refl

pub part_node : (x : Term) (h : Head) (a b : Term) → Atomic x → Part x (node h a b) → Part x a ⊎ Part x b
part_node x h a b k (inl e) = absurd (atom_not_node k e)
part_node x h a b k (inr p) = p

pub step_part : (h : Head) (p q t x : Term) → Atomic x → Step h p q t → Part x t → Part x p ⊎ Part x q
step_part (make f) p q t x k s g = part_node x (make f) p q k (subst (Part x) s.1 g)
step_part (part i) p q t x k s f = inl (subst (Part x) (sym s.0.2) (inr (of i (subst (Part x) s.0.3 f))))
  where
    of : (i : Side) → Part x (pick i s.0.0 s.0.1) → Part x s.0.0 ⊎ Part x s.0.1
    of left g = inl g
    of right g = inr g
step_part (decrypt c) p q t x k s f = inl (subst (Part x) (sym s.1) (inr (inl f)))
