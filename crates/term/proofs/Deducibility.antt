-- Deducible, exactly: what steps reach is what is built from the terms that taking apart gives.
use mathlib.Core.Path.{◌≡◌, sym, subst}
use mathlib.Core.Logic.{◌↔◌, ◌⊎◌, inl, inr, ⊎_elim}
use Rattle.term.specs.Term.{Cipher, Side, Form, pair, encryption, Head, make, part, decrypt, Term, node, Match, Operands, second, pick}
use Rattle.term.specs.Code.{builds}
use Rattle.term.specs.Step.{Step}
use Rattle.term.proofs.Reduce.{picked, Atomic, atom_not_node}
use Rattle.term.proofs.Reach.{Reach, known, stepped}

-- what is built from A
pub data Built (A : Term → Type 0) : Term → Type 0 where
  given : {t : Term} → A t → Built A t
  made : {t : Term} (f : Form) (a b : Term) → Operands (second f) a b → t ≡ node (make f) a b → Built A a → Built A b → Built A t

-- a term of a head that builds, from its operands
pub built_node : {A : Term → Type 0} {t a b : Term} (h : Head) → t ≡ node h a b → builds h a b → Built A a → Built A b → Built A t
built_node {a = a} {b} (make f) e o x y = made f a b o e x y
built_node (part s) e o x y = absurd o
built_node (decrypt c) e o x y = absurd o

-- A holds the knowledge K, is reached from it, and taking apart leads nowhere else
pub record Analysed (K A : Term → Type 0) : Type 0 where
  pub holds : (t : Term) → K t → A t
  pub reached : (t : Term) → A t → Reach K t
  pub taken : (i : Side) (x y : Term) → A (node (make pair) x y) → A (pick i x y)
  pub opened : (c : Cipher) (x k j : Term) → A (node (make (encryption c)) x k) → Match c k j → Built A j → A x

pub built_reach : {K A : Term → Type 0} → ((t : Term) → A t → Reach K t) → {t : Term} → Built A t → Reach K t
built_reach r {t} (given a) = r t a
built_reach r (made f a b o e x y) = stepped (make f) a b (o, e) (built_reach r x) (built_reach r y)

-- an atom has no parts to build it from
pub built_atom : {A : Term → Type 0} {t : Term} → Atomic t → Built A t → A t
built_atom k (given a) = a
built_atom k (made f a b o e x y) = absurd (atom_not_node k e)

-- a built term of a head is in A, or built from its parts
pub built_parts : {A : Term → Type 0} {p : Term} {h : Head} {a b : Term} → Built A p → p ≡ node h a b → A (node h a b) ⊎ (Built A a × Built A b)
built_parts {A} (given x) e = inl (subst A e x)
built_parts {A} {a = a} {b} (made f a' b' o i x y) e =
    let k : a' ≡ a = cc in
    let l : b' ≡ b = cc in
    inr (subst (Built A) k x, subst (Built A) l y)

module _ {K A : Term → Type 0} (z : Analysed K A) where
  built_step_lem : (h : Head) (p q t : Term) → Step h p q t → Built A p → Built A q → Built A t
  built_step_lem (make f) p q t s x y = made f p q s.0 s.1 x y
  built_step_lem (part i) p q t s x y =
      subst (Built A) (sym s.0.3)
      (⊎_elim (λ a. given (z.taken i s.0.0 s.0.1 a)) (λ u. picked (Built A) i u.0 u.1) (built_parts x s.0.2))
  built_step_lem (decrypt c) p q t s x y = ⊎_elim (λ a. given (z.opened c t s.0 q a s.2 y)) (λ u. u.0) (built_parts x s.1)

  reach_built : {t : Term} → Reach K t → Built A t
  reach_built {t} (known k) = given (z.holds t k)
  reach_built {t} (stepped h p q s x y) = built_step_lem h p q t s (reach_built x) (reach_built y)

  pub reach_is_built : (t : Term) → Reach K t ↔ Built A t
  reach_is_built t = (reach_built, built_reach z.reached)
