-- What steps reach from a knowledge, as an inductive definition, and that it is what finite lists of steps reach.
use mathlib.Core.Path.{◌≡◌, refl}
use mathlib.Core.Logic.{◌↔◌, ◌⊎◌, inl, inr, ⊎_elim}
use mathlib.Core.List.{List, [], ◌∷◌}
use Rattle.term.specs.Term.{Cipher, Side, pair, encryption, Head, make, part, decrypt, Term, node, Match, Part, pick}
use Rattle.term.specs.Code.{Message}
use Rattle.term.specs.Step.{Step, Reaches, Deducible}
use Rattle.term.proofs.Reduce.{Atomic, step_message, step_part}

pub data Reach (K : Term → Type 0) : Term → Type 0 where
  known : {t : Term} → K t → Reach K t
  stepped : {t : Term} (h : Head) (p q : Term) → Step h p q t → Reach K p → Reach K q → Reach K t

-- taking apart is by steps
pub reach_part : {K : Term → Type 0} (i : Side) {x y : Term} → Reach K (node (make pair) x y) → Reach K (pick i x y)
reach_part i {x} {y} r = stepped (part i) (node (make pair) x y) (node (make pair) x y) ((x, y, refl, refl), refl) r r

pub reach_opened : {K : Term → Type 0} (c : Cipher) {x k j : Term} → Reach K (node (make (encryption c)) x k) → Match c k j → Reach K j → Reach K x
reach_opened c {x} {k} {j} r m y = stepped (decrypt c) (node (make (encryption c)) x k) j (k, refl, m) r y

-- only messages, and only atoms of the knowledge, are reached from messages
module _ (K : Term → Type 0) where
  pub reach_message : ((t : Term) → K t → Message t) → {t : Term} → Reach K t → Message t
  reach_message f {t} (known k) = f t k
  reach_message f {t} (stepped h p q s a b) = step_message h p q t s (reach_message f a) (reach_message f b)

  pub reach_fresh : (x : Term) → Atomic x → ((t : Term) → K t → Part x t → ⊥) → {t : Term} → Reach K t → Part x t → ⊥
  reach_fresh x k f {t} (known m) i = f t m i
  reach_fresh x k f {t} (stepped h p q s a b) i = ⊎_elim (reach_fresh x k f a) (reach_fresh x k f b) (step_part h p q t x k s i)

-- ---- finite lists
-- what is reached from terms that are reached is reached
pub reach_reach : {J K : Term → Type 0} → ((u : Term) → J u → Reach K u) → {t : Term} → Reach J t → Reach K t
reach_reach f {t} (known k) = f t k
reach_reach f (stepped h p q s a b) = stepped h p q s (reach_reach f a) (reach_reach f b)

list_reach : (K : Term → Type 0) (ls : List (Head × Term × Term × Term)) (t : Term) → Reaches K ls t → Reach K t
list_reach K [] t k = known k
list_reach K ((h, p, q, c) ∷ ls) t (s, a, b, r) =
    reach_reach (λ u k. ⊎_elim (λ v. known v) (λ e. rw e (stepped h p q s (known a) (known b))) k)
    (list_reach (λ u. K u ⊎ (u ≡ c)) ls t r)

-- a list that goes on after p was reached: the steps to p come first
first_reach : {K : Term → Type 0} {p : Term} → Reach K p → (t : Term) (J : Term → Type 0) → ((u : Term) → K u → J u) →
    ((J' : Term → Type 0) → ((u : Term) → J u → J' u) → J' p → Deducible J' t) → Deducible J t
first_reach {p = p} (known k) t J f go = go J (λ u j. j) (f p k)
first_reach {p = p} (stepped h a b s x y) t J f go =
    first_reach x t J f (λ J₁ f₁ a₁. first_reach y t J₁ (λ u k. f₁ u (f u k)) (λ J₂ f₂ b₂.
    let (ls, r) = go (λ u. J₂ u ⊎ (u ≡ p)) (λ u j. inl (f₂ u (f₁ u j))) (inr refl) in
    ((h, a, b, p) ∷ ls, (s, f₂ a a₁, b₂, r))))

pub reach_iff : (K : Term → Type 0) (t : Term) → Reach K t ↔ Deducible K t
reach_iff K t = (λ r. first_reach r t K (λ u k. k) (λ J f j. ([], j)), λ d. list_reach K d.0 t d.1)
