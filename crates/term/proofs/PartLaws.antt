-- Laws of parts: the test says what it tests, parts of parts are parts, and a table that holds a term holds its parts.
use mathlib.Core.Path.{◌≡◌, sym, ◌∙◌, subst}
use mathlib.Core.Logic.{inl, inr, ⊎_elim}
use Prim.Native.Nat.{ℕ, zero, suc, ◌<◌}
use native.Mathlib.Omega.{arith}
use Rattle.base.proofs.Says.{Says, says_or}
use Rattle.term.specs.{Term.Term, Term.atom, Term.node, Term.Rec, Term.leaf, Term.branch, Term.message, Computed.term?, Term.Part}
use Rattle.term.specs.Code.{Below, Table}
use Rattle.term.specs.Computed.{is_part}
use Rattle.term.proofs.Reduce.{says_test}

pub says_part : (x t : Term) → Says (is_part x t) (Part x t)
unfolding is_part
says_part x (atom κ n) = says_test (term? x (atom κ n))
says_part x (node h a b) = says_or _ _ (says_test (term? x (node h a b))) (says_or _ _ (says_part x a) (says_part x b))

pub part_trans : (x y t : Term) → Part x y → Part y t → Part x t
part_trans x y (atom κ n) p e = subst (Part x) e p
part_trans x y (node h a b) p (inl e) = subst (Part x) e p
part_trans x y (node h a b) p (inr (inl q)) = inr (inl (part_trans x y a p q))
part_trans x y (node h a b) p (inr (inr q)) = inr (inr (part_trans x y b p q))

-- M holds of the parts of a record
abbrev pub OfParts : (ℕ → Type 0) → Rec → Type 0
OfParts M (leaf κ n) = Unit {0}
OfParts M (branch h x y) = M x × M y

-- where M goes on from each record to its parts, every part of a term that has M is listed and has M
module _ {rec : ℕ → Rec} {N : ℕ} {T : ℕ → Term} (t : Table rec N T) (M : ℕ → Type 0) (goes_on : (n : ℕ) → n < N → M n → OfParts M (rec n)) (x : Term) where
  abbrev Found : Type 0
  Found = (m : ℕ) × (m < N) × (M m × (x ≡ T m))

  found_below : (k n : ℕ) → n < k → n < N → M n → Part x (T n) → Found
  found_below zero n l b h p = absurd (omega arith)
  found_below (suc k) n l b h p = go (rec n) (t.reads n b) (t.earlier n b) (goes_on n b h) (found_below k)
    where
      go : (r : Rec) → T n ≡ message T r → Below n r → OfParts M r → ((m : ℕ) → m < k → m < N → M m → Part x (T m) → Found) → Found
      go (leaf κ m) e c o ih = (n, b, (h, subst (Part x) e p ∙ sym e))
      go (branch g y z) e c o ih =
          ⊎_elim (λ f. (n, b, (h, f ∙ sym e)))
          (⊎_elim (ih y (omega arith) (omega arith) o.0) (ih z (omega arith) (omega arith) o.1))
          (subst (Part x) e p)

  pub part_listed : (n : ℕ) → n < N → M n → Part x (T n) → Found
  part_listed n = found_below (suc n) n (omega arith)
