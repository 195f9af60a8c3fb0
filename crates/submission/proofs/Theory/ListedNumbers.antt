-- The number of a term: where it is listed it is the only one. And a listed term by its record.
use mathlib.Core.Path.{◌≡◌, refl, sym, ap, ◌∙◌}
use mathlib.Core.Bool.{true, false, false≢true, true≢false}
use mathlib.Core.Option.{Option, none, some}
use mathlib.Core.List.{List}
use Prim.Native.Nat.{ℕ, ◌<◌}
use native.Mathlib.Omega.{arith}
use Rattle.base.proofs.{Says.Says, Says.denies, First.first_none, First.first_some, First.first_found}
use Rattle.term.specs.{Term.Term, Term.Shape, Term.shape, Term.message, Number.shape_of, Computed.term?}
use Rattle.term.proofs.Reduce.{says_test}
use Rattle.submission.specs.Record.{terms, kind_at, x_at, y_at, name_at, record_of, term, is_numbered, number_in, is_unlisted}
use Rattle.submission.proofs.Theory.ListedTerms.{Listed, term_at_lem, shape_of_lem}

pub says_term : (s : List ℕ) (t : Term) (n : ℕ) → Says (is_numbered s t n) (t ≡ term s n)
says_term s t n = says_test (term? t (term s n))

module _ (s : List ℕ) (t : Term) where
  pub number_some : (n : ℕ) → number_in s t ≡ some n → (n < terms s) × (t ≡ term s n)
  unfolding number_in
  number_some n e = let (l, h, _) = first_some (is_numbered s t) (terms s) n e in (l, (says_term s t n).0 h)

  pub number_none : number_in s t ≡ none → (n : ℕ) → n < terms s → t ≡ term s n → ⊥
  unfolding number_in
  number_none e n l = (denies _ (says_term s t n)).0 (first_none (is_numbered s t) (terms s) e n l)

  pub says_unlisted : Says (is_unlisted s t) ((n : ℕ) → n < terms s → t ≡ term s n → ⊥)
  says_unlisted = go (number_in s t) refl
    where
      go : (o : Option ℕ) → number_in s t ≡ o → Says (elim o [ none ↦ true | some n ↦ false ]) ((n : ℕ) → n < terms s → t ≡ term s n → ⊥)
      go none e = (λ _. number_none e, λ _. refl)
      go (some n) e = (λ x. absurd (false≢true x), λ f. let (l, h) = number_some n e in absurd (f n l h))

  -- so a term that is listed has a number,
  pub has_number : is_unlisted s t ≡ false → (n : ℕ) × (number_in s t ≡ some n)
  has_number = go (number_in s t) refl
    where
      go : (o : Option ℕ) → number_in s t ≡ o → elim o [ none ↦ true | some n ↦ false ] ≡ false → (n : ℕ) × (number_in s t ≡ some n)
      go none e x = absurd (true≢false x)
      go (some n) e x = (n, e)

  -- and the only one
  pub number_unique : Listed s → (n : ℕ) → n < terms s → t ≡ term s n → number_in s t ≡ some n
  unfolding number_in
  number_unique z n l e =
      let (k, f, b, h) = first_found (is_numbered s t) (terms s) n l ((says_term s t n).1 e) in
      f ∙ ap some (z.same_number k n (omega arith) l (sym ((says_term s t k).0 h) ∙ e))

module _ {s : List ℕ} (z : Listed s) where
  -- a listed term, by its record's shape
  pub record_term : (i : ℕ) (o : Shape) → i < terms s → shape_of (kind_at s i) ≡ some o → term s i ≡ message (term s) (record_of (some o) (name_at s i) (x_at s i) (y_at s i))
  record_term = term_at_lem s z.bytes z.good z.table

  pub listed_shape : (i : ℕ) → i < terms s → shape (term s i) ≡ shape_of (kind_at s i)
  listed_shape = shape_of_lem s z.bytes z.good z.table
