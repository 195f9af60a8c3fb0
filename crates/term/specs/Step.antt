-- Dolev-Yao steps over all terms, and finite lists of them: document 01, 'Dolev-Yao steps'.
use Rattle.std.specs.Prelude.{◌≡◌, ◌⊎◌, ◌∷◌}
use Rattle.base.specs.Words.{List, [], Option, none, some}
use Rattle.term.specs.Term.{pair, encryption, Head, make, part, decrypt, Term, node, second, Operands, Match, pick}

-- The table's rows: the rule h concludes t from the premises p and q. One premise alone counts as both.
abbrev pub Step : Head → Term → Term → Term → Type 0
Step (make f) p q t = Operands (second f) p q × (t ≡ node (make f) p q)
Step (part s) p q t = ((x y : Term) × (p ≡ node (make pair) x y) × (t ≡ pick s x y)) × (q ≡ p)
Step (decrypt c) p q t = (k : Term) × (p ≡ node (make (encryption c)) t k) × Match c k q

-- "a finite list of such steps reaches it": the premises of each step, and t, are in K or were concluded earlier
abbrev pub Reaches : (Term → Type 0) → List (Head × Term × Term × Term) → Term → Type 0
Reaches K [] t = K t
Reaches K ((h, p, q, c) ∷ ls) t = Step h p q c × K p × K q × Reaches (λ u. K u ⊎ (u ≡ c)) ls t

-- "A term is deducible if a finite list of such steps reaches it from the knowledge alone, over all terms"
abbrev pub Deducible : (Term → Type 0) → Term → Type 0
Deducible K t = (ls : List (Head × Term × Term × Term)) × Reaches K ls t

-- what a head takes apart, by the head that builds it: fst and snd a pair, dec and deca an encryption; A2: "Nothing undoes a hash"
abbrev pub taken_by : Head → Option Head
taken_by (make f) = none
taken_by (part s) = some (make pair)
taken_by (decrypt c) = some (make (encryption c))

-- "Undoing goes by terms, never by position": of a step of the rule h from p to t and one of the rule h' from p' to t', p and p' the first
-- premises, one takes apart the very term that the other builds
abbrev pub Undoes : Head → Term → Term → Head → Term → Term → Type 0
Undoes h p t h' p' t' = ((taken_by h ≡ some h') × (p ≡ t')) ⊎ ((taken_by h' ≡ some h) × (p' ≡ t))
