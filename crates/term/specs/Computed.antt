-- Decisions and tests of what the other files define; their types, or the laws `says_part`, `says_takes_apart` and `says_kinds`, say what
-- they decide.
use Rattle.std.specs.Prelude.{◌||◌, ◌&&◌, ◌∷◌}
use Rattle.base.specs.Words.{Dec·and, Bool, false, cond, Option, none, some, List, [], ℕ, suc, eqb, ltb, ite, true}
use Rattle.std.proofs.Math.Decide.{ℕ_discrete}
use Rattle.term.specs.{Term.Kind-discrete, Term.Cipher-discrete, Term.Side-discrete, Term.Form-discrete, Term.Head-discrete, Term.Term-discrete, Term.Shape-discrete, Term.plain, Term.public, Term.private, Term.Cipher, Term.symmetric, Term.asymmetric, Term.Head, Term.Term, Term.atom, Term.node, Term.Shape, Term.atomic, Term.is_key, Term.inverse, Term.Match, Number.kinds, Step.taken_by, Number.rules, Number.head_of, Term.Second, Term.absent, Term.anything, Term.key_for, Term.compound, Term.is_key_for}

abbrev pub head? : Discrete Head
head? = Head-discrete (Form-discrete Cipher-discrete) Side-discrete Cipher-discrete

abbrev pub term? : Discrete Term
term? = Term-discrete Kind-discrete ℕ_discrete head?

abbrev pub shape? : Discrete Shape
shape? = Shape-discrete Kind-discrete (Form-discrete Cipher-discrete)

-- a record of this shape lists an atom
abbrev pub is_atomic : Option Shape → Bool
is_atomic none = false
is_atomic (some (atomic κ)) = true
is_atomic (some (compound f)) = false

-- a term of this shape can be that operand
abbrev pub takes : Second → Option Shape → Bool
takes absent z = false
takes anything z = true
takes (key_for c) z = is_key_for c z

-- the place of an entry in a list
abbrev pub place : {A : Type 0} → Discrete A → List A → A → ℕ
place same [] x = 0
place same (a ∷ l) x = cond (ite (same x a) true false) 0 (suc (place same l x))

-- the kind of a shape
abbrev pub kind_of : Shape → ℕ
kind_of z = suc (place shape? kinds z)

-- kinds of keys that are each other's inverse, where they have one name
abbrev pub inverse_kinds : ℕ → ℕ → Bool
inverse_kinds k j =
    (eqb k (kind_of (atomic public)) && eqb j (kind_of (atomic private))) || (eqb k (kind_of (atomic private)) && eqb j (kind_of (atomic public)))

unfoldable pub is_key? : (t : Term) → Dec (is_key t)
is_key? (atom plain n) = no (λ x. x)
is_key? (atom public n) = yes tt
is_key? (atom private n) = yes tt
is_key? (node h a b) = no (λ x. x)

unfoldable pub match? : (c : Cipher) (k j : Term) → Dec (Match c k j)
match? symmetric k j = term? j k
match? asymmetric k j = Dec·and (is_key? k) (term? j (inverse k))

-- x is a part of t, as a test
unfoldable pub is_part : Term → Term → Bool
is_part x (atom κ n) = ite (term? x (atom κ n)) true false
is_part x (node h a b) = ite (term? x (node h a b)) true false || (is_part x a || is_part x b)

-- the head h takes apart what the head b builds, computed
abbrev pub is_head : Head → Option Head → Bool
is_head b none = false
is_head b (some h) = ite (head? h b) true false

abbrev pub takes_apart : Head → Head → Bool
takes_apart h b = is_head b (taken_by h)

-- a number is that of a rule
abbrev pub is_rule : ℕ → Bool
is_rule n = ltb n rules

-- the rule t takes apart what the rule b builds; a number that is no rule does nothing
unfoldable pub rule_takes_apart : ℕ → ℕ → Bool
rule_takes_apart t b = is_rule t && (is_rule b && takes_apart (head_of t) (head_of b))
