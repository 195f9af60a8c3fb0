-- Deducibility computed: terms are first taken apart, as far as the keys that can be built allow; a term is deducible when it can be built from
-- what that reaches. That this is what finite lists of steps reach is a theorem: `from_marks_exact`, `deducible_exact`.
use mathlib.Core.{Path.◌≡◌, Bool.Bool, Bool.true, Bool.false, Bool.◌&&◌, Bool.◌||◌, List.List}
use Rattle.std.specs.Prelude.{ℕ, zero, suc, ◌<◌}
use lib.{Dec.eqb, ListN.get_or}
use Rattle.base.specs.Words.{listed}
use Rattle.term.specs.{Term.Cipher, Term.symmetric, Term.asymmetric, Term.pair, Term.hash, Term.encryption, Term.make, Term.part, Term.decrypt, Term.Rec, Term.leaf, Term.branch}
use Rattle.submission.specs.{Record.terms, Record.entries, Record.entry_at, Record.record_at, Computed.are_inverse, Computed.checks1to4}
use Rattle.term.specs.Term.{Term}
use Rattle.submission.specs.Record.{term}
use Rattle.base.specs.{Words.not, Words.cond, Words.ltb, Answer.Answer, Answer.done, Computed.any, Computed.fails_if, Computed.and_then, Computed.answered}

-- a mark for each term number
abbrev pub at : List Bool → ℕ → Bool
at m n = get_or m n false

-- "A term can be built when it is known, or when its parts can be; .. an atom has no parts to build from."
abbrev pub parts_built : (ℕ → Bool) → Rec → Bool
parts_built b (leaf κ n) = false
parts_built b (branch h x y) = b x && b y

unfoldable pub built_within : ℕ → List ℕ → List Bool → ℕ → Bool
built_within zero s m n = false
built_within (suc fuel) s m n = at m n || parts_built (built_within fuel s m) (record_at s n)

-- parts are earlier records, so n + 1 levels are enough
abbrev pub built : List ℕ → List Bool → ℕ → Bool
built s m n = built_within (suc n) s m n

-- what undoes an encryption under k can be built
abbrev pub opens : Cipher → List ℕ → List Bool → ℕ → Bool
opens symmetric s m k = built s m k
opens asymmetric s m k = any (λ j. are_inverse s k j && built s m j) (terms s)

-- taking a record apart gives the term n: fst and snd of a pair, dec and deca of what can be opened
abbrev pub gives : List ℕ → List Bool → Rec → ℕ → Bool
gives s m (leaf κ z) n = false
gives s m (branch (make pair) x y) n = eqb n x || eqb n y
gives s m (branch (make hash) x y) n = false
gives s m (branch (part i) x y) n = false
gives s m (branch (make (encryption c)) x k) n = eqb n x && opens c s m k
gives s m (branch (decrypt c) x y) n = false

abbrev pub taken : List ℕ → List Bool → ℕ → Bool
taken s m n = any (λ i. at m i && gives s m (record_at s i) n) (terms s)

unfoldable pub round : List ℕ → List Bool → List Bool
round s m = listed (λ n. at m n || taken s m n) (terms s)

-- a term number is in the knowledge
abbrev pub is_entry : List ℕ → ℕ → Bool
is_entry s n = any (λ i. eqb (entry_at s i) n) (entries s)

-- the marks of the knowledge
unfoldable pub entry_marks : List ℕ → List Bool
entry_marks s = listed (is_entry s) (terms s)

-- the marks after i rounds that start from m
unfoldable pub rounds : List ℕ → List Bool → ℕ → List Bool
rounds s m zero = m
rounds s m (suc i) = round s (rounds s m i)

-- the term n is deducible from the terms that m marks; each round but the last marks a term, so as many rounds as terms are enough
unfoldable pub is_deducible : List ℕ → List Bool → ℕ → Bool
is_deducible s m n = built s (rounds s m (terms s)) n

-- a term that m marks: what m says of a number that is not below T says nothing of a term
abbrev pub Marked : List ℕ → List Bool → Term → Type 0
Marked s m t = (n : ℕ) × (n < terms s) × ((at m n ≡ true) × (t ≡ term s n))

-- "Deducible makes checks 1 to 4, then 12"
unfoldable pub deducible_answer : List ℕ → ℕ → Answer
deducible_answer s n =
    answered (and_then (checks1to4 s) (fails_if (not (ltb n (terms s))) 12 0)) (done (cond (is_deducible s (entry_marks s) n) 1 0))
