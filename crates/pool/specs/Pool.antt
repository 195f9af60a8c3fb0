-- Two submissions joined: document 02, A8. The first is a, the second b.
use Rattle.std.specs.Prelude.{◌≡◌, ◌⊎◌, ◌∷◌, ◌++◌, ◌+◌, ◌<◌}
use Rattle.std.specs.List.{filter, flat_map}
use Rattle.base.specs.{Words.Bool, Words.not, Words.cond, Words.List, Words.[], Words.Option, Words.none, Words.some, Words.ℕ, Words.eqb, Words.length, Words.listed, Answer.numbered, Answer.row11, Computed.any}
use Rattle.term.specs.{Term.unary, Term.second, Term.Shape, Term.atomic, Term.compound, Number.shape_of}
use Rattle.submission.specs.Record.{most, terms, entries, kind_at, x_at, y_at, entry_at, term, number_in, is_unlisted}
use Rattle.submission.specs.{Body.Bodies, Body.bodies, Body.records, Body.body_at, Body.submission_of, Check.rows1to5}

-- ---- the pool
-- of the second's first n terms those "that are missing, in order": the numbers of those that the first does not list, as terms
abbrev pub is_missing : List ℕ → List ℕ → ℕ → Bool
is_missing a b j = is_unlisted a (term b j)

unfoldable pub missing : List ℕ → List ℕ → ℕ → List ℕ
missing a b n = filter (is_missing a b) (listed (λ j. j) n)

-- the pool's number of the second's term j: the first's, where it lists that term, and else the next after those of the missing before it
unfoldable pub pool_number : List ℕ → List ℕ → ℕ → ℕ
pool_number a b j = elim (number_in a (term b j)) [ none ↦ terms a + length (missing a b j) | some n ↦ n ]

-- "renumbered", m giving the numbers: what is a part gets the pool's number; a name stays, and so does the y that is no part
abbrev pub operands : (ℕ → ℕ) → Option Shape → ℕ → ℕ → List ℕ
operands m none x y = x ∷ y ∷ []
operands m (some (atomic κ)) x y = x ∷ y ∷ []
operands m (some (compound f)) x y = m x ∷ cond (unary (second f)) y (m y) ∷ []

-- the pool's record of the second's term j
abbrev pub renumbered : List ℕ → List ℕ → ℕ → List ℕ
renumbered a b j = kind_at b j ∷ operands (pool_number a b) (shape_of (kind_at b j)) (x_at b j) (y_at b j)

-- of the second's first n entries those "not yet there", under the pool's numbers
abbrev pub is_entry : List ℕ → ℕ → Bool
is_entry a n = any (λ r. eqb (entry_at a r) n) (entries a)

unfoldable pub new_entries : List ℕ → List ℕ → ℕ → List ℕ
new_entries a b n = filter (λ k. not (is_entry a k)) (listed (λ r. pool_number a b (entry_at b r)) n)

-- "the first's terms, then the second's that are missing, in order and renumbered; the first's knowledge, then the second's entries not yet there;
-- derivation and claim from the first"
unfoldable pub pool : List ℕ → List ℕ → Bodies
pool a b =
    bodies (body_at a 0 ++ flat_map (renumbered a b) (missing a b (terms b))) (body_at a 1 ++ new_entries a b (entries b)) (body_at a 2) (body_at a 3)

-- and the submission that is made of it
abbrev pub joined : List ℕ → List ℕ → List ℕ
joined a b = submission_of (pool a b)

-- ---- the rows
-- "a pool above the limits for T or K"
abbrev pub Overfull : List ℕ → List ℕ → Type 0
Overfull a b = (most 0 < records (pool a b) 0) ⊎ (most 1 < records (pool a b) 1)

-- "Each input passes checks 1 to 5, the first one first. It refuses with 20 (overfull) a pool above the limits for T or K, then with 11." The page
-- has room bytes.
abbrev pub join_rows : List ℕ → List ℕ → ℕ → List (ℕ → ℕ → Type 0)
join_rows a b room =
    rows1to5 a ++ rows1to5 b ++ numbered 20 (λ p. (p ≡ 0) × Overfull a b) ∷ row11 (length (joined a b)) room ∷ []
