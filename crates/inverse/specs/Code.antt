-- What the code's arrays mean.
use Rattle.std.specs.Prelude.{◌≡◌, ◌+◌, ◌%◌, ◌≤◌, ◌<◌, Option, Some, None}
use Rattle.base.specs.Words.{Option as Searched, none, some, true, false, List, ℕ, length, get_or, first}
use Rattle.term.specs.{Term.public, Term.private, Term.Shape, Term.atomic, Number.shape_of}
use Rattle.submission.specs.{Record.terms, Record.kind_at, Record.y_at, Computed.are_inverse}

-- the byte by which a key is chained: of a public one the last byte of its name, y, and of a private one the byte opposite to it; what is no key is
-- in no chain
abbrev pub opposite : ℕ → ℕ
opposite y = (y + 128) % 256

abbrev pub chain_of : Searched Shape → ℕ → ℕ
chain_of (some (atomic public)) y = y
chain_of (some (atomic private)) y = opposite y
chain_of _ y = 256

abbrev pub key_chain : List ℕ → ℕ → ℕ
key_chain s n = chain_of (shape_of (kind_at s n)) (y_at s n)

-- o is the number of an inverse of term n among the first i terms, if there is one
abbrev pub InverseAmong : List ℕ → ℕ → ℕ → Option ℕ → Type 0
InverseAmong s n i None = (j : ℕ) → j < i → are_inverse s n j ≡ false
InverseAmong s n i (Some j) = (j < i) × (are_inverse s n j ≡ true)

-- among the earlier terms
abbrev pub EarlierInverse : List ℕ → ℕ → Option ℕ → Type 0
EarlierInverse s k o = InverseAmong s k k o

-- l has for each of the first i terms its inverse among them
pub record Found (s : List ℕ) (i : ℕ) (l : List (Option ℕ)) : Type 0 where
  pub within : i ≤ terms s
  pub long : length l ≡ 256
  pub is : (n : ℕ) → n < i → InverseAmong s n i (get_or l n None)

-- the number of the inverse of term n, where one is listed: `inverse_of` has 255 for none
abbrev pub found_of : Searched ℕ → Option ℕ
found_of none = None
found_of (some j) = Some j

abbrev pub found_inverse : List ℕ → ℕ → Option ℕ
found_inverse s n = found_of (first (are_inverse s n) (terms s))

-- l has for each term the number of its inverse, where one is listed
pub record Inverses (s : List ℕ) (l : List (Option ℕ)) : Type 0 where
  pub long : length l ≡ 256
  pub is : (n : ℕ) → n < terms s → get_or l n None ≡ found_inverse s n
