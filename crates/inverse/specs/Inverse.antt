-- The inverses of the listed terms, on a page: document 02, A4.
use Rattle.std.specs.Prelude.{◌≡◌, ◌⊎◌, ◌↔◌, ◌∷◌, ◌++◌, ◌<◌}
use Rattle.base.specs.{Words.List, Words.[], Words.ℕ, Words.length, Words.byte, Words.Bytes, Answer.row11, Answer.Clear}
use Rattle.term.specs.Term.{asymmetric, is_key, Match}
use Rattle.submission.specs.{Record.terms, Record.term, Check.rows1to4}
use Rattle.inverse.specs.Computed.{inverses_of}

-- "The call makes checks 1 to 4, then 11, place T." The page has room bytes.
abbrev pub inverses_rows : List ℕ → ℕ → List (ℕ → ℕ → Type 0)
inverses_rows s room = rows1to4 s ++ row11 (terms s) room ∷ []

-- the inverse of term n is listed, as term j
abbrev pub InverseListed : List ℕ → ℕ → ℕ → Type 0
InverseListed s n j = (j < terms s) × Match asymmetric (term s n) (term s j)

-- "a page gets one byte for each term, the number of its inverse, or 255 where none is listed": of every submission that passes checks 1 to 4,
-- and of each of its terms n
pub record InversesPromise : Type 0 where
  -- "one byte for each term"
  pub long : (s : List ℕ) → length (inverses_of s) ≡ terms s
  -- "the number of its inverse": the byte is the number j exactly where term j is the inverse
  pub listed : (s : List ℕ) → Bytes s → Clear (rows1to4 s) → (n : ℕ) → n < terms s → (j : ℕ) → j < terms s →
      (byte (inverses_of s) n ≡ j) ↔ Match asymmetric (term s n) (term s j)
  -- "or 255 where none is listed", and only there
  pub none : (s : List ℕ) → Bytes s → Clear (rows1to4 s) → (n : ℕ) → n < terms s →
      (byte (inverses_of s) n ≡ 255) ↔ ((j : ℕ) → InverseListed s n j → ⊥)
  -- it is one or the other
  pub one : (s : List ℕ) → Bytes s → Clear (rows1to4 s) → (n : ℕ) → n < terms s → (byte (inverses_of s) n ≡ 255) ⊎ (byte (inverses_of s) n < terms s)
  -- "Keys of kinds 2 and 3 with one name are each other's inverse"
  pub each_other : (s : List ℕ) → Bytes s → Clear (rows1to4 s) → (n : ℕ) → n < terms s → (j : ℕ) → j < terms s →
      byte (inverses_of s) n ≡ j → byte (inverses_of s) j ≡ n
  -- what is no key has no inverse
  pub no_key : (s : List ℕ) → Bytes s → Clear (rows1to4 s) → (n : ℕ) → n < terms s → (is_key (term s n) → ⊥) → byte (inverses_of s) n ≡ 255
