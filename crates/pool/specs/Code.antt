-- What the code's structs and answers mean.
use Rattle.std.specs.Prelude.{◌≡◌, ◌+◌, ◌≤◌, ◌<◌}
use Rattle.std.specs.List.{flat_map}
use Rattle.base.specs.{Words.List, Words.ℕ, Words.ltb, Words.length, Words.get_or, Computed.Check, Computed.fails_if}
use Rattle.submission.specs.{Record.most, Record.terms, Record.entries}
use Rattle.pool.specs.declared.numbers.Numbers.{Numbers}
use Rattle.pool.specs.Pool.{missing, pool_number, renumbered, new_entries}

-- the pool's terms, as far as the second's first n go, and the records of those of them that are missing
abbrev pub terms_to : List ℕ → List ℕ → ℕ → ℕ
terms_to a b n = terms a + length (missing a b n)

abbrev pub missing_records : List ℕ → List ℕ → ℕ → List ℕ
missing_records a b n = flat_map (renumbered a b) (missing a b n)

-- the pool's entries, likewise
abbrev pub entries_to : List ℕ → List ℕ → ℕ → ℕ
entries_to a b n = entries a + length (new_entries a b n)

-- 20 overfull: more than the most terms, body 0, or than the most entries, body 1
abbrev pub check_most : ℕ → ℕ → Check
check_most i n = fails_if (ltb (most i) n) 20 0

-- the numbers of the second's first n terms are noted
pub record Noted (a b : List ℕ) (n : ℕ) (numbers : Numbers) : Type 0 where
  pub within : n ≤ terms b
  pub long : length numbers.of ≡ 256
  pub is : (j : ℕ) → j < n → get_or numbers.of j 0 ≡ pool_number a b j
  pub next : numbers.next ≡ terms_to a b n
  pub few : numbers.next ≤ 250
