-- What a check's result means in document 01's terms, and notions that only proofs use.
use Rattle.std.specs.Prelude.{◌≡◌, ◌<◌, Result, Ok, Err, Option as Maybe, Some, None}
use Rattle.base.specs.Words.{Bool, true, false, List, Option, none, some, ℕ, cond, eqb, length, get_or}
use Rattle.base.specs.declared.refusal.Refusal.{Refusal}
use Rattle.base.specs.declared.writer.Writer.{Writer}
use Rattle.base.specs.Answer.{number_of, Puts}
use Rattle.base.specs.Computed.{Check, passes, fails}

-- what a check's result says: it passed, or the number and the place of the refusal
abbrev pub check_of : {T : Type 0} → Result T Refusal → Check
check_of (Ok x) = passes
check_of (Err r) = fails (number_of r.fault) r.place

-- a number, or none: a place that a search found, the register that a term is in
abbrev pub number_is : Maybe ℕ → Option ℕ
number_is None = none
number_is (Some n) = some n

-- the bytes are stored, as `Puts` says, by a writer, which keeps its buffer
pub record Wrote (old : Writer) (bytes : List ℕ) (new : Writer) : Type 0 where
  pub same : new.buffer.ghost_name ≡ old.buffer.ghost_name
  pub puts : Puts old.buffer.now old.at bytes new.buffer.now new.at

-- a place was found
abbrev pub is_some : Option ℕ → Bool
is_some none = false
is_some (some i) = true

-- ---- flags: true stands in l at f r for each r below i, and nowhere else
pub record Flagged (f : ℕ → ℕ) (i : ℕ) (l : List Bool) : Type 0 where
  pub long : length l ≡ 256
  pub holds : (r : ℕ) → r < i → get_or l (f r) false ≡ true
  pub only : (n : ℕ) → get_or l n false ≡ true → (r : ℕ) × (r < i) × (f r ≡ n)

-- ---- chains: c has for each number the byte that it is chained by, or 256 or more where it is in no chain
-- the number that a link is to: 255 stands for none
abbrev pub link_of : ℕ → Maybe ℕ
link_of n = cond (eqb n 255) None (Some n)

-- k comes after b, or b is none
abbrev pub After : Maybe ℕ → ℕ → Type 0
After None k = Unit {0}
After (Some b) k = b < k

-- b is the latest of the first i numbers that is chained by y
pub record Latest (c : ℕ → ℕ) (i y : ℕ) (b : Maybe ℕ) : Type 0 where
  pub is : (j : ℕ) → b ≡ Some j → (j < i) × (c j ≡ y)
  pub last : (k : ℕ) → k < i → After b k → c k ≡ y → ⊥

-- before has, for each of the first n numbers that is in a chain, the latest earlier one of that chain
pub record Chained (c : ℕ → ℕ) (n : ℕ) (before : List ℕ) : Type 0 where
  pub long : length before ≡ 256
  pub is : (k : ℕ) → k < n → c k < 256 → Latest c k (c k) (link_of (get_or before k 255))

-- and latest has, for each byte, the latest of the first n that is chained by it
pub record Chaining (c : ℕ → ℕ) (n : ℕ) (before latest : List ℕ) : Type 0 where
  pub chained : Chained c n before
  pub long : length latest ≡ 256
  pub is : (y : ℕ) → y < 256 → Latest c n y (link_of (get_or latest y 255))

-- o is the latest of the first i numbers that is chained by y and that a test holds for, or none where it holds for none; Gave says what the test gives
pub record FoundBy (c : ℕ → ℕ) (i y : ℕ) (Gave : ℕ → Bool → Type 0) (o : Maybe ℕ) : Type 0 where
  pub is : (j : ℕ) → o ≡ Some j → (j < i) × (c j ≡ y) × Gave j true
  pub last : (k : ℕ) → k < i → After o k → c k ≡ y → Gave k false

-- o is one of the first i numbers, and a test holds for it; or none, and it holds for none that is chained by y in the one and by z in the other
pub record FoundInBoth (c d : ℕ → ℕ) (i y z : ℕ) (Gave : ℕ → Bool → Type 0) (o : Maybe ℕ) : Type 0 where
  pub is : (j : ℕ) → o ≡ Some j → (j < i) × Gave j true
  pub none : o ≡ None → (k : ℕ) → k < i → c k ≡ y → d k ≡ z → Gave k false
