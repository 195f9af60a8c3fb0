-- What a call answers, promises and leaves on its page, and what the table of verdicts and its order mean: document 01, 'Verdicts'.
use Rattle.std.specs.Prelude.{◌≡◌, ◌⊎◌, ◌∷◌, ◌++◌, ◌+◌, ◌-◌, ◌<◌, ◌≤◌}
use Rattle.std.specs.Prelude.{Result, Ok, Err}
use Rattle.base.specs.declared.refusal.Fault.{Fault}
use Rattle.base.specs.declared.refusal.Fault.TheVariants.{Contents, Count, Term, Knowledge, Claim, Step, Unfounded, Reachable, NoSecondWay, Undone, Page, NoSuchTerm, Program, Ragged, Stale, NotShown, OffTable, NoClaim, ShortSheet, Overfull}
use Rattle.base.specs.{declared.refusal.Refusal.Refusal, Words.List, Words.[], Words.ℕ, Words.min, Words.length, Words.drop, Words.sets}

-- "An acceptance carries N"; deducible's yes and no are 1 and 0, and so is the signal; a deduction's are 1 + the count of steps and 0; an acceptance
-- that writes a page "carries their number unless another count is named", of the bytes written. "Every refusal carries number and place."
pub data Answer : Type 0 where
  done : ℕ → Answer
  refused : ℕ → ℕ → Answer

-- the page after a call that writes these bytes where it is done: they stand at its start, and the rest is as before; a refusal keeps its bytes
abbrev pub page_after : Answer → List ℕ → List ℕ → List ℕ
page_after (done n) bytes page = bytes ++ drop (length bytes) page
page_after (refused number place) bytes page = page

-- the table of verdicts: the numbers of its rows, by their words
abbrev pub number_of : Fault → ℕ
number_of Contents = 1
number_of Count = 2
number_of Term = 3
number_of Knowledge = 4
number_of Claim = 5
number_of Step = 6
number_of Unfounded = 7
number_of Reachable = 8
number_of NoSecondWay = 9
number_of Undone = 10
number_of Page = 11
number_of NoSuchTerm = 12
number_of Program = 13
number_of Ragged = 14
number_of Stale = 15
number_of NotShown = 16
number_of OffTable = 17
number_of NoClaim = 18
number_of ShortSheet = 19
number_of Overfull = 20

-- the answer that a call's result stands for
abbrev pub answer_of : Result ℕ Refusal → Answer
answer_of (Ok n) = done n
answer_of (Err r) = refused (number_of r.fault) r.place

-- a call that writes a page: what it returned says its answer a, and where that is done the bytes written stand on the page
pub record Writes (Says : Answer → Type 0) (a : Answer) (written page page' : List ℕ) : Type 0 where
  pub answer : Says a
  pub bytes : page' ≡ page_after a written page

-- the bytes are stored in the buffer old from place i on, as far as the buffer reaches: new is the buffer afterwards, j the place reached
pub record Puts (old : List ℕ) (i : ℕ) (bytes new : List ℕ) (j : ℕ) : Type 0 where
  pub stored : new ≡ sets old i bytes
  pub place : j ≡ i + min (length bytes) (length old - i)

-- a row of the table: its number, and what it says of its place
abbrev pub numbered : ℕ → (ℕ → Type 0) → ℕ → ℕ → Type 0
numbered number When n p = (n ≡ number) × When p

-- 11 page: the page, of room bytes, is shorter than what is written, place "length needed"
abbrev pub row11 : ℕ → ℕ → ℕ → ℕ → Type 0
row11 needed room = numbered 11 (λ p. (p ≡ needed) × (room < needed))

-- a row, or rows "tried together, step by step", hold first at n and p: at the lowest place, and there with the lowest number
pub record First (Row : ℕ → ℕ → Type 0) (n p : ℕ) : Type 0 where
  pub holds : Row n p
  pub lowest : (m q : ℕ) → Row m q → (p < q) ⊎ ((p ≡ q) × (n ≤ m))

-- no row holds at any place
abbrev pub Clear : List (ℕ → ℕ → Type 0) → Type 0
Clear [] = Unit {0}
Clear (Row ∷ later) = ((m q : ℕ) → Row m q → ⊥) × Clear later

-- a call that tries these rows in order refuses with n and p: row n holds at p, and no row holds that the order puts before it
abbrev pub Refuses : List (ℕ → ℕ → Type 0) → ℕ → ℕ → Type 0
Refuses [] n p = ⊥
Refuses (Row ∷ later) n p = First Row n p ⊎ (((m q : ℕ) → Row m q → ⊥) × Refuses later n p)

-- the answer is such a refusal, or no row holds and the answer's value is a right one
abbrev pub Answers : List (ℕ → ℕ → Type 0) → (ℕ → Type 0) → Answer → Type 0
Answers rows Value (done v) = Clear rows × Value v
Answers rows Value (refused n p) = Refuses rows n p
