-- What the arrays of the working mean: the marks, which say how a term was reached, and the order in which terms were marked.
use mathlib.Core.{Path.◌≡◌, Logic.◌↔◌, Logic.◌⊎◌, Bool.Bool, Bool.true, Bool.false, List.List}
use Rattle.std.specs.Prelude.{ℕ, ◌+◌, ◌≤◌, ◌<◌, Option, Some, is_some}
use lib.{ListN.length, ListN.get_or, ListN.set}
use Rattle.term.specs.{Step.Deducible}
use Rattle.submission.specs.{Record.terms, Record.record_at, Record.term}
use Rattle.deduction.specs.declared.worklist.Origin.{Origin}
use Rattle.deduction.specs.declared.worklist.Origin.TheVariants.{Start, Record}
use Rattle.deduction.specs.declared.worklist.Worklist.{Worklist}
use Rattle.deduction.specs.declared.opening.Opening.TheVariants.{Freely, With}
use Rattle.deduction.specs.declared.opening.Role.{Role}
use Rattle.deduction.specs.Computed.{at, built, is_deducible, Marked}
use Rattle.deduction.specs.Code.{Marks, mark_of, reached_of, Reached, Room, parts_of, opening_of, from, clause_of}

-- ---- of a worklist: what holds of its marks, its order and its end; and what turns one into another
abbrev pub Holds : (Marks → List ℕ → ℕ → Type 0) → Worklist → Type 0
Holds P w = P w.marks w.order w.end

abbrev pub Turns : (Marks → List ℕ → ℕ → Marks → List ℕ → ℕ → Type 0) → Worklist → Worklist → Type 0
Turns P w w' = P w.marks w.order w.end w'.marks w'.order w'.end

-- ---- how terms were reached
-- term n comes from record u, and from terms that are had: it was built of its parts, and u is its own record; or u is a pair that it is a part of;
-- or u is an encryption of it, that this key opens
pub data ComesFrom (s : List ℕ) (Had : ℕ → Type 0) (u n : ℕ) : Type 0 where
  from_parts : (x y : ℕ) → u ≡ n → parts_of (record_at s n) ≡ Some (x, y) → Had x → Had y → ComesFrom s Had u n
  from_pair : (x y : ℕ) → Had u → opening_of s u ≡ Some (Freely x y) → (n ≡ x) ⊎ (n ≡ y) → ComesFrom s Had u n
  from_key : (key : ℕ) → Had u → opening_of s u ≡ Some (With n key) → Had key → ComesFrom s Had u n

-- the mark of a term that is from the start
abbrev pub start_mark : Option Origin
start_mark = Some Start

-- how term n was reached, by its mark v: it is from the start, or it comes from the record of this number
abbrev pub How : List ℕ → (ℕ → Type 0) → Option Origin → ℕ → Type 0
How s Had v n = (v ≡ start_mark) ⊎ ((u : ℕ) × (u < terms s) × (v ≡ Some (Record u)) × ComesFrom s Had u n)

-- ---- marks, and the order in which terms were marked
-- term t is marked with the origin o, and is the last of the order, if it was not marked
abbrev pub Pushed : ℕ → Origin → Marks → List ℕ → ℕ → Marks → List ℕ → ℕ → Type 0
Pushed t o marks order end marks' order' r =
    (Reached marks t × (marks' ≡ marks) × (order' ≡ order) × (r ≡ end))
    ⊎ ((is_some (mark_of marks t) ≡ false) × (marks' ≡ set marks t (Some o)) × (order' ≡ set order end t) × (r ≡ end + 1))

abbrev pub PushedWith : ℕ → Origin → ℕ → Marks → List ℕ → ℕ → Marks → List ℕ → ℕ → Type 0
PushedWith t o other marks order end marks' order' r =
    (Reached marks other × Pushed t o marks order end marks' order' r)
    ⊎ ((is_some (mark_of marks other) ≡ false) × (marks' ≡ marks) × (order' ≡ order) × (r ≡ end))

-- term n is one of the first h of the order
abbrev pub Among : List ℕ → ℕ → ℕ → Type 0
Among order h n = (k : ℕ) × (k < h) × (get_or order k 0 ≡ n)

-- the terms that are marked are the first `end` of the order, each once; each was reached from the start, or from terms that stand before it
pub record Queue (s : List ℕ) (marks : Marks) (order : List ℕ) (end : ℕ) : Type 0 where
  pub room : Room marks order end
  pub listed : (n : ℕ) → n < terms s → Reached marks n → Among order end n
  pub terms : (k : ℕ) → k < end → get_or order k 0 < terms s
  pub marked : (k : ℕ) → k < end → Reached marks (get_or order k 0)
  pub once : (j k : ℕ) → j < k → k < end → get_or order j 0 ≡ get_or order k 0 → ⊥
  pub how : (k : ℕ) → k < end → How s (Among order k) (mark_of marks (get_or order k 0)) (get_or order k 0)

-- marks that hold those of `start` and are deducible from them
pub record SoundMarks (s : List ℕ) (start l : Marks) : Type 0 where
  pub long : length l ≡ 256
  pub holds : (n : ℕ) → n < terms s → Reached start n → Reached l n
  pub reached : (n : ℕ) → n < terms s → Reached l n → Deducible (Marked s (reached_of start)) (term s n)

-- more terms are marked, all deducible from those before; these keep their marks, and no other is from the start
pub record Grown (s : List ℕ) (marks : Marks) (order : List ℕ) (end : ℕ) (marks' : Marks) (order' : List ℕ) (end' : ℕ) : Type 0 where
  pub queue : Queue s marks' order' end'
  pub sound : SoundMarks s marks marks'
  pub later : end ≤ end'
  pub same : (k : ℕ) → k < end → get_or order' k 0 ≡ get_or order k 0
  pub kept : (n : ℕ) → Reached marks n → mark_of marks' n ≡ mark_of marks n
  pub fewer : (n : ℕ) → mark_of marks' n ≡ start_mark → mark_of marks n ≡ start_mark

-- the terms that are marked are those of `start`
pub record Entered (s : List ℕ) (start : List Bool) (l : Marks) : Type 0 where
  pub holds : (n : ℕ) → n < terms s → at start n ≡ true → mark_of l n ≡ start_mark
  pub only : (n : ℕ) → Reached l n → at start n ≡ true

-- ---- clauses that fire
-- the term that record t waits for is marked
pub record Ready (s : List ℕ) (role : Role) (marks : Marks) (t : ℕ) : Type 0 where
  pub is : (u x y : ℕ) → clause_of s role t ≡ from u x y → Reached marks u

pub record FiredOne (s : List ℕ) (role : Role) (t : ℕ) (marks : Marks) (order : List ℕ) (end : ℕ) (marks' : Marks) (order' : List ℕ) (end' : ℕ) : Type 0 where
  pub grown : Grown s marks order end marks' order' end'
  pub gave : (u x y : ℕ) → clause_of s role t ≡ from u x y → Reached marks x → Reached marks' y

-- what waits for u has fired
pub record Fired (s : List ℕ) (role : Role) (u : ℕ) (marks : Marks) (order : List ℕ) (end : ℕ) (marks' : Marks) (order' : List ℕ) (end' : ℕ) : Type 0 where
  pub grown : Grown s marks order end marks' order' end'
  pub gave : (t x y : ℕ) → t < terms s → clause_of s role t ≡ from u x y → Reached marks x → Reached marks' y

pub record TakenApart (s : List ℕ) (u : ℕ) (marks : Marks) (order : List ℕ) (end : ℕ) (marks' : Marks) (order' : List ℕ) (end' : ℕ) : Type 0 where
  pub grown : Grown s marks order end marks' order' end'
  pub freely : (x y : ℕ) → opening_of s u ≡ Some (Freely x y) → Reached marks' x × Reached marks' y
  pub opened : (body key : ℕ) → opening_of s u ≡ Some (With body key) → Reached marks key → Reached marks' body

-- the first h terms of the order are taken apart, as far as their keys are among them
pub record OpenTo (s : List ℕ) (marks : Marks) (order : List ℕ) (h : ℕ) : Type 0 where
  pub freely : (t x y : ℕ) → Among order h t → opening_of s t ≡ Some (Freely x y) → Reached marks x × Reached marks y
  pub opened : (t body key : ℕ) → Among order h t → Among order h key → opening_of s t ≡ Some (With body key) → Reached marks body

-- what is built of u and of marked terms is marked, and all is taken apart
pub record Composed (s : List ℕ) (u : ℕ) (marks : Marks) (order : List ℕ) (end : ℕ) (marks' : Marks) (order' : List ℕ) (end' : ℕ) : Type 0 where
  pub grown : Grown s marks order end marks' order' end'
  pub apart : OpenTo s marks' order' end'
  pub first : (t y : ℕ) → t < terms s → parts_of (record_at s t) ≡ Some (u, y) → Reached marks y → Reached marks' t
  pub second : (t x : ℕ) → t < terms s → parts_of (record_at s t) ≡ Some (x, u) → Reached marks x → Reached marks' t

-- what is built of the first h terms of the order is marked
pub record ComposedTo (s : List ℕ) (marks : Marks) (order : List ℕ) (h : ℕ) : Type 0 where
  pub is : (t x y : ℕ) → t < terms s → parts_of (record_at s t) ≡ Some (x, y) → Among order h x → Among order h y → Reached marks t

-- the build test over these marks answers for each term as the definition does that starts from `start`
pub record Exact (s : List ℕ) (start : List Bool) (l : Marks) : Type 0 where
  pub is : (n : ℕ) → n < terms s → built s (reached_of l) n ≡ is_deducible s start n

-- the working from `start`: how each marked term was reached, and that the build test over the marks is exact
pub record Worked (s : List ℕ) (start : List Bool) (marks : Marks) (order : List ℕ) (end : ℕ) : Type 0 where
  pub queue : Queue s marks order end
  pub exact : Exact s start marks
  pub from_start : (n : ℕ) → n < terms s → (mark_of marks n ≡ start_mark) ↔ (at start n ≡ true)

-- ---- all terms that are deducible
-- term t is marked, if its parts are
pub record BuiltOne (s : List ℕ) (t : ℕ) (marks : Marks) (order : List ℕ) (end : ℕ) (marks' : Marks) (order' : List ℕ) (end' : ℕ) : Type 0 where
  pub grown : Grown s marks order end marks' order' end'
  pub gave : (x y : ℕ) → parts_of (record_at s t) ≡ Some (x, y) → Reached marks x → Reached marks y → Reached marks' t
  pub only : (n : ℕ) → Reached marks' n → Reached marks n ⊎ (n ≡ t)

-- a term is marked where its parts are
pub record BuildClosed (s : List ℕ) (marks : Marks) (i : ℕ) : Type 0 where
  pub is : (t x y : ℕ) → t < i → parts_of (record_at s t) ≡ Some (x, y) → Reached marks x → Reached marks y → Reached marks t

pub record BuiltAll (s : List ℕ) (marks : Marks) (order : List ℕ) (end : ℕ) (marks' : Marks) (order' : List ℕ) (end' : ℕ) : Type 0 where
  pub grown : Grown s marks order end marks' order' end'
  pub closed : BuildClosed s marks' (terms s)

-- the terms that are marked are those that are deducible from `start`
pub record AllReached (s : List ℕ) (start : List Bool) (marks : Marks) (order : List ℕ) (end : ℕ) : Type 0 where
  pub queue : Queue s marks order end
  pub exact : (n : ℕ) → n < terms s → Reached marks n ↔ (is_deducible s start n ≡ true)
  pub from_start : (n : ℕ) → n < terms s → (mark_of marks n ≡ start_mark) ↔ (at start n ≡ true)
