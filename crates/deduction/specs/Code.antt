-- What the code's records and arrays mean.
use mathlib.Core.{Path.◌≡◌, Bool.Bool, Bool.true, Bool.false, Bool.◌&&◌, Bool.cond, List.List, List.[], List.◌∷◌, List.map}
use Rattle.std.specs.Prelude.{ℕ, suc, ◌+◌, ◌≤◌, ◌<◌, Option, Some, None, is_some}
use Rattle.std.specs.Option.{option_map}
use lib.{Dec.eqb, ListN.length, ListN.get_or}
use Rattle.term.specs.{Term.symmetric, Term.asymmetric, Term.pair, Term.hash, Term.encryption, Term.make, Term.part, Term.decrypt, Term.Rec, Term.leaf, Term.branch}
use Rattle.inverse.specs.Code.{found_inverse}
use Rattle.submission.specs.{Record.terms, Record.record_at, Record.kind_at, Record.y_at}
use Rattle.deduction.specs.declared.opening.Opening.{Opening}
use Rattle.deduction.specs.declared.opening.Opening.TheVariants.{Freely, With}
use Rattle.deduction.specs.declared.opening.Role.{Role}
use Rattle.deduction.specs.declared.opening.Role.TheVariants.{Key, First, Second}
use Rattle.deduction.specs.declared.opening.Clause.{Clause}
use Rattle.deduction.specs.declared.worklist.Origin.{Origin}
use Rattle.deduction.specs.Computed.{at, built}

-- the same terms are marked
pub record SameMarks (s : List ℕ) (m m' : List Bool) : Type 0 where
  pub same : (n : ℕ) → n < terms s → at m n ≡ at m' n

-- the marks of the working: that of a term that was reached says how, and a term that was not has none
abbrev pub Marks : Type 0
Marks = List (Option Origin)

abbrev pub mark_of : Marks → ℕ → Option Origin
mark_of l n = get_or l n None

abbrev pub reached_of : Marks → List Bool
reached_of l = map (λ v. is_some v) l

abbrev pub Reached : Marks → ℕ → Type 0
Reached l n = is_some (mark_of l n) ≡ true

-- the parts that a record is built from
abbrev pub parts_of : Rec → Option (ℕ × ℕ)
parts_of (leaf κ n) = None
parts_of (branch h x y) = Some (x, y)

-- ---- the build test
-- each term is undecided, or decided as the build test over the marks `known` says
pub record Memo (s : List ℕ) (known : Marks) (l : List (Option Bool)) : Type 0 where
  pub long : length l ≡ 256
  pub says : (n : ℕ) (b : Bool) → get_or l n None ≡ Some b → b ≡ built s (reached_of known) n

-- where b is true, term k cannot be built over the marks `known`
pub record Unbuilt (s : List ℕ) (known : Marks) (k : ℕ) (b : Bool) : Type 0 where
  pub no : b ≡ true → built s (reached_of known) k ≡ false

-- ---- taking a record apart
-- what opens a record, if anything does
abbrev pub opening_in : List ℕ → Rec → Option Opening
opening_in s (leaf κ z) = None
opening_in s (branch (make pair) x y) = Some (Freely x y)
opening_in s (branch (make hash) x y) = None
opening_in s (branch (make (encryption symmetric)) x k) = Some (With x k)
opening_in s (branch (make (encryption asymmetric)) x k) = option_map (With x) (found_inverse s k)
opening_in s (branch (part i) x y) = None
opening_in s (branch (decrypt c) x y) = None

abbrev pub opening_of : List ℕ → ℕ → Option Opening
opening_of s t = opening_in s (record_at s t)

-- ---- what waits for a term
abbrev pub from : ℕ → ℕ → ℕ → Option Clause
from term other result = Some (record { term = term; other = other; result = result })

-- record t and the key that opens it give its body
abbrev pub key_clause : ℕ → Option Opening → Option Clause
key_clause t None = None
key_clause t (Some (Freely x y)) = None
key_clause t (Some (With body key)) = from key t body

-- the parts of record t give its term; it waits for the first,
abbrev pub first_clause : ℕ → Option (ℕ × ℕ) → Option Clause
first_clause t None = None
first_clause t (Some (x, y)) = from x y t

-- or for the second
abbrev pub second_clause : ℕ → Option (ℕ × ℕ) → Option Clause
second_clause t None = None
second_clause t (Some (x, y)) = from y x t

abbrev pub clause_of : List ℕ → Role → ℕ → Option Clause
clause_of s Key t = key_clause t (opening_of s t)
clause_of s First t = first_clause t (parts_of (record_at s t))
clause_of s Second t = second_clause t (parts_of (record_at s t))

-- the term that a clause waits for, 256 for none
abbrev pub awaited : Option Clause → ℕ
awaited None = 256
awaited (Some c) = c.term

unfoldable pub linked : List ℕ → Role → ℕ → ℕ
linked s role t = awaited (clause_of s role t)

-- record t is an encryption under a hash
unfoldable pub has_hash_key : List ℕ → ℕ → Bool
has_hash_key s t = eqb (kind_at s t) 5 && eqb (kind_at s (y_at s t)) 7

-- ---- marks, and the order in which terms are marked
-- how many are not marked
unfoldable pub unmarked : Marks → ℕ
unmarked [] = 0
unmarked (v ∷ l) = cond (is_some v) (unmarked l) (suc (unmarked l))

-- the order has room for every term that is not marked
pub record Room (marks : Marks) (order : List ℕ) (end : ℕ) : Type 0 where
  pub long : length marks ≡ 256
  pub order_long : length order ≡ 256
  pub enough : end + unmarked marks ≤ 256
