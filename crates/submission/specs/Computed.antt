-- Checks 1 to 5 and tests of terms; what they say is proved: `tells_1_to_5`, `inverse_iff`, `says_stale`.
use Rattle.std.specs.Prelude.{◌&&◌, ◌||◌, ◌+◌, ◌*◌}
use Rattle.base.specs.{Words.Bool, Words.true, Words.false, Words.not, Words.cond, Words.List, Words.Option, Words.none, Words.some, Words.ℕ, Words.eqb, Words.ltb, Words.length, Words.first, Words.byte, Computed.any, Computed.Check, Computed.fails_at, Computed.fails_if, Computed.and_then}
use Rattle.term.specs.{Term.asymmetric, Term.is_key_for, Term.second, Term.unary, Term.Shape, Term.atomic, Term.compound, Term.Term, Term.inverse, Number.shape_of, Computed.takes, Computed.is_atomic, Computed.inverse_kinds, Computed.is_part}
use Rattle.submission.specs.{Record.letter, Record.count, Record.start, Record.least, Record.most, Record.terms, Record.entries, Record.steps, Record.kind_at, Record.x_at, Record.y_at, Record.entry_at, Record.guess, Record.verifying, Record.way_at, Record.companion, Record.term, Check.Way, Check.way_of, Check.the_guess, Check.its_inverse, Check.Claims, Check.verifier, Check.derived, Check.Range, Check.step_number, Check.term_number, Check.zero_only, Check.step_or_knowledge, Check.knowledge_step, Check.row}

-- 1 contents: "under 16 bytes; a letter, start or the length wrong"
unfoldable pub bad_contents : List ℕ → Bool
bad_contents s =
    ltb (length s) 16
    || (any (λ i. not (eqb (byte s (4 * i)) (letter i))) 4
    || (any (λ i. not (eqb (byte s (4 * i + 2) * 256 + byte s (4 * i + 3)) (start s i))) 4 || not (eqb (length s) (start s 4))))

-- 2 count: "T, K, D, V outside its limits", place "first such entry, 0 to 3", of any four counts
abbrev pub bad_count : (ℕ → ℕ) → ℕ → Bool
bad_count n i = ltb (n i) (least i) || ltb (most i) (n i)

abbrev pub check_limits : (ℕ → ℕ) → Check
check_limits n = fails_at 2 (first (bad_count n) 4)

-- "In 4 to 6, x and y number earlier terms", and y is of a kind that the form takes; where there is no second operand, y is 0
abbrev pub shape_fits : List ℕ → ℕ → Option Shape → Bool
shape_fits s i none = false
shape_fits s i (some (atomic κ)) = true
shape_fits s i (some (compound f)) =
    ltb (x_at s i) i
    && cond (unary (second f)) (eqb (y_at s i) 0) (ltb (y_at s i) i && takes (second f) (shape_of (kind_at s (y_at s i))))

-- "No two records are equal, so equal terms have equal numbers."
abbrev pub same_record : List ℕ → ℕ → ℕ → Bool
same_record s i j = eqb (kind_at s j) (kind_at s i) && (eqb (x_at s j) (x_at s i) && eqb (y_at s j) (y_at s i))

-- 3 term: "first record that is bad or equals an earlier one"
unfoldable pub bad_term : List ℕ → ℕ → Bool
bad_term s i = not (shape_fits s i (shape_of (kind_at s i))) || any (same_record s i) i

-- 4 knowledge: "entry not below T, or equal to an earlier one"
unfoldable pub bad_knowledge : List ℕ → ℕ → Bool
bad_knowledge s i = not (ltb (entry_at s i) (terms s)) || any (λ j. eqb (entry_at s j) (entry_at s i)) i

abbrev pub in_range : List ℕ → Range → ℕ → Bool
in_range s step_number n = ltb n (steps s)
in_range s term_number n = ltb n (terms s)
in_range s zero_only n = eqb n 0
in_range s step_or_knowledge n = ltb n (steps s) || eqb n knowledge_step

-- A5: where the inverse of the guess is claimed, the guess is a key
abbrev pub guess_fits : List ℕ → Claims → Bool
guess_fits s verifier = true
guess_fits s (derived the_guess) = true
guess_fits s (derived its_inverse) = is_key_for asymmetric (shape_of (kind_at s (guess s)))

-- the way is one; the guess fits it, and the step and the companion are in range for it
abbrev pub claim_fits : List ℕ → Option Way → Bool
claim_fits s none = false
claim_fits s (some w) = guess_fits s (row w).claims && (in_range s (row w).step (verifying s) && in_range s (row w).companion (companion s))

-- 5 claim: "guess not below T or no atom; step or companion out of range ..; way"
unfoldable pub good_claim : List ℕ → Bool
good_claim s =
    ltb (guess s) (terms s) && (is_atomic (shape_of (kind_at s (guess s))) && claim_fits s (way_of (way_at s)))

-- "Deducible makes checks 1 to 4 .. run makes 1 to 5"
unfoldable pub checks1to4 : List ℕ → Check
checks1to4 s =
    and_then (fails_if (bad_contents s) 1 0)
    (and_then (check_limits (count s))
    (and_then (fails_at 3 (first (bad_term s) (terms s))) (fails_at 4 (first (bad_knowledge s) (entries s)))))

unfoldable pub checks1to5 : List ℕ → Check
checks1to5 s = and_then (checks1to4 s) (fails_if (not (good_claim s)) 5 0)

-- the terms of two numbers are keys and each other's inverse
unfoldable pub are_inverse : List ℕ → ℕ → ℕ → Bool
are_inverse s i j = inverse_kinds (kind_at s i) (kind_at s j) && (eqb (x_at s i) (x_at s j) && eqb (y_at s i) (y_at s j))

-- x is part of a message in the knowledge
unfoldable pub is_known_part : List ℕ → Term → Bool
is_known_part s x = any (λ r. is_part x (term s (entry_at s r))) (entries s)

-- w or its inverse is
unfoldable pub is_stale : List ℕ → Term → Bool
is_stale s w = is_known_part s w || is_known_part s (inverse w)
