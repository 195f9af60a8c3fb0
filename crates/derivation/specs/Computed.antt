-- Checks 6 and 7 as tests of term numbers. What they say of terms is in `Step`, by the theorems `fits_iff`, `says_unfounded` and `tells_6_and_7`.
use Rattle.std.specs.Prelude.{◌&&◌, ◌||◌}
use Rattle.base.specs.{Words.Bool, Words.not, Words.cond, Words.List, Words.Option, Words.none, Words.some, Words.ℕ, Words.eqb, Words.ltb, Words.first, Computed.any, Computed.Check, Computed.passes, Computed.fails}
use Rattle.term.specs.{Term.Cipher, Term.symmetric, Term.asymmetric, Term.Side, Term.left, Term.right, Term.pair, Term.encryption, Term.Head, Term.make, Term.part, Term.decrypt, Term.compound, Computed.kind_of, Computed.is_rule, Number.head_of}
use Rattle.submission.specs.{Record.terms, Record.steps, Record.kind_at, Record.x_at, Record.y_at, Record.rule_at, Record.p_at, Record.q_at, Record.second_at, Record.conclusion_at, Computed.are_inverse}
use Rattle.derivation.specs.Step.{written, holds_term}

-- the lowest of the first n registers that counts and holds the term t
abbrev pub lowest_among : List ℕ → ℕ → ℕ → Option ℕ
lowest_among s n t = first (holds_term s t) n

-- a register that counts and is written before step i holds the term t
abbrev pub is_known : List ℕ → ℕ → ℕ → Bool
is_known s i t = any (holds_term s t) (written s i)

abbrev pub is_record : List ℕ → ℕ → ℕ → ℕ → ℕ → Bool
is_record s n kind x y = eqb (kind_at s n) kind && (eqb (x_at s n) x && eqb (y_at s n) y)

abbrev pub part_at : Side → List ℕ → ℕ → ℕ
part_at left s n = x_at s n
part_at right s n = y_at s n

-- the term q opens what was encrypted under k
abbrev pub opens_with : Cipher → List ℕ → ℕ → ℕ → Bool
opens_with symmetric s k q = eqb k q
opens_with asymmetric s k q = are_inverse s k q

-- the rule of this head concludes c from p and q
abbrev pub follows : List ℕ → Head → ℕ → ℕ → ℕ → Bool
follows s (make f) p q c = is_record s c (kind_of (compound f)) p q
follows s (part i) p q c = eqb (kind_at s p) (kind_of (compound pair)) && (eqb (part_at i s p) c && eqb q 0)
follows s (decrypt k) p q c = eqb (kind_at s p) (kind_of (compound (encryption k))) && (eqb (x_at s p) c && opens_with k s (y_at s p) q)

-- step i fails check 6
unfoldable pub bad_step : List ℕ → ℕ → Bool
bad_step s i =
    not (is_rule (rule_at s i)
    && (ltb (p_at s i) (terms s) && (ltb (q_at s i) (terms s) && (ltb (conclusion_at s i) (terms s)
    && follows s (head_of (rule_at s i)) (p_at s i) (q_at s i) (conclusion_at s i)))))

-- step i fails check 7
unfoldable pub unfounded : List ℕ → ℕ → Bool
unfounded s i = not (is_known s i (p_at s i) && is_known s i (second_at s i))

-- "6 and 7 are tried together, step by step"
abbrev pub step_fault : List ℕ → Option ℕ → Check
step_fault s none = passes
step_fault s (some i) = fails (cond (bad_step s i) 6 7) i

unfoldable pub check_steps : List ℕ → Check
check_steps s = step_fault s (first (λ i. bad_step s i || unfounded s i) (steps s))
