-- The steps of a derivation, rows 6 and 7 of the table of verdicts, and the registers' terms: document 01, 'Dolev-Yao steps' and 'Verdicts'.
use Rattle.std.specs.Prelude.{◌≡◌, ◌⊎◌, ◌&&◌, ◌||◌, ◌+◌, ◌-◌, ◌<◌}
use Rattle.base.specs.{Words.Bool, Words.true, Words.false, Words.not, Words.cond, Words.List, Words.ℕ, Words.eqb, Words.ltb, Answer.numbered}
use Rattle.term.specs.{Term.Head, Term.Term, Number.rules, Number.head_of, Number.has_one, Step.Step}
use Rattle.submission.specs.{Record.terms, Record.entries, Record.steps, Record.entry_at, Record.rule_at, Record.p_at, Record.q_at, Record.second_for, Record.second_at, Record.conclusion_at, Record.guess, Record.term, Record.InKnowledge, Check.Claims, Check.verifier, Check.derived, Check.claims}

-- the rule, the two premises and the conclusion of step i, as terms
abbrev pub rule : List ℕ → ℕ → Head
rule s i = head_of (rule_at s i)

abbrev pub first_premise : List ℕ → ℕ → Term
first_premise s i = term s (p_at s i)

abbrev pub second_premise : List ℕ → ℕ → Term
second_premise s i = term s (second_at s i)

abbrev pub concluded : List ℕ → ℕ → Term
concluded s i = term s (conclusion_at s i)

-- x is in the premise set of step i; S is that of the verifying step
abbrev pub Premise : List ℕ → ℕ → Term → Type 0
Premise s i x = (x ≡ first_premise s i) ⊎ (x ≡ second_premise s i)

-- a step record, "rule, p, q, conclusion", is right in rule, numbers and shape. "Rules 1 and 2 have q = 0." A2: rule 7 "with q = 0"
pub record RecordFits (s : List ℕ) (r p q c : ℕ) : Type 0 where
  pub rule_below : r < rules
  pub p_below : p < terms s
  pub q_below : q < terms s
  pub conclusion_below : c < terms s
  pub unused : has_one r ≡ true → q ≡ 0
  pub step : Step (head_of r) (term s p) (term s (second_for r p q)) (term s c)

-- step i is right, by its record
abbrev pub StepFits : List ℕ → ℕ → Type 0
StepFits s i = RecordFits s (rule_at s i) (p_at s i) (q_at s i) (conclusion_at s i)

-- A5: in ways k and j "the guess doesn't count as known"
abbrev pub guess_counts : Claims → Bool
guess_counts verifier = true
guess_counts (derived t) = false

-- "A premise is known if it is in the knowledge, is the guess, or was concluded by an earlier step": t is known before step i; the guess only
-- where it counts
abbrev pub Known : List ℕ → ℕ → Term → Type 0
Known s i t =
    InKnowledge s t
    ⊎ (((guess_counts (claims s) ≡ true) × (t ≡ term s (guess s))) ⊎ ((j : ℕ) × (j < i) × (t ≡ concluded s j)))

-- "6 and 7 are tried together, step by step": 6 step, "rule, number or shape wrong"; 7 unfounded, "a premise not known"
abbrev pub rows6and7 : List ℕ → ℕ → ℕ → Type 0
rows6and7 s n p =
    numbered 6 (λ i. (i < steps s) × (StepFits s i → ⊥)) n p
    ⊎ numbered 7 (λ i. (i < steps s) × ((x : Term) × Premise s i x × (Known s i x → ⊥))) n p

-- "Registers 0 to K-1 hold the knowledge in order, register K the guess, K+1+i the result of step i": register r's term number
unfoldable pub register_term : List ℕ → ℕ → ℕ
register_term s r = cond (ltb r (entries s)) (entry_at s r) (cond (eqb r (entries s)) (guess s) (conclusion_at s (r - (entries s + 1))))

-- how many registers are written before step i, and so the register of its result
abbrev pub written : List ℕ → ℕ → ℕ
written s i = entries s + 1 + i

-- A5: in ways k and j the guess's "register serves no premise"
unfoldable pub register_counts : List ℕ → ℕ → Bool
register_counts s r = not (eqb r (entries s)) || guess_counts (claims s)

-- register r holds the term t, and counts
abbrev pub holds_term : List ℕ → ℕ → ℕ → Bool
holds_term s t r = register_counts s r && eqb (register_term s r) t
