-- What the code's tests and requirements mean in document 01's terms.
use mathlib.Core.{Path.◌≡◌, Logic.◌⊎◌, Logic.◌↔◌, Bool.Bool, Bool.true, Bool.◌&&◌, Bool.◌||◌, Bool.not, List.List}
use Rattle.std.specs.Prelude.{ℕ, ◌<◌, eqb}
use Rattle.base.specs.{Computed.passes, Words.Bytes}
use Rattle.submission.specs.{Record.steps, Record.rule_at, Record.conclusion_at, Record.verifying, Record.companion, Check.Operand, Check.verifying_result, Check.companion_result, Check.lowest_conclusion, Check.lowest_companion, Check.guess_register, Check.given_register, Check.derived, Check.claims, Computed.checks1to5}
use Rattle.term.specs.Term.{Term}
use Rattle.derivation.specs.{Computed.is_known, Computed.check_steps, Step.rule, Step.Premise}
use Rattle.conditions.specs.{Computed.same_premises, Computed.checks_before_page}

-- bytes that passed checks 1 to 7
pub record Founded (s : List ℕ) : Type 0 where
  pub bytes : Bytes s
  pub read : checks1to5 s ≡ passes
  pub founded : check_steps s ≡ passes

-- bytes that passed all checks before 11
pub record Acceptable (s : List ℕ) : Type 0 where
  pub bytes : Bytes s
  pub passed : checks_before_page s ≡ passes

-- way a: step j concludes what step i does, by another rule or from another premise set
abbrev pub other_way : List ℕ → ℕ → ℕ → Bool
other_way s i j =
    eqb (conclusion_at s j) (conclusion_at s i) && (not (eqb (rule_at s i) (rule_at s j)) || not (same_premises s i j))

-- the register that a test names can be found: its step is one of the derivation, or its term is known after the last step, or claimed
abbrev pub Held : List ℕ → Operand → Type 0
Held s verifying_result = verifying s < steps s
Held s companion_result = companion s < steps s
Held s lowest_conclusion = is_known s (steps s) (conclusion_at s (verifying s)) ≡ true
Held s lowest_companion = is_known s (steps s) (companion s) ≡ true
Held s guess_register = Unit {0}
Held s (given_register t) = claims s ≡ derived t

-- "with another rule or another premise set"
abbrev pub Differs : List ℕ → ℕ → ℕ → Type 0
Differs s i j = (rule s i ≡ rule s j → ⊥) ⊎ (((x : Term) → Premise s i x ↔ Premise s j x) → ⊥)
