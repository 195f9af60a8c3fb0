-- What the code's records mean in document 01's terms.
use mathlib.Core.{Path.◌≡◌, List.List}
use Rattle.std.specs.Prelude.{ℕ, ◌<◌, ◌+◌, Result, Ok, Option as Maybe, Some, None}
use Rattle.std.specs.Option.{option_or}
use lib.{ListN.length, ListN.get_or, ListN.set}
use Rattle.base.specs.{Computed.Check, Computed.fails_if, Computed.and_then, Code.check_of, Code.number_is}
use Rattle.submission.specs.{Record.steps, Record.rule_at, Record.p_at, Record.q_at, Record.conclusion_at}
use Rattle.base.specs.declared.refusal.Refusal.{Refusal}
use Rattle.derivation.specs.declared.Step.{Step}
use Rattle.derivation.specs.declared.Registers.{Registers}
use Rattle.derivation.specs.{Step.written, Computed.lowest_among, Computed.bad_step, Computed.unfounded, Computed.check_steps}

-- r holds step i
pub record IsStep (s : List ℕ) (i : ℕ) (r : Step) : Type 0 where
  pub rule : r.rule ≡ rule_at s i
  pub first : r.p ≡ p_at s i
  pub second : r.q ≡ q_at s i
  pub conclusion : r.conclusion ≡ conclusion_at s i

-- the lowest register that holds the term t, where first has one
abbrev pub register_in : List (Maybe ℕ) → ℕ → Maybe ℕ
register_in first t = get_or first t None

-- first has for each term number the lowest of the first n registers that counts and holds the term
pub record Lowest (s : List ℕ) (n : ℕ) (first : List (Maybe ℕ)) : Type 0 where
  pub few : n < 256
  pub long : length first ≡ 256
  pub each : (t : ℕ) → t < 256 → number_is (register_in first t) ≡ lowest_among s n t

-- r is the first n registers: how many they are, and the lowest for each term
pub record Registered (s : List ℕ) (n : ℕ) (r : Registers) : Type 0 where
  pub used : r.used ≡ n
  pub first : Lowest s n r.first

-- no register is in use
pub record Unused (r : Registers) : Type 0 where
  pub used : r.used ≡ 0
  pub long : length r.first ≡ 256
  pub first : (t : ℕ) → t < 256 → register_in r.first t ≡ None

-- first, once the next register q holds the term t: it is the lowest where t had none
unfoldable pub holding : List (Maybe ℕ) → ℕ → ℕ → List (Maybe ℕ)
holding first t q = set first t (option_or (register_in first t) (Some q))

-- new is old, once its next register holds the term t
pub record Held (old : Registers) (t : ℕ) (new : Registers) : Type 0 where
  pub first : new.first ≡ holding old.first t old.used
  pub used : new.used ≡ old.used + 1

-- step i's 6, then its 7
abbrev pub check_step : List ℕ → ℕ → Check
check_step s i = and_then (fails_if (bad_step s i) 6 i) (fails_if (unfounded s i) 7 i)

-- r is the result of checks 6 and 7, with the registers after the last step where they pass
pub record StepsChecked (s : List ℕ) (r : Result Registers Refusal) : Type 0 where
  pub answer : check_of r ≡ check_steps s
  pub registers : (g : Registers) → r ≡ Ok g → Registered s (written s (steps s)) g
