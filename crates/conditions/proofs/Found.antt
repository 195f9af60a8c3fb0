-- Numbers that the code finds: the lowest register of a term, and what is known by it; the first number at which a test holds.
use mathlib.Core.Path.{◌≡◌, refl, sym, ap, ◌∙◌}
use mathlib.Core.Bool.{Bool, false}
use mathlib.Core.List.{List}
use mathlib.Core.Option.{none, some}
use mathlib.Core.Logic.{⊎_elim}
use Prim.Native.Nat.{ℕ, ◌+◌, ◌≤◌, ◌<◌}
use native.Mathlib.Omega.{arith}
use lib.Dec.{leb}
use borrow.Author.Tests.{le-leb, lt-leb}
use Rattle.base.specs.{Words.first, Code.is_some, Code.number_is}
use Rattle.base.proofs.First.{first_none, first_some, passed_any, passed_not_any}
use Rattle.base.proofs.Order.{lt_or_ge}
use Rattle.submission.specs.{Record.entries, Record.steps}
use Rattle.derivation.specs.{Step.written, Computed.is_known}
use Rattle.derivation.specs.Code.{Lowest, register_in}
use Rattle.derivation.specs.Computed.{lowest_among}
use Rattle.std.specs.Prelude.{Option as Maybe, Some, None, MatchOption, IsSomeAnd, is_some as is_held}
pub use Rattle.derivation.proofs.RegistersHeld.{held_number}
use Rattle.base.specs.Computed.{any}

-- ---- what is known, by the lowest register v of the term t
module _ {s : List ℕ} {n : ℕ} {g : List (Maybe ℕ)} (w : Lowest s n g) (t : ℕ) (b : t < 256) {v : Maybe ℕ} (e : v ≡ register_in g t) where
  pub register_found : number_is v ≡ lowest_among s n t
  register_found = ap number_is e ∙ w.each t b

-- ---- a number that is found
-- whether it is below m
module _ (p : ℕ → Bool) (n m : ℕ) (l : m ≤ n) where
  none_below : first p n ≡ none → false ≡ any p m
  none_below z = sym (passed_not_any {i = m} (record { within = omega arith; failed = λ k b. first_none p n z k (omega arith) }) (omega arith))

  found_below : (r k : ℕ) → m ≡ k + 1 → first p n ≡ some r → leb r k ≡ any p m
  found_below r k q z =
      let w = first_some p n r z in
      ⊎_elim (λ b. lt-leb r k b ∙ sym (passed_not_any {i = m} (record { within = omega arith; failed = λ j h. w.2 j (omega arith) }) (omega arith)))
      (λ b. le-leb r k b ∙ sym (passed_any {i = r} (record { within = omega arith; failed = w.2 }) (omega arith) w.1))
      (lt_or_ge k r)

-- ---- the lowest register v of the term t after the last step
module _ (s : List ℕ) (t : ℕ) (v : Maybe ℕ) (e : number_is v ≡ lowest_among s (written s (steps s)) t) where
  pub known_at_end : is_held v ≡ is_known s (steps s) t
  unfolding any
  known_at_end = held_number v ∙ ap is_some e

  -- t is in a register of the knowledge, or the guess's
  pub known_at_start : (k : ℕ) {r : Bool} {Q : ℕ → Type 0} → k ≡ entries s → MatchOption v (r ≡ false) Q → ((q : ℕ) → Q q → r ≡ leb q k) → r ≡ is_known s 0 t
  known_at_start k {r} {Q} q f m = go v refl f
    where
      go : (o : Maybe ℕ) → v ≡ o → MatchOption o (r ≡ false) Q → r ≡ is_known s 0 t
      go None g h = h ∙ none_below _ (written s (steps s)) (written s 0) (omega arith) (sym e ∙ ap number_is g)
      go (Some i) g h = m i h ∙ found_below _ (written s (steps s)) (written s 0) (omega arith) i k (omega arith) (sym e ∙ ap number_is g)

-- a number mapped to its own value
pub mapped : (o r : Maybe ℕ) → MatchOption o (r ≡ None) (λ x. IsSomeAnd r (λ y. y ≡ x)) → number_is r ≡ number_is o
mapped None r h = ap number_is h
mapped (Some x) None h = absurd h
mapped (Some x) (Some y) h = ap some h
