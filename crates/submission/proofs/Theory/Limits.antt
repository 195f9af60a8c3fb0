-- "250 terms pass check 2 and 251 don't", and the other limits likewise, by one table-wide fact.
use mathlib.Core.Path.{◌≡◌, refl}
use mathlib.Core.List.{List, [], ◌∷◌, map}
use Prim.Native.Nat.{ℕ}
use lib.ListN.{get_or}
use Rattle.base.specs.Words.{first, first_from}
use Rattle.base.specs.Computed.{Check, passes, fails}
use Rattle.submission.specs.Computed.{check_limits}

-- four counts, and what check 2 says
pub record Limit : Type 0 where
  pub counts : List ℕ
  pub wanted : Check

abbrev limit : ℕ → ℕ → ℕ → ℕ → Check → Limit
limit t k d v w = record { counts = t ∷ k ∷ d ∷ v ∷ []; wanted = w }

abbrev pub limits : List Limit
limits =
    limit 250 64 128 1 passes
    ∷ limit 251 64 128 1 (fails 2 0)
    ∷ limit 1 0 0 1 passes
    ∷ limit 0 0 0 1 (fails 2 0)
    ∷ limit 250 65 129 0 (fails 2 1)
    ∷ limit 250 64 129 0 (fails 2 2)
    ∷ limit 250 64 128 0 (fails 2 3)
    ∷ limit 250 64 128 2 (fails 2 3)
    ∷ []

pub limits_right : map (λ l. check_limits (λ i. get_or l.counts i 0)) limits ≡ map (λ l. l.wanted) limits
unfolding first first_from
limits_right = refl
