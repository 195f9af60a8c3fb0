-- Check 2: the walk along four counts and their limits, and the counts that were read.
use mathlib.Core.Path.{◌≡◌, refl, sym, ap, ap₂, ◌∙◌}
use mathlib.Core.Bool.{Bool, true, false, ◌||◌}
use mathlib.Core.List.{List, [], ◌∷◌}
use Prim.Native.Nat.{ℕ, min, ◌<◌}
use native.Mathlib.Omega.{arith}
use lib.Dec.{ltb}
use lib.ListN.{length, get_or}
use Rattle.std.specs.List.{zip}
use Rattle.std.specs.Prelude.{Result, Err}
use Rattle.std.proofs.lemmas.List.{get_or_default}
use Rattle.std.proofs.lemmas.Slice.Zip.{length-zip, get_or-zip}
use Rattle.base.specs.declared.refusal.Refusal.{Refusal}
use Rattle.base.specs.{Answer.number_of, Computed.Check, Computed.passes, Computed.fails, Computed.fails_if, Code.check_of, Words.first, Words.first_from}
use Rattle.base.proofs.First.{Passed, passed_hit, passed_all}
use Rattle.base.proofs.Says.{each_of_four}
use Rattle.submission.specs.Record.{count, least, most}
use Rattle.submission.specs.Computed.{bad_count, check_limits}

-- what the walk of `check_limits` goes over: the limits, the place with the count and its limits
abbrev pub limits : List (ℕ × ℕ)
limits = (1, 250) ∷ (0, 64) ∷ (0, 128) ∷ (1, 1) ∷ []

abbrev places : List ℕ
places = 0 ∷ 1 ∷ 2 ∷ 3 ∷ []

abbrev pub walked : List ℕ → List (ℕ × (ℕ × (ℕ × ℕ)))
walked counts = zip places (zip counts limits)

limits_are : (k : ℕ) (d : ℕ × ℕ) → k < 4 → get_or limits k d ≡ (least k, most k)
limits_are k d = each_of_four (λ i. get_or limits i d ≡ (least i, most i)) refl refl refl refl k

places_are : (k d : ℕ) → k < 4 → get_or places k d ≡ k
places_are k d = each_of_four (λ i. get_or places i d ≡ i) refl refl refl refl k

-- entry k of it is p
module _ (counts : List ℕ) {k : ℕ} {p : ℕ × (ℕ × (ℕ × ℕ))} (e : (k < length (walked counts)) × (p ≡ get_or (walked counts) k p)) where
  walked_few : (k < 4) × (k < length counts) × (k < length (zip counts limits))
  walked_few =
      let u : k < min 4 (length (zip counts limits)) = rw (length-zip places (zip counts limits)) at e.0 in
      let v : length (zip counts limits) ≡ min (length counts) 4 = length-zip counts limits in
      (omega arith, omega arith, omega arith)

  walked_is : p ≡ (k, (get_or counts k 0, (least k, most k)))
  walked_is =
      let (a, b, c) = walked_few in
      e.1 ∙ get_or-zip places (zip counts limits) k p a c
      ∙ ap₂ (λ x y. (x, y)) (places_are k p.0 a) (get_or-zip counts limits k p.1 b a ∙ ap₂ (λ x y. (x, y)) (get_or_default counts k p.1.0 0 b) (limits_are k p.1.1 a))

  -- the test of it
  walked_bad : (ltb p.1.0 p.1.1.0 || ltb p.1.1.1 p.1.0) ≡ bad_count (λ i. get_or counts i 0) k
  walked_bad = ap (λ (z : ℕ × (ℕ × (ℕ × ℕ))). ltb z.1.0 z.1.1.0 || ltb z.1.1.1 z.1.0) walked_is

  pub limits_broken : {b : Bool} {u : Result Unit Refusal} {x : Refusal} → Passed (bad_count (λ i. get_or counts i 0)) 4 k → b ≡ (ltb p.1.0 p.1.1.0 || ltb p.1.1.1 p.1.0) →
      check_of u ≡ fails_if b 2 p.0 → u ≡ Err x → check_of u ≡ check_limits (λ i. get_or counts i 0)
  limits_broken {b} {u} {x} s f g h = go b refl
    where
      go : (d : Bool) → b ≡ d → check_of u ≡ check_limits (λ i. get_or counts i 0)
      go true q =
          let l = walked_few in
          let z = passed_hit s l.0 (sym walked_bad ∙ sym f ∙ q) in
          g ∙ rw (q, z) (ap (λ (y : ℕ × (ℕ × (ℕ × ℕ))). fails 2 y.0) walked_is)
      go false q = let z : check_of u ≡ passes = g ∙ rw q in absurd (let o : fails (number_of x.fault) x.place ≡ passes = sym (ap check_of h) ∙ z in cc)

pub limits_kept : (counts : List ℕ) {n : ℕ} → Passed (bad_count (λ i. get_or counts i 0)) 4 n → length counts ≡ 4 → n ≡ length (walked counts) → passes ≡ check_limits (λ i. get_or counts i 0)
limits_kept counts s f e = rw (passed_all s (omega (arith, length-zip places (zip counts limits), length-zip counts limits)))

-- four counts that were read, each byte widened
pub counts_read : (s : List ℕ) {k : Check} {a b c d t e n v : ℕ} → a ≡ count s 0 → b ≡ count s 1 → c ≡ count s 2 → d ≡ count s 3 →
    t ≡ a → e ≡ b → n ≡ c → v ≡ d → k ≡ check_limits (λ i. get_or (t ∷ e ∷ n ∷ v ∷ []) i 0) → k ≡ check_limits (count s)
unfolding first first_from
counts_read s f g h i f' g' h' i' e = rw (e, f', g', h', i', f, g, h, i)
