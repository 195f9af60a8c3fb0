-- The registers that the code keeps are the first registers of document 01: at the start, after one more, and what a look tells.
use mathlib.Core.Path.{◌≡◌, refl, sym, ap, ◌∙◌, subst}
use mathlib.Core.Bool.{Bool, true, false}
use mathlib.Core.List.{List}
use mathlib.Core.Option.{some}
use Prim.Native.Nat.{ℕ, ◌+◌, ◌≤◌, ◌<◌}
use native.Mathlib.Omega.{arith}
use native.Mathlib.Nat.{add-zero}
use lib.Dec.{eqb}
use lib.ListN.{length}
use lib.Seq.{get_or-set_same, get_or-set_other}
use borrow.Author.Tests.{eq-eqb, eqb-true, eqb-false}
use Rattle.base.specs.{Words.first_from, Words.first, Code.is_some, Code.number_is, Computed.any}
use Rattle.base.proofs.BoolLaws.{and_both, and_left, and_right}
use Rattle.base.proofs.FirstGrowing.{first_kept, first_next, first_same}
use Rattle.submission.specs.declared.Claim.{Claim}
use Rattle.submission.specs.{Code.Limited, Code.way_is, Code.IsClaim, Record.entries, Record.steps, Record.entry_at, Check.claims_in, Check.row}
use Rattle.derivation.specs.declared.Step.{Step}
use Rattle.derivation.specs.declared.Registers.{Registers}
use Rattle.derivation.specs.Step.{guess_counts, register_term, register_counts, holds_term, written}
use Rattle.derivation.specs.Code.{IsStep, Lowest, Registered, Unused, Held, holding, register_in}
use Rattle.derivation.proofs.Theory.RegisterTerms.{entry_register, guess_register, result_register, counts_other, counts_guess}
use Rattle.derivation.specs.Computed.{lowest_among}
use Rattle.std.specs.Prelude.{Option as Maybe, None, Some, is_some as is_held}
use Rattle.std.specs.Option.{option_or}
use Rattle.std.proofs.Math.ListN.{length-set}

-- ---- what a look tells
pub held_number : (v : Maybe ℕ) → is_held v ≡ is_some (number_is v)
held_number None = refl
held_number (Some i) = refl

number_back : (v : Maybe ℕ) {q : ℕ} → number_is v ≡ some q → v ≡ Some q
number_back None e = absurd (cc)
number_back (Some r) {q} e = let z : r ≡ q = cc in ap Some z

module _ {s : List ℕ} {n : ℕ} {f : List (Maybe ℕ)} (h : Lowest s n f) (t : ℕ) (l : t < 256) where
  pub held_lowest : (q : ℕ) → lowest_among s n t ≡ some q → register_in f t ≡ Some q
  held_lowest q e = number_back (register_in f t) (h.each t l ∙ e)

  -- whether the term is in one of them at all
  pub held_any : any (holds_term s t) n ≡ is_held (register_in f t)
  unfolding any
  held_any = sym (held_number (register_in f t) ∙ ap is_some (h.each t l))

-- ---- the first n registers, from none on
pub registered_none : {s : List ℕ} {r : Registers} → Unused r → Registered s 0 r
unfolding first first_from
registered_none u = record { used = u.used; first = record { few = omega arith; long = u.long; each = λ t l. ap number_is (u.first t l) } }

-- the next register counts, and holds document 01's term
module _ {s : List ℕ} {n t : ℕ} {f : List (Maybe ℕ)} (b : n < 255) (h : Lowest s n f) (z : register_counts s n ≡ true) (e : t ≡ register_term s n) where
  next_lowest : (v : Maybe ℕ) → number_is v ≡ lowest_among s n t → number_is (option_or v (Some n)) ≡ lowest_among s (n + 1) t
  next_lowest None x = sym (first_next _ n (sym x) (and_both _ _ z (eq-eqb _ _ (sym e))))
  next_lowest (Some q) x = sym (first_kept _ n (n + 1) q (omega arith) (sym x))

  at_term : t < 256 → number_is (register_in (holding f t n) t) ≡ lowest_among s (n + 1) t
  unfolding holding
  at_term l = rw (get_or-set_same f t (option_or (register_in f t) (Some n)) None (omega (arith, h.long))) (next_lowest (register_in f t) (h.each t l))

  elsewhere : (u : ℕ) → u < 256 → eqb t u ≡ false → number_is (register_in (holding f t n) u) ≡ lowest_among s (n + 1) u
  unfolding holding
  elsewhere u l x =
      let w : lowest_among s (n + 1) u ≡ lowest_among s n u = first_same _ n (and_right (register_counts s n) _ (rw e at x)) in
      rw w (ap number_is (get_or-set_other f t u (option_or (register_in f t) (Some n)) None (λ q. eqb-false t u x (sym q))) ∙ h.each u l)

  holding_long : length (holding f t n) ≡ 256
  unfolding holding
  holding_long = rw (length-set f t (option_or (register_in f t) (Some n))) h.long

  pub lowest_more : Lowest s (n + 1) (holding f t n)
  lowest_more = record { few = omega arith; long = holding_long; each = λ u l. go u l (eqb t u) refl }
    where
      go : (u : ℕ) → u < 256 → (c : Bool) → eqb t u ≡ c → number_is (register_in (holding f t n) u) ≡ lowest_among s (n + 1) u
      go u l true x =
          let q : t ≡ u = eqb-true t u x in
          subst (λ k. number_is (register_in (holding f t n) k) ≡ lowest_among s (n + 1) k) q (at_term (omega arith))
      go u l false x = elsewhere u l x

-- the next register does not count
pub lowest_same : {s : List ℕ} {n : ℕ} {f : List (Maybe ℕ)} → n < 255 → Lowest s n f → register_counts s n ≡ false → Lowest s (n + 1) f
lowest_same {s} {n} b h z = record {
  few = omega arith;
  long = h.long;
  each = λ u l. h.each u l ∙ sym (first_same (holds_term s u) n (and_left _ (eqb (register_term s n) u) z));
}

-- ---- the registers in the order in which they are written: the knowledge, the guess, the results of the steps
-- the next register is held
written_more : {s : List ℕ} {n t : ℕ} {r r' : Registers} → n < 255 → Registered s n r → register_counts s n ≡ true → t ≡ register_term s n → Held r t r' → Registered s (n + 1) r'
written_more b h z e k = record { used = rw (k.used, h.used); first = rw (k.first, h.used) (lowest_more b h.first z e) }

-- whether the guess's register counts
guess_counts_in : {s : List ℕ} {c : Claim} {b d : Bool} → IsClaim s c → b ≡ guess_counts (row (way_is c.way)).claims → b ≡ d → register_counts s (entries s) ≡ d
guess_counts_in {s} x e f = counts_guess s ∙ ap guess_counts (ap claims_in x.way) ∙ sym e ∙ f

module _ {s : List ℕ} {r r' : Registers} where
  pub entry_written : {i n t : ℕ} → Limited s → n ≡ entries s → i < n → Registered s i r → t ≡ entry_at s i → Held r t r' → Registered s (i + 1) r'
  entry_written {i} k m l h x a = written_more (omega (arith, k.entries)) h (counts_other s i (λ q. omega arith)) (x ∙ sym (entry_register s i (omega arith))) a

  module _ {c : Claim} {b : Bool} {i n : ℕ} (k : Limited s) (x : IsClaim s c) (e : b ≡ guess_counts (row (way_is c.way)).claims) (m : n ≡ entries s) (l : n ≤ i) (u : i ≤ n) (h : Registered s i r) where
    pub guess_written : b ≡ true → Held r c.guess r' → Registered s (written s 0) r'
    guess_written d a =
        let z : i ≡ entries s = omega arith in
        rw add-zero (written_more (omega (arith, k.entries)) (rw z at h) (guess_counts_in x e d) (x.guessed ∙ sym (guess_register s)) a)

    pub guess_skipped : b ≡ false → r'.first ≡ r.first → r'.used ≡ r.used + 1 → Registered s (written s 0) r'
    guess_skipped d f v =
        let z : i ≡ entries s = omega arith in
        let g : Registered s (entries s) r = rw z at h in
        rw add-zero (record { used = rw (v, g.used); first = rw f (lowest_same (omega (arith, k.entries)) g.first (guess_counts_in x e d)) })

  pub result_written : {i n : ℕ} {st : Step} → Limited s → n ≡ steps s → i < n → Registered s (written s i) r → IsStep s i st → Held r st.conclusion r' → Registered s (written s (i + 1)) r'
  result_written {i} k m l h x a =
      let z : written s i + 1 ≡ written s (i + 1) = omega arith in
      rw (← z) (written_more (omega (arith, k.entries, k.steps)) h (counts_other s (written s i) (λ q. omega arith)) (x.conclusion ∙ sym (result_register s i)) a)
