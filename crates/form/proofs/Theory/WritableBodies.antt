-- Bodies that pass checks 14 and 2: what the checks say, and the bodies' lengths.
use mathlib.Core.Path.{◌≡◌, refl, ap}
use mathlib.Core.Bool.{false, not}
use mathlib.Core.List.{List, [], ◌∷◌}
use Prim.Native.Nat.{ℕ, ◌+◌, ◌/◌, ◌%◌, ◌≤◌, ◌<◌}
use native.Mathlib.Omega.{arith}
use lib.ListN.{length, get_or, length-append}
use lib.Dec.{eqb}
use Rattle.base.specs.Words.{listed, grow}
use Rattle.base.specs.Computed.{any, passes}
use Rattle.base.proofs.Says.{Says, says_eqb, says_not, none_fails, any_false, not_not_false, each_of_four}
use Rattle.base.proofs.AnswerLaws.{at_passes}
use Rattle.submission.specs.{Record.width, Record.start_of, Record.least, Record.most, Body.Bodies, Body.body, Body.records, Body.submission_of, Computed.check_limits}
use Rattle.submission.proofs.Theory.{ContentsMeant.contents_length, ListedTerms.within_limits}
use Rattle.form.specs.Write.{Ragged}
use Rattle.form.specs.Computed.{ragged}
use Rattle.form.specs.Code.{Writable}

pub submission_length : (b : Bodies) → length (submission_of b) ≡ 16 + length b.terms + length b.knowledge + length b.derivation + length b.claim
unfolding submission_of
submission_length b = simp (length-append, contents_length)

-- "a body that isn't whole records": one by one
pub says_ragged : (b : Bodies) (i : ℕ) → i < 4 → Says (ragged b i) (Ragged b i)
says_ragged b =
    each_of_four (λ i. Says (ragged b i) (Ragged b i))
    (says (length b.terms % 3) (λ f n e. f (omega arith)) (λ f e. f (length b.terms / 3) (omega arith)))
    (says (length b.knowledge % 1) (λ f n e. f (omega arith)) (λ f e. f (length b.knowledge) (omega arith)))
    (says (length b.derivation % 4) (λ f n e. f (omega arith)) (λ f e. f (length b.derivation / 4) (omega arith)))
    (says (length b.claim % 4) (λ f n e. f (omega arith)) (λ f e. f (length b.claim / 4) (omega arith)))
  where
    says : {P : Type 0} (r : ℕ) → ((r ≡ 0 → ⊥) → P) → (P → r ≡ 0 → ⊥) → Says (not (eqb r 0)) P
    says r f g = let w = says_not (eqb r 0) (says_eqb r 0) in (λ e. f (w.0 e), λ p. w.1 (g p))

-- bodies that passed checks 14 and 2
pub writable : (b : Bodies) → any (ragged b) 4 ≡ false → check_limits (records b) ≡ passes → Writable b
writable b e f =
    let even : (i : ℕ) → i < 4 → length (body b i) % width i ≡ 0 = λ i l. (says_eqb _ 0).0 ((not_not_false _).0 ((any_false (ragged b) 4).0 e i l)) in
    let z0 : length b.terms % 3 ≡ 0 = even 0 (omega arith) in
    let z2 : length b.derivation % 4 ≡ 0 = even 2 (omega arith) in
    let z3 : length b.claim % 4 ≡ 0 = even 3 (omega arith) in
    let within : (i : ℕ) → i < 4 → (least i ≤ records b i) × (records b i ≤ most i) = λ i l. within_limits (records b) i ((none_fails _ _).0 ((at_passes 2 _).0 f) i l) in
    let t : length b.terms / 3 ≤ 250 = (within 0 (omega arith)).1 in
    let k : length b.knowledge / 1 ≤ 64 = (within 1 (omega arith)).1 in
    let d : length b.derivation / 4 ≤ 128 = (within 2 (omega arith)).1 in
    let (v, v') : (1 ≤ length b.claim / 4) × (length b.claim / 4 ≤ 1) = within 3 (omega arith) in
    record {
      whole = e;
      limited = f;
      terms = omega arith;
      terms_most = omega arith;
      knowledge_most = omega arith;
      derivation = omega arith;
      derivation_most = omega arith;
      claim = omega arith;
    }

-- where four bodies start: each where the former ends; and where the last one ends
pub record StartsAt (start : ℕ → ℕ) (b : Bodies) : Type 0 where
  pub terms : start 0 ≡ 16
  pub knowledge : start 1 ≡ 16 + length b.terms
  pub derivation : start 2 ≡ 16 + length b.terms + length b.knowledge
  pub claim : start 3 ≡ 16 + length b.terms + length b.knowledge + length b.derivation
  pub end : start 4 ≡ length (submission_of b)

pub starts : {b : Bodies} → Writable b → StartsAt (start_of (records b)) b
unfolding start_of
starts {b} w = record {
  terms = refl;
  knowledge = omega (arith, w.terms);
  derivation = omega (arith, w.terms);
  claim = omega (arith, w.terms, w.derivation);
  end = omega (arith, submission_length b, w.terms, w.derivation, w.claim);
}

-- the four starts, one behind the other
pub starts_listed : {b : Bodies} → Writable b → 16 ∷ (16 + length b.terms) ∷ (16 + length b.terms + length b.knowledge) ∷ (16 + length b.terms + length b.knowledge + length b.derivation) ∷ [] ≡ listed (start_of (records b)) 4
unfolding grow
starts_listed w = let e = starts w in rw (e.terms, e.knowledge, e.derivation, e.claim)

module _ {b : Bodies} (w : Writable b) where
  -- the last body ends where the submission does
  pub last_start : {l : List ℕ} → l ≡ listed (start_of (records b)) 4 → get_or l 3 0 + length b.claim ≡ length (submission_of b)
  unfolding grow
  last_start f = let e = starts w in let z = ap (λ m. get_or m 3 0) f in omega (arith, submission_length b, e.claim)

  pub length_few : length (submission_of b) < 65536
  length_few = omega (arith, submission_length b, w.terms_most, w.knowledge_most, w.derivation_most, w.claim)

  -- what stands in an entry fits in it
  pub starts_few : (i : ℕ) → i < 4 → start_of (records b) i < 65536
  starts_few =
      let e = starts w in
      each_of_four (λ i. start_of (records b) i < 65536) (omega (arith, e.terms)) (omega (arith, e.knowledge, w.terms_most)) (omega (arith, e.derivation, w.terms_most, w.knowledge_most)) (omega (arith, e.claim, w.terms_most, w.knowledge_most, w.derivation_most))

  pub records_few : (i : ℕ) → i < 4 → records b i < 256
  records_few =
      each_of_four (λ i. records b i < 256) (omega (arith, w.terms_most)) (omega (arith, w.knowledge_most)) (omega (arith, w.derivation_most)) (omega (arith, w.claim))
