-- What the functions read: registers' numbers, the parts of a claim; a law for each return.
use mathlib.Core.Path.{◌≡◌, refl, sym, ap, ◌∙◌}
use mathlib.Core.Logic.{⊎_elim}
use mathlib.Core.Bool.{Bool, true, false, cond}
use mathlib.Core.List.{List, [], ◌∷◌}
use mathlib.Core.Option.{some}
use Prim.Native.Nat.{ℕ, ◌+◌, ◌≤◌, ◌<◌}
use native.Mathlib.Omega.{arith}
use lib.Dec.{eqb, ltb}
use lib.ListN.{get_or}
use mir.Syntax.{w8}
use mir.Val.{Fits}
use Rattle.base.specs.{Words.byte, Words.first, Code.Wrote, Code.check_of, Computed.fails_at}
use Rattle.std.specs.Prelude.{Result, Ok, Option as Maybe, Some, None, MatchOption}
use Rattle.base.specs.declared.refusal.Refusal.{Refusal}
use Rattle.base.specs.declared.writer.Writer.{Writer}
use Rattle.base.proofs.{Order.lt_or_ge, Find.FoundIn, Says.denies, Says.none_fails, AnswerLaws.at_passes}
use Rattle.term.specs.{Code.relation_is, Number.has_one}
use Rattle.term.specs.declared.Relation.{Relation as RelationGiven}
use Rattle.submission.proofs.Theory.ListedTerms.{claim_facts}
use Rattle.submission.specs.{Record.terms, Record.entries, Code.SubmissionRead, Code.way_is, Code.range_is, Code.IsRow, Code.IsClaim, Check.row}
use Rattle.submission.specs.declared.Range.{Range as RangeRead}
use Rattle.submission.specs.declared.Row.{Row as RowRead}
use Rattle.submission.specs.declared.Way.{Way as WayRead}
use Rattle.submission.specs.declared.Claim.{Claim}
use Rattle.derivation.specs.Step.{written}
use Rattle.program.specs.declared.Instruction.{Instruction as InstructionRead}
use Rattle.program.specs.declared.Test.{Test as TestRead}
use Rattle.program.specs.{Program.relation_of, Program.instruction_at, Program.test_at, Program.RegistersFit, Code.instruction_in, Code.test_in, Computed.bad_program}
use Rattle.program.proofs.Theory.Check13.{program_iff, right_fits}
use Rattle.machine.specs.Code.{RegisterNumbers}
use Rattle.readback.specs.ReadBack.{number, step_read, way_from, way_read, verifying_read, companion_read, claim_read}
use Rattle.readback.specs.Computed.{off_table}
use Rattle.readback.specs.Code.{Numbered}
use Rattle.readback.proofs.Theory.ReadBackAnswer.{says_off_table, listed_number, listed_on}

-- ---- check 17: v terms and n registers were counted
module _ {s P l : List ℕ} {t v n : ℕ} (z : RegisterNumbers s P l) (te : t ≡ terms s) (ve : v ≡ t) (ne : n ≡ written s (byte P 0)) where
  off_found : (r : ℕ) → r < n → v ≤ get_or l r 0 → off_table s P r ≡ true
  off_found r b c = (says_off_table s P r).1 (λ j m h. z.unlisted r (omega arith) (rw (← te, ← ve) c) j m (sym h))

  on_found : (r : ℕ) → r < n → get_or l r 0 < v → off_table s P r ≡ false
  on_found r b c = let d : get_or l r 0 < terms s = rw (← te, ← ve) c in listed_on s P r (get_or l r 0) d (sym (z.listed r (omega arith) d))

  -- the first whose number is none, as `find` gives it
  pub off_first : (o : Maybe ℕ) →
      MatchOption o ((k : ℕ) → 0 ≤ k → k < n → get_or l k 0 < v) (λ i. (0 ≤ i) × (i < n) × (v ≤ get_or l i 0) × ((k : ℕ) → 0 ≤ k → k < i → get_or l k 0 < v)) → FoundIn (off_table s P) n o
  off_first None h = λ k a b. on_found k b (h k a b)
  off_first (Some i) h = let (a, b, c, f) = h in (a, b, off_found i b c, λ k x y. on_found k (omega arith) (f k x y))

-- there are at most 256 registers
pub few_registers : {s : List ℕ} (P : List ℕ) → SubmissionRead s → bad_program s P ≡ false → written s (byte P 0) ≤ 256
few_registers {s} P u g = omega (arith, (claim_facts u).read.entries_most, ((program_iff s P).0 g).few)

-- the registers' numbers, where check 17 passed
pub all_numbered : {s P l : List ℕ} {T : Type 0} {u : Result T Refusal} {x : T} → SubmissionRead s → bad_program s P ≡ false → RegisterNumbers s P l → check_of u ≡ fails_at 17 (first (off_table s P) (written s (byte P 0))) → u ≡ Ok x → Numbered s P l
all_numbered {s} {P} {l} w g z e p =
    let on = (at_passes 17 (first (off_table s P) (written s (byte P 0)))).0 (sym e ∙ ap check_of p) in
    let none : (r : ℕ) → r < written s (byte P 0) → off_table s P r ≡ false = (none_fails _ _).0 on in
    let below : (r : ℕ) → r < written s (byte P 0) → get_or l r 0 < terms s = λ r b. ⊎_elim (λ m. m) (λ m. absurd ((denies _ (says_off_table s P r)).0 (none r b) (λ n k h. z.unlisted r b m n k (sym h)))) (lt_or_ge (get_or l r 0) (terms s)) in
    record {
      read = w;
      good = g;
      table = on;
      long = z.long;
      below = below;
      is = λ r b. sym (listed_number (claim_facts w).read P r (get_or l r 0) (below r b) (sym (z.listed r b (below r b))));
    }

-- ---- the records
module _ {s P l : List ℕ} (z : Numbered s P l) where
  few : byte P 0 ≤ 128
  few = ((program_iff s P).0 z.good).few

  -- the numbers are bytes
  byte_number : (r : ℕ) → r < written s (byte P 0) → get_or l r 0 < 256
  byte_number r b = let h = z.below r b in omega (arith, (claim_facts z.read).read.terms_most)

  module _ {i : ℕ} (b : i < byte P 0) where
    module _ {k : ℕ} (ke : k ≡ entries s) where
      pub result_fits : Fits w8 (k + 1)
      result_fits = record { fits = omega (arith, (claim_facts z.read).read.entries_most) }

      pub result_fits_2 : Fits w8 (k + 1 + i)
      result_fits_2 = record { fits = omega (arith, (claim_facts z.read).read.entries_most, few) }

      pub result_number : get_or l (k + 1 + i) 0 < 256
      result_number = byte_number (k + 1 + i) (omega arith)

    module _ {x : InstructionRead} (e : instruction_in x ≡ instruction_at P i) where
      fit : RegistersFit (written s i) (has_one (instruction_at P i).rule) (instruction_at P i)
      fit = ((program_iff s P).0 z.good).registers_right i b

      left_below : x.left < written s (byte P 0)
      left_below = let f : x.left ≡ (instruction_at P i).left = ap (λ y. y.left) e in omega (arith, fit.0)

      right_below : has_one x.rule ≡ false → x.right < written s (byte P 0)
      right_below h =
          let f : x.right ≡ (instruction_at P i).right = ap (λ y. y.right) e in
          let g : has_one (instruction_at P i).rule ≡ false = ap (λ y. has_one y.rule) (sym e) ∙ h in
          omega (arith, fit.2 g)

      pub left_number : get_or l x.left 0 < 256
      left_number = byte_number x.left left_below

      pub right_number : has_one x.rule ≡ false → get_or l x.right 0 < 256
      right_number h = byte_number x.right (right_below h)

      pub step_put : {u v : Writer} {k p q n : ℕ} → k ≡ entries s → p ≡ get_or l x.left 0 → q ≡ cond (has_one x.rule) 0 (get_or l x.right 0) → n ≡ get_or l (k + 1 + i) 0 →
          Wrote u (x.rule ∷ p ∷ q ∷ n ∷ []) v → Wrote u (step_read s P i) v
      step_put {p = p} {q} {n} ke pe qe ne put =
          let second : q ≡ cond (has_one x.rule) 0 (number s P x.right) = qe ∙ go (has_one x.rule) refl in
          rw (← e, ← (pe ∙ z.is x.left left_below), ← second, ← (ne ∙ ap (λ k. get_or l (k + 1 + i) 0) ke ∙ z.is (written s i) (omega arith))) put
        where
          go : (c : Bool) → has_one x.rule ≡ c → cond c 0 (get_or l x.right 0) ≡ cond c 0 (number s P x.right)
          go true h = refl
          go false h = z.is x.right (right_below h)

  -- the claim
  module _ {t : TestRead} (e : test_in t ≡ test_at P) where
    test_below : t.right < written s (byte P 0)
    test_below = let f : t.right ≡ (test_at P).right = ap (λ y. y.right) e in rw f (right_fits _ _ (test_at P) ((program_iff s P).0 z.good).test_right)

    pub test_number : get_or l t.right 0 < 256
    test_number = byte_number t.right test_below

    pub claim_put : {a a' : Writer} {step n m d : ℕ} (ρ : RelationGiven) (w : WayRead) (x : RowRead) {c : Claim} {u v : RangeRead} → relation_of (test_at P).rule ≡ some (relation_is ρ) →
        way_is w ≡ way_from (some (relation_is ρ)) (eqb t.left (entries s)) (ltb (entries s) t.right) → IsRow x (way_is w) → d ≡ (row (way_is w)).letter → IsClaim s c → u ≡ x.step → v ≡ x.companion →
        step ≡ verifying_read s (test_in t) (range_is u) → n ≡ get_or l t.right 0 → m ≡ companion_read s t.right n (range_is v) →
        Wrote a (c.guess ∷ step ∷ d ∷ m ∷ []) a' → Wrote a (claim_read s P) a'
    claim_put {step = step} {n} {m} ρ w x {c} re we xe de ce ue ve se ne me put =
        let r : relation_of t.letter ≡ some (relation_is ρ) = ap (λ y. relation_of y.rule) e ∙ re in
        let way : way_read s (test_in t) ≡ way_is w = ap (λ o. way_from o (eqb t.left (entries s)) (ltb (entries s) t.right)) r ∙ sym we in
        let number-is' : n ≡ number s P t.right = ne ∙ z.is t.right test_below in
        let first : verifying_read s (test_in t) (row (way_is w)).step ≡ step = ap (verifying_read s (test_in t)) (sym (ap range_is ue ∙ xe.step)) ∙ sym se in
        let second : companion_read s t.right n (row (way_is w)).companion ≡ m = ap (companion_read s t.right n) (sym (ap range_is ve ∙ xe.companion)) ∙ sym me in
        rw (← e, way, first, ← de, ← number-is', second, ← ce.guessed) put
