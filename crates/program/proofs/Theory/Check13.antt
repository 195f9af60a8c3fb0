-- Check 13, one test at a time: what makes an instruction, a test or a program bad.
use mathlib.Core.Path.{◌≡◌, refl, sym, ap, ◌∙◌, subst}
use mathlib.Core.Logic.Iff
use mathlib.Core.Logic.{◌↔◌}
use mathlib.Core.Bool.{Bool, true, false, not, cond, or-true, ◌&&◌, ◌||◌, true≢false, false≢true}
use mathlib.Core.Option.{Option, none, some}
use mathlib.Core.List.{List}
use Prim.Native.Nat.{ℕ, ◌+◌, ◌≤◌, ◌<◌}
use lib.Dec.{eqb, ltb}
use lib.ListN.{length}
use native.Mathlib.Omega.{arith}
use borrow.Author.Tests.{eq-eqb, ne_eqb, lt-ltb, le-ltb, eqb-true, ltb-false}
use Rattle.base.specs.Words.{byte}
use Rattle.base.proofs.Says.{Says, says_true, says_eqb, says_ltb, says_and, says_any, denies, not_not_false, or-false}
use Rattle.term.specs.Number.{rules, has_one}
use Rattle.submission.specs.Record.{entries}
use Rattle.term.specs.Term.{Relation, equal, inverses}
use Rattle.term.specs.Code.{relation_is}
use Rattle.term.specs.declared.Relation.{Relation as RelationGiven}
use Rattle.std.specs.Prelude.{Option as Maybe, Some, None, Result, Ok, Err}
use Rattle.base.specs.declared.refusal.Refusal.{Refusal}
use Rattle.std.specs.Option.{ok_or}
use Rattle.base.specs.{Answer.number_of, Code.check_of, Computed.fails_if}
use Rattle.program.specs.Code.{relation_in, asked_by, asked, asks}
use Rattle.program.specs.Program.{row_of, relation_of, Instruction, program_length, instruction_at, test_at, operand, RegistersFit, ProgramFits}
use Rattle.base.specs.Computed.{any}
use Rattle.program.specs.Computed.{good_registers, bad_instruction, bad_test, bad_program}

-- ---- the instructions of the program P, where k registers hold the knowledge
abbrev pub bad_at : ℕ → List ℕ → ℕ → Bool
bad_at k P i = bad_instruction (k + 1 + i) (instruction_at P i)

-- ---- a test over n registers
cond_same : (b : Bool) (x : Option Relation) → cond b x x ≡ x
cond_same true x = refl
cond_same false x = refl

flip : (b : Bool) (x y : Option Relation) → cond b x y ≡ cond (not b) y x
flip true x y = refl
flip false x y = refl

-- every test names two registers
two_named : (n : ℕ) (r : Relation) (i j : ℕ) → good_registers n (eqb (row_of r).registers 1) i j ≡ (ltb i n && ltb j n)
two_named n equal i j = refl
two_named n inverses i j = refl

module _ (n : ℕ) (t : Instruction) where
  test_asks : cond (ltb t.left n && ltb t.right n) (relation_of t.rule) none ≡ asked_by n t
  unfolding bad_test
  test_asks = go (relation_of t.rule)
    where
      go : (o : Option Relation) → cond (ltb t.left n && ltb t.right n) o none ≡ cond (elim o [ none ↦ true | some r ↦ not (good_registers n (eqb (row_of r).registers 1) t.left t.right) ]) none o
      go none = cond_same _ none
      go (some r) = rw (two_named n r t.left t.right) (flip (ltb t.left n && ltb t.right n) (some r) none)

  pub left_unwritten : {b : Bool} → b ≡ ltb t.left n → b ≡ false → none ≡ asked_by n t
  left_unwritten e f = rw (← e, f) at test_asks

  pub right_unwritten : {b c : Bool} → b ≡ ltb t.left n → b ≡ true → c ≡ ltb t.right n → c ≡ false → none ≡ asked_by n t
  right_unwritten e f g h = rw (← e, f, ← g, h) at test_asks

  pub both_written : {b c : Bool} {o : Option Relation} → b ≡ ltb t.left n → b ≡ true → c ≡ ltb t.right n → c ≡ true → o ≡ relation_of t.rule → o ≡ asked_by n t
  both_written e f g h d = d ∙ rw (← e, f, ← g, h) at test_asks

-- ---- a program
module _ (s P : List ℕ) {n : ℕ} (c : n ≡ byte P 0) where
  pub long_program : 128 < n → none ≡ asked s P
  unfolding bad_program
  long_program l = rw (← c, lt-ltb 128 n l, or-true)

  pub odd_program : (length P ≡ program_length n → ⊥) → none ≡ asked s P
  unfolding bad_program
  odd_program f = rw (← c, ne_eqb _ _ f, or-true, or-true)

  -- the first byte is right, and so is the length
  module _ (f : n ≤ 128) (l : length P ≡ program_length n) {k : ℕ} (h : k ≡ entries s) where
    right_length : (any (bad_at k P) (byte P 0) || bad_test (k + 1 + n) (test_at P)) ≡ bad_program s P
    unfolding bad_program
    right_length = let o : (length P ≡ 0 → ⊥) = λ z. omega arith in rw (h, ne_eqb _ _ o, ← c, le-ltb 128 n f, eq-eqb _ _ l)

    pub bad_steps : {b : Bool} → b ≡ any (bad_at k P) (byte P 0) → b ≡ true → none ≡ asked s P
    bad_steps e t = rw (← right_length, ← e, t)

    pub program_test : {b : Bool} {o : Option Relation} {t : Instruction} {u w : ℕ} → b ≡ any (bad_at k P) (byte P 0) → b ≡ false → u ≡ k → w ≡ n → t ≡ test_at P → o ≡ asked_by (u + 1 + w) t → o ≡ asked s P
    program_test e a q y z i = i ∙ rw (← right_length, ← e, a, ← z, q, y)

-- ---- what check 13 says: row 13
says_registers : (n : ℕ) (one : Bool) (i : Instruction) → Says (good_registers n one i.left i.right) (RegistersFit n one i)
says_registers n true i =
    let w = says_and _ _ (says_ltb i.left n) (says_eqb i.right 0) in
    (λ e. let (l, z) = w.0 e in (l, λ _. z, λ f. absurd (true≢false f)), λ (l, u, v). w.1 (l, u refl))
says_registers n false i =
    let w = says_and _ _ (says_ltb i.left n) (says_ltb i.right n) in
    (λ e. let (l, r) = w.0 e in (l, λ f. absurd (false≢true f), λ _. r), λ (l, u, v). w.1 (l, v refl))

-- both registers of an instruction that fits are written, and so is its second operand's
pub right_fits : (n : ℕ) (one : Bool) (i : Instruction) → RegistersFit n one i → i.right < n
right_fits n true i (l, u, v) = let z = u refl in omega arith
right_fits n false i (l, u, v) = v refl

pub operand_fits : (n : ℕ) (i : Instruction) → RegistersFit n (has_one i.rule) i → operand i < n
operand_fits n i f = go (has_one i.rule) f.0 (right_fits n _ i f)
  where
    go : (one : Bool) → i.left < n → i.right < n → cond one i.left i.right < n
    go true l r = l
    go false l r = r

instruction_iff : (n : ℕ) (i : Instruction) → (bad_instruction n i ≡ false) ↔ ((i.rule < rules) × RegistersFit n (has_one i.rule) i)
unfolding bad_instruction
instruction_iff n i = Iff.trans (not_not_false _) (says_and _ _ (says_ltb i.rule rules) (says_registers n (has_one i.rule) i))

-- a good test asks for a relation, and names registers that are written
abbrev TestFits : ℕ → Instruction → Type 0
TestFits n t = (r : Relation) × (relation_of t.rule ≡ some r) × RegistersFit n (eqb (row_of r).registers 1) t

test_iff : (n : ℕ) (t : Instruction) → (bad_test n t ≡ false) ↔ TestFits n t
unfolding bad_test
test_iff n t = go (relation_of t.rule) refl
  where
    go : (o : Option Relation) → relation_of t.rule ≡ o →
        (elim o [ none ↦ true | some r ↦ not (good_registers n (eqb (row_of r).registers 1) t.left t.right) ] ≡ false) ↔ TestFits n t
    go none f = (λ e. absurd (true≢false e), λ (r, g, h). absurd (let z : none ≡ some r = sym f ∙ g in let o : ◌≡◌ {A = ℕ} 0 1 = cc in omega arith))
    go (some r) f =
        let w = Iff.trans (not_not_false _) (says_registers n (eqb (row_of r).registers 1) t) in
        (λ e. (r, f, w.0 e), λ (q, g, h). let z : some r ≡ some q = sym f ∙ g in let p : q ≡ r = cc in w.1 (subst (λ x. RegistersFit n (eqb (row_of x).registers 1) t) p h))

none_any : (p : ℕ → Bool) (n : ℕ) → (any p n ≡ false) ↔ ((i : ℕ) → i < n → p i ≡ false)
none_any p n = (λ f i l. (denies (p i) (says_true (p i))).1 (λ t. w.0 f (i, l, t)), λ f. w.1 (λ (i, l, t). true≢false (sym t ∙ f i l)))
  where
    w : (any p n ≡ false) ↔ ((i : ℕ) × (i < n) × (p i ≡ true) → ⊥)
    w = denies _ (says_any p n (λ k _. says_true (p k)))

pub program_iff : (s P : List ℕ) → (bad_program s P ≡ false) ↔ ProgramFits s P
unfolding bad_program
program_iff s P = (up, down)
  where
    up : bad_program s P ≡ false → ProgramFits s P
    up e =
        let (e0, e1) = (or-false (eqb (length P) 0) _).0 e in
        let (e2, e3) = (or-false (ltb 128 (byte P 0)) _).0 e1 in
        let (e4, e5) = (or-false (not (eqb (length P) (program_length (byte P 0)))) _).0 e3 in
        let (e6, e7) = (or-false (any (bad_at (entries s) P) (byte P 0)) _).0 e5 in
        let each : (i : ℕ) → i < byte P 0 → ((instruction_at P i).rule < rules) × RegistersFit (entries s + 1 + i) (has_one (instruction_at P i).rule) (instruction_at P i) =
        λ i l. (instruction_iff (entries s + 1 + i) (instruction_at P i)).0 ((none_any (bad_at (entries s) P) (byte P 0)).0 e6 i l) in
        let (r, f, g) = (test_iff (entries s + 1 + byte P 0) (test_at P)).0 e7 in
        record {
          few = ltb-false 128 (byte P 0) e2;
          long = eqb-true _ _ ((not_not_false _).0 e4);
          rules_right = λ i l. (each i l).0;
          registers_right = λ i l. (each i l).1;
          relation = r;
          letter_right = f;
          test_right = g;
        }

    down : ProgramFits s P → bad_program s P ≡ false
    down f =
        let o : (length P ≡ 0 → ⊥) = λ e. omega (arith, f.long) in
        let each : (i : ℕ) → i < byte P 0 → bad_at (entries s) P i ≡ false = λ i l. (instruction_iff (entries s + 1 + i) (instruction_at P i)).1 (f.rules_right i l, f.registers_right i l) in
        (or-false (eqb (length P) 0) _).1 (
          ne_eqb _ _ o,
          (or-false (ltb 128 (byte P 0)) _).1 (
            le-ltb 128 (byte P 0) f.few,
            (or-false (not (eqb (length P) (program_length (byte P 0)))) _).1 (
              (not_not_false _).1 (eq-eqb _ _ f.long),
              (or-false (any (bad_at (entries s) P) (byte P 0)) _).1 (
                (none_any (bad_at (entries s) P) (byte P 0)).1 each,
                (test_iff (entries s + 1 + byte P 0) (test_at P)).1 (f.relation, f.letter_right, f.test_right),
              ),
            ),
          ),
        )

-- ---- what check 13 answers
-- of a good program the test's letter is one, so that nothing is asked exactly where the program is bad
module _ (s P : List ℕ) where
  pub program_checked : (o : Maybe RelationGiven) (r : Refusal) → number_of r.fault ≡ 13 → r.place ≡ 0 → relation_in o ≡ asked s P →
      (check_of (ok_or o r) ≡ fails_if (bad_program s P) 13 0) × (asks (ok_or o r) ≡ asked s P)
  program_checked o r n p e = go o (bad_program s P) refl e
    where
      go : (o : Maybe RelationGiven) (b : Bool) → bad_program s P ≡ b → relation_in o ≡ asked s P → (check_of (ok_or o r) ≡ fails_if (bad_program s P) 13 0) × (asks (ok_or o r) ≡ asked s P)
      go None true f e = (rw (f, n, p), e)
      go None false f e =
          let z : none ≡ some ((program_iff s P).0 f).relation = e ∙ rw (f, ((program_iff s P).0 f).letter_right) in
          absurd (let o : ◌≡◌ {A = ℕ} 0 1 = cc in omega arith)
      go (Some x) true f e = let z : some (relation_is x) ≡ none = e ∙ rw f in absurd (let o : ◌≡◌ {A = ℕ} 0 1 = cc in omega arith)
      go (Some x) false f e = (rw f, e)

module _ (s P : List ℕ) {o : Result RelationGiven Refusal} (e : asks o ≡ asked s P) where
  by_case : (b : Bool) → bad_program s P ≡ b → ((x : Refusal) → o ≡ Err x → bad_program s P ≡ true) ×
      ((x : RelationGiven) → o ≡ Ok x → (bad_program s P ≡ false) × (relation_of (test_at P).rule ≡ some (relation_is x)))
  by_case true f = (λ x h. f, λ x h. let z : none ≡ some (relation_is x) = rw f at (sym e ∙ ap asks h) in absurd (let o : ◌≡◌ {A = ℕ} 0 1 = cc in omega arith))
  by_case false f = (
    λ x h.
        let g = ((program_iff s P).0 f).letter_right in
        let z : relation_of (test_at P).rule ≡ none = rw f at (sym e ∙ ap asks h) in
        absurd (let o : ◌≡◌ {A = ℕ} 0 1 = cc in omega arith),
    λ x h. (f, rw f at (sym e ∙ ap asks h)),
  )

  pub program_good : {x : RelationGiven} → o ≡ Ok x → bad_program s P ≡ false
  program_good h = ((by_case (bad_program s P) refl).1 _ h).0
