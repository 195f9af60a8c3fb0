-- The register program of a submission, run by the machine: what each register holds, for any relation of terms and values that every step keeps.
use mathlib.Core.Path.{◌≡◌, refl, sym, ap, ◌∙◌, subst}
use mathlib.Core.Bool.{Bool, true, false, cond}
use mathlib.Core.List.{List}
use mathlib.Core.Logic.{⊎_elim}
use Prim.Native.Nat.{ℕ, zero, suc, ◌≤◌, ◌<◌}
use native.Mathlib.Omega.{arith}
use lib.ListN.{length, get_or}
use Rattle.base.proofs.First.{first_found}
use Rattle.base.proofs.Grow.{length_listed, listed_at}
use Rattle.base.proofs.Order.{lt_or_ge}
use Rattle.base.proofs.Says.{says_true, says_any}
use Rattle.term.specs.Term.{Term, single, void}
use Rattle.term.specs.Reduce.{op}
use Rattle.term.specs.Number.{head_of, has_one}
use Rattle.submission.specs.{Record.entries, Record.steps, Record.entry_at, Record.rule_at, Record.p_at, Record.q_at, Record.guess, Record.term, Record.second_for, Record.second_at, Record.guessed, Check.claims}
use Rattle.derivation.specs.{Step.guess_counts, Step.register_term, Step.register_counts, Step.holds_term, Step.written, Computed.is_known}
use Rattle.derivation.proofs.Theory.RegisterTerms.{entry_register, guess_register, result_register, counts_guess, says_holds}
use Rattle.program.specs.Program.{bytes_of, program_length, instruction_at, operand}
use Rattle.machine.specs.Run.{executed, registers}
use Rattle.program.proofs.Theory.Bytes.{program_length_lem, instruction_back}
use Rattle.machine.proofs.Theory.RunRegisters.{register_kept, register_written, register_entry, register_guess}
use Rattle.derivation.specs.Step.{rule, first_premise, second_premise, concluded}
use Rattle.conditions.specs.Calls.{lowest, instruction, program}

module _ (s : List ℕ) where
  -- ---- "A premise is taken from its lowest register."
  -- a term that register r holds, which counts: its lowest register counts and holds it, and is not above r
  lowest_holds : (t r : ℕ) → r < written s (steps s) → holds_term s t r ≡ true → (register_counts s (lowest s t) ≡ true) × (register_term s (lowest s t) ≡ t) × (lowest s t ≤ r)
  unfolding lowest
  lowest_holds t r l e =
      let (k, f, b, h) = first_found (holds_term s t) (written s (steps s)) r l e in
      let (c, q) = (says_holds s t k).0 h in
      rw (f, lowest) (c, q, b)

  -- a known term is held by a register that is written; at the start these are the knowledge's and the guess's
  pub lowest_known : (i t : ℕ) → i ≤ steps s → is_known s i t ≡ true → (register_counts s (lowest s t) ≡ true) × (register_term s (lowest s t) ≡ t) × (lowest s t < written s i)
  lowest_known i t b e =
      let (r, l, h) = (says_any {P = λ r. holds_term s t r ≡ true} (holds_term s t) (written s i) (λ r l. says_true _)).0 e in
      let (c, f, k) = lowest_holds t r (omega arith) h in
      (c, f, omega arith)

  -- ---- the program's instructions
  pub program_steps : length (program s).steps ≡ steps s
  unfolding program
  program_steps = length_listed (instruction s) (steps s)

  pub program_bytes : length (bytes_of (program s)) ≡ program_length (steps s)
  program_bytes = program_length_lem (program s) ∙ ap program_length program_steps

  pub instruction_read : (i : ℕ) → i < steps s → instruction_at (bytes_of (program s)) i ≡ instruction s i
  unfolding program
  instruction_read i l =
      instruction_back (program s) (instruction s i) i (omega (arith, program_steps)) ∙ listed_at (instruction s) i (steps s) (instruction s i) l

  pub operand_of : (i : ℕ) → operand (instruction s i) ≡ lowest s (second_at s i)
  unfolding instruction second_for
  operand_of i = go (has_one (rule_at s i))
    where
      go : (b : Bool) → cond b (lowest s (p_at s i)) (cond b 0 (lowest s (q_at s i))) ≡ lowest s (cond b (p_at s i) (q_at s i))
      go true = refl
      go false = refl

  -- ---- the run
  module _ (name : ℕ) where
    -- the value of the register r after the first i instructions
    abbrev pub value : ℕ → ℕ → Term
    value i r = get_or (registers s name (bytes_of (program s)) i) r void

    -- step i writes its register from its premises' lowest registers
    pub result : (i n : ℕ) → i < n → n ≤ steps s → value n (written s i) ≡ op (head_of (rule_at s i)) (value i (lowest s (p_at s i))) (value i (lowest s (second_at s i)))
    unfolding executed instruction
    result i n l b =
        register_written s name (bytes_of (program s)) i n l
        ∙ ap (executed (registers s name (bytes_of (program s)) i)) (instruction_read i (omega arith))
        ∙ ap (λ z. op (head_of (rule_at s i)) (value i (lowest s (p_at s i))) (value i z)) (operand_of i)

    -- a rule with one operand reads one register twice
    pub same_operand : (i : ℕ) → single (head_of (rule_at s i)) ≡ true → value i (lowest s (p_at s i)) ≡ value i (lowest s (second_at s i))
    unfolding second_for has_one
    same_operand i e = rw e

    -- "Registers 0 to K-1 hold the knowledge in order, register K the guess, K+1+i the result of step i":
    -- a relation that holds at the start and that every step keeps holds between each register's term and its value, where the register counts
    module _ (R : Term → Term → Type 0)
        (at_entry_lem : (r : ℕ) → r < entries s → R (term s (entry_at s r)) (term s (entry_at s r))) (at-guess : guess_counts (claims s) ≡ true → R (term s (guess s)) (guessed s name))
        (founded : (i : ℕ) → i < steps s → (is_known s i (p_at s i) ≡ true) × (is_known s i (second_at s i) ≡ true))
        (next : (i : ℕ) → i < steps s → (v u : Term) → R (first_premise s i) v → R (second_premise s i) u → (single (rule s i) ≡ true → v ≡ u) → R (concluded s i) (op (rule s i) v u)) where
      abbrev Holds : ℕ → Type 0
      Holds i = (r : ℕ) → r < written s i → register_counts s r ≡ true → R (term s (register_term s r)) (value i r)

      -- of a term that is known before step i, in its lowest register from then on
      in_lowest : (i j : ℕ) → Holds j → i ≤ j → j ≤ steps s → (t : ℕ) → is_known s i t ≡ true → R (term s t) (value j (lowest s t))
      in_lowest i j h a b t e =
          let (c, f, l) = lowest_known i t (omega arith) e in
          subst (λ z. R (term s z) (value j (lowest s t))) f (h (lowest s t) (omega arith) c)

      at_start : Holds 0
      at_start r l c = ⊎_elim
          (λ b. rw (entry_register s r b, register_entry s name (bytes_of (program s)) 0 r b) (at_entry_lem r b))
          (λ b. let e : r ≡ entries s = omega arith in
          rw (e, guess_register s, register_guess s name (bytes_of (program s)) 0) (at-guess (sym (counts_guess s) ∙ ap (register_counts s) (sym e) ∙ c))) (lt_or_ge r (entries s))

      after : (i : ℕ) → Holds i → i < steps s → Holds (suc i)
      after i h b r l d = ⊎_elim
          (λ c. rw (register_kept s name (bytes_of (program s)) i (suc i) r (omega arith) c) (h r c d))
          (λ c. let e : r ≡ written s i = omega arith in
          let (f, g) = founded i b in
          rw (e, result_register s i, result i (suc i) (omega arith) b)
          (next i b _ _ (in_lowest i i h (omega arith) (omega arith) (p_at s i) f) (in_lowest i i h (omega arith) (omega arith) (second_at s i) g) (same_operand i)))
          (lt_or_ge r (written s i))

      pub holds : (i : ℕ) → i ≤ steps s → (r : ℕ) → r < written s i → register_counts s r ≡ true → R (term s (register_term s r)) (value i r)
      holds zero b = at_start
      holds (suc i) b = after i (holds i (omega arith)) b

      pub holds_lowest : (i j : ℕ) → i ≤ j → j ≤ steps s → (t : ℕ) → is_known s i t ≡ true → R (term s t) (value j (lowest s t))
      holds_lowest i j a b = in_lowest i j (holds j b) a b
