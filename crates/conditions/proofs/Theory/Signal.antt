-- The program of a well-formed submission that meets the five conditions: the machine takes it, the right guess signals 1, and a wrong guess 0.
use mathlib.Core.Path.{◌≡◌, refl, ap, ap₂, sym, ◌∙◌, subst, subst₃}
use mathlib.Core.Bool.{Bool, true, false, cond, not, false≢true}
use mathlib.Core.List.{List}
use mathlib.Core.Logic.{◌⊎◌, inl, inr, ⊎_elim, ite}
use mathlib.Core.Option.{Option, none, some}
use Prim.Native.Nat.{ℕ, ◌≤◌, ◌<◌}
use native.Mathlib.Omega.{arith}
use lib.Dec.{eqb, ltb}
use lib.ListN.{length}
use borrow.Author.Tests.{lt-ltb, eq-eqb, ne_eqb}
use Rattle.base.specs.Words.{listed, Bytes}
use Rattle.base.proofs.Grow.{length_listed, listed_at}
use Rattle.base.proofs.Order.{lt_or_ge}
use Rattle.base.proofs.Says.{says_and, says_true, denies}
use Rattle.base.proofs.First.{first_found}
use Rattle.term.specs.Term.{Head, Term, atom, atom_kind, single, is_key, inverse, Relation, equal, inverses}
use Rattle.term.specs.Reduce.{op}
use Rattle.term.specs.Number.{rules, has_one}
use Rattle.term.specs.Step.{Undoes}
use Rattle.term.proofs.Reduce.{step_op, says_test}
use Rattle.term.specs.Computed.{term?}
use Rattle.term.proofs.Reach.{Reach, known, reach_iff}
use Rattle.term.proofs.Guess.{UndoesSome, OutOfReach, FreshGuess, MayHold, clean, tried, Executed, op_may_hold, another_step_differs, at_start_differs, verified_no_key}
use Rattle.submission.specs.{Record.entries, Record.steps, Record.entry_at, Record.rule_at, Record.p_at, Record.q_at, Record.conclusion_at, Record.guess, Record.verifying, Record.way_at, Record.companion, Record.name_at, Record.term, Computed.are_inverse, Record.InKnowledge, Record.guessed}
use Rattle.submission.specs.Check.{Way, another_step, at_start, inverse_key, guess_derived, inverse_derived, way_of, Target, the_guess, its_inverse, verifier, derived, claims_in, claims, knowledge_step, given_register, row}
use Rattle.submission.proofs.Theory.{ListedTerms.Claimed, ListedTerms.claimed_fits, ListedTerms.guess_key, ReadingRows.claimed_clear}
use Rattle.derivation.specs.{Step.written, Computed.is_known}
use Rattle.submission.specs.Record.{second_for, second_at}
use Rattle.derivation.proofs.Theory.{RegisterTerms.result_register, RegisterTerms.counts_other, KnownPremises.first_known, KnownPremises.second_known}
use Rattle.program.specs.Program.{row_of, relation_of, bytes_of}
use Rattle.machine.specs.Run.{holds as relates, signals, signal}
use Rattle.program.proofs.Theory.Bytes.{byte_count, test_back, program_passes}
use Rattle.machine.proofs.Theory.RunRegisters.{register_entry, register_guess, says_equal, says_inverse}
use Rattle.conditions.specs.Computed.{has_second_way}
use Rattle.conditions.specs.Condition.{WellFormed, Given, target, Verified, ClaimMet, FiveConditions, SecondWay}
use Rattle.derivation.specs.Step.{rule, first_premise, second_premise, concluded, guess_counts}
use Rattle.conditions.specs.Calls.{lowest, entry_given, named, instruction, program, test_for}
use Rattle.conditions.specs.Demand.{WrongGuess}
use Rattle.conditions.proofs.Theory.ConditionsMeant.{founded_at, second_way_iff}
use Rattle.conditions.proofs.Theory.ProgramRun.{lowest_known, program_steps, value, result, same_operand, holds, holds_lowest}
use Rattle.program.specs.Computed.{bad_instruction, bad_test, bad_program}
use Rattle.conditions.specs.Code.{Differs}

-- a step of the derivation
abbrev InDerivation : List ℕ → Head → Term → Term → Term → Type 0
InDerivation s h p q t = (i : ℕ) × (i < steps s) × (h ≡ rule s i) × (p ≡ first_premise s i) × (q ≡ second_premise s i) × (t ≡ concluded s i)

-- steps with another rule or another premise set are not alike in rule and premises
unlike : (s : List ℕ) (i j : ℕ) → Differs s i j → rule s i ≡ rule s j → first_premise s i ≡ first_premise s j → second_premise s i ≡ second_premise s j → ⊥
unlike s i j (inl f) a b d = f a
unlike s i j (inr f) a b d = f (λ x. (⊎_elim (λ e. inl (e ∙ b)) (λ e. inr (e ∙ d)), ⊎_elim (λ e. inl (e ∙ sym b)) (λ e. inr (e ∙ sym d))))

-- what the program's test asks of the registers
module _ (s : List ℕ) (name : ℕ) where
  abbrev asked : Option Way → Bool
  asked o = relates (relation_of (test_for s o).rule) (value s name (steps s) (test_for s o).left) (value s name (steps s) (test_for s o).right)

  signal_asks : signal s name (bytes_of (program s)) ≡ cond (asked (way_of (way_at s))) 1 0
  unfolding signal signals program
  signal_asks = rw (test_back (program s), byte_count (program s), program_steps s)

module _ (s : List ℕ) (bytes : Bytes s) (w : WellFormed s) (c : FiveConditions s) where
  claim : Claimed s
  claim = claimed_clear s bytes w.read

  pub guess_right : term s (guess s) ≡ guessed s (name_at s (guess s))
  unfolding guessed
  guess_right = claim.guess_term ∙ ap (λ o. atom (atom_kind o) (name_at s (guess s))) (sym claim.guess_shape)

  -- what is known, by term numbers: the premises of a step, way b's term and way c's inverse
  pub premises_known : (i : ℕ) → i < steps s → (is_known s i (p_at s i) ≡ true) × (is_known s i (second_at s i) ≡ true)
  premises_known i l =
      let f = (founded_at claim w.shaped i l).1 (c.founded i l) in
      (first_known s i f, second_known s i f)

  second_of_lem : {o : Option Way} → way_of (way_at s) ≡ o → Verified s → SecondWay s o
  second_of_lem e v = subst (SecondWay s) e v.second_way

  way_found : {o : Option Way} → way_of (way_at s) ≡ o → claims_in o ≡ verifier → Verified s → has_second_way s o ≡ true
  way_found e k v = subst (λ o. has_second_way s o ≡ true) e ((second_way_iff claim w.shaped (ap claims_in e ∙ k)).1 v.second_way)

  pub start_known : way_of (way_at s) ≡ some at_start → Verified s → is_known s 0 (conclusion_at s (verifying s)) ≡ true
  start_known e v = way_found e refl v

  pub inverse_known : way_of (way_at s) ≡ some inverse_key → Verified s → is_known s (steps s) (companion s) ≡ true
  inverse_known e v = ((says_and (are_inverse s (conclusion_at s (verifying s)) (companion s)) _ (says_true _) (says_true _)).0 (way_found e refl v)).1

  -- ---- ways k and j: the register of what gives the term claimed
  -- an entry that is the term claimed
  pub entry_gives : (t : Target) → InKnowledge s (target s t) → (entry_given s t < entries s) × (term s (entry_at s (entry_given s t)) ≡ target s t)
  unfolding entry_given
  entry_gives t (r, l, e) =
      let (q, f, b, h) = first_found (λ r. ite (term? (target s t) (term s (entry_at s r))) true false) (entries s) r l ((says_test (term? (target s t) (term s (entry_at s r)))).1 e) in
      rw (f, entry_given) (omega arith, sym ((says_test (term? (target s t) (term s (entry_at s q)))).0 h))

  given_below : (t : Target) → Given s (target s t) → named s (given_register t) < written s (steps s)
  given_below t (inl (l, e)) = rw (ne_eqb (verifying s) knowledge_step (λ q. omega (arith, claim.read.steps_most))) (omega arith)
  given_below t (inr (q, i)) = rw (eq-eqb (verifying s) knowledge_step q) (omega (arith, (entry_gives t i).0))

  -- ---- check 13
  instruction_good : (i : ℕ) → i < steps s → bad_instruction (written s i) (instruction s i) ≡ false
  unfolding bad_instruction instruction second_for
  instruction_good i l =
      let (p, q) = premises_known i l in
      rw (lt-ltb (rule_at s i) rules (w.shaped i l).rule_below, lt-ltb (lowest s (p_at s i)) (written s i) (lowest_known s i (p_at s i) (omega arith) p).2)
      (go (has_one (rule_at s i)) (lowest_known s i (second_at s i) (omega arith) q).2)
    where
      go : (b : Bool) → lowest s (cond b (p_at s i) (q_at s i)) < written s i → not (cond b (eqb (cond b 0 (lowest s (q_at s i))) 0) (ltb (cond b 0 (lowest s (q_at s i))) (written s i))) ≡ false
      go true h = refl
      go false h = rw (lt-ltb (lowest s (q_at s i)) (written s i) h)

  test_good : (o : Option Way) → way_of (way_at s) ≡ o → ClaimMet s (claims_in o) →
      ((test_for s o).left < written s (steps s)) × ((test_for s o).right < written s (steps s))
  test_good none e v = absurd (second_of_lem e v)
  test_good (some another_step) e v = let (l, f, d) = second_of_lem e v in (omega (arith, v.present), omega arith)
  test_good (some at_start) e v = let (k, f, b) = lowest_known s 0 _ (omega arith) (start_known e v) in (omega (arith, v.present), omega arith)
  test_good (some inverse_key) e v = (omega (arith, v.present), (lowest_known s (steps s) _ (omega arith) (inverse_known e v)).2)
  test_good (some guess_derived) e g = (omega arith, given_below the_guess g)
  test_good (some inverse_derived) e g = (omega arith, given_below its_inverse g)

  relation_passes : (n : ℕ) (r : Relation) (a b : ℕ) → a < n → b < n → bad_test n (record { rule = (row_of r).letter; left = a; right = b }) ≡ false
  unfolding bad_test relation_of
  relation_passes n equal a b l m = rw (lt-ltb a n l, lt-ltb b n m)
  relation_passes n inverses a b l m = rw (lt-ltb a n l, lt-ltb b n m)

  test_passes : (n : ℕ) (o : Option Way) → o ≡ some claim.way → (test_for s o).left < n → (test_for s o).right < n → bad_test n (test_for s o) ≡ false
  test_passes n o e l r =
      subst (λ o. (test_for s o).left < n → (test_for s o).right < n → bad_test n (test_for s o) ≡ false) (sym e) (relation_passes n (row claim.way).relation _ _) l r

  pub program_good : bad_program s (bytes_of (program s)) ≡ false
  unfolding program
  program_good =
      let (l, r) = test_good (way_of (way_at s)) refl c.met in
      let e : length (listed (instruction s) (steps s)) ≡ steps s = length_listed (instruction s) (steps s) in
      program_passes (program s) s (instruction s 0) (rw e claim.read.steps_most)
      (λ i l. let h : i < steps s = rw e at l in ap (bad_instruction (written s i)) (listed_at (instruction s) i (steps s) (instruction s 0) h) ∙ instruction_good i h)
      (rw e (test_passes (written s (steps s)) (way_of (way_at s)) claim.has_way l r))

  -- ---- where the guess's register holds the guess, or does not count, each register that counts holds its own term
  own_next : (i : ℕ) → i < steps s → (v u : Term) → v ≡ first_premise s i → u ≡ second_premise s i → (single (rule s i) ≡ true → v ≡ u) → op (rule s i) v u ≡ concluded s i
  own_next i l v u e f o = ap₂ (op (rule s i)) e f ∙ step_op (rule s i) (first_premise s i) (second_premise s i) (concluded s i) (w.shaped i l).step (claim.read.messages (p_at s i) (w.shaped i l).p_below)

  module _ (name : ℕ) (own : guess_counts (claims s) ≡ true → guessed s name ≡ term s (guess s)) where
    own_result : (i : ℕ) → i < steps s → value s name (steps s) (written s i) ≡ concluded s i
    own_result i l =
        holds s name (λ t v. v ≡ t) (λ r b. refl) own premises_known own_next (steps s) (omega arith) (written s i) (omega arith) (counts_other s (written s i) (λ q. omega arith))
        ∙ ap (term s) (result_register s i)

    own_lowest : (i t : ℕ) → i ≤ steps s → is_known s i t ≡ true → value s name (steps s) (lowest s t) ≡ term s t
    own_lowest i t b = holds_lowest s name (λ t v. v ≡ t) (λ r b. refl) own premises_known own_next i (steps s) b (omega arith) t

  -- ways k and j: whatever is tried, the term claimed is where it is given
  module _ (name : ℕ) (t : Target) (k : claims s ≡ derived t) where
    -- no step's register depends on the name
    pub own_value : (i : ℕ) → i < steps s → value s name (steps s) (written s i) ≡ concluded s i
    own_value = own_result name (λ z. absurd (false≢true (sym (ap guess_counts k) ∙ z)))

    given_value : Given s (target s t) → value s name (steps s) (named s (given_register t)) ≡ target s t
    given_value (inl (l, e)) =
        rw (ne_eqb (verifying s) knowledge_step (λ q. omega (arith, claim.read.steps_most)))
        (own_value (verifying s) l ∙ sym e)
    given_value (inr (q, i)) =
        let (l, e) = entry_gives t i in
        rw (eq-eqb (verifying s) knowledge_step q) (register_entry s name (bytes_of (program s)) (steps s) (entry_given s t) l ∙ e)

  guess_value : (name : ℕ) → value s name (steps s) (entries s) ≡ guessed s name
  guess_value name = register_guess s name (bytes_of (program s)) (steps s)

  -- ---- the right guess
  abbrev right : ℕ
  right = name_at s (guess s)

  pub right_result : (i : ℕ) → i < steps s → value s right (steps s) (written s i) ≡ concluded s i
  right_result = own_result right (λ _. sym guess_right)

  pub right_lowest : (i t : ℕ) → i ≤ steps s → is_known s i t ≡ true → value s right (steps s) (lowest s t) ≡ term s t
  right_lowest = own_lowest right (λ _. sym guess_right)

  asked_right : (o : Option Way) → way_of (way_at s) ≡ o → ClaimMet s (claims_in o) → asked s right o ≡ true
  unfolding relation_of
  asked_right none e v = absurd (second_of_lem e v)
  asked_right (some another_step) e v =
      let (l, f, d) = second_of_lem e v in
      (says_equal _ _).1 (right_result (companion s) l ∙ f ∙ sym (right_result (verifying s) v.present))
  asked_right (some at_start) e v =
      (says_equal _ _).1 (right_lowest 0 _ (omega arith) (start_known e v) ∙ sym (right_result (verifying s) v.present))
  asked_right (some inverse_key) e v =
      let z = second_of_lem e v in
      let r = right_result (verifying s) v.present in
      (says_inverse _ _).1
      (subst is_key (sym r) z.0, right_lowest (steps s) (companion s) (omega arith) (inverse_known e v) ∙ z.1 ∙ ap inverse (sym r))
  asked_right (some guess_derived) e g =
      (says_equal _ _).1 (given_value right the_guess (ap claims_in e) g ∙ guess_right ∙ sym (guess_value right))
  asked_right (some inverse_derived) e g =
      let r : value s right (steps s) (entries s) ≡ term s (guess s) = guess_value right ∙ sym guess_right in
      let k = guess_key claim (claimed_fits claim (derived its_inverse) (ap claims_in e)) in
      (says_inverse _ _).1 (subst is_key (sym r) k, given_value right its_inverse (ap claims_in e) g ∙ ap inverse (sym r))

  pub right_signal : signal s right (bytes_of (program s)) ≡ 1
  right_signal = rw (signal_asks s right, asked_right (way_of (way_at s)) refl c.met)

  -- ---- a wrong guess
  undoes_none : (j : ℕ) → ((i : ℕ) → i < steps s → Undoes (rule s j) (first_premise s j) (concluded s j) (rule s i) (first_premise s i) (concluded s i) → ⊥) → UndoesSome (InDerivation s) (rule s j) (first_premise s j) (concluded s j) → ⊥
  undoes_none j f (h, p, q, t, (i, l, a, b, d, e), u) = f i l (subst₃ (Undoes (rule s j) (first_premise s j) (concluded s j)) a b e u)

  out_of_reach : Verified s → OutOfReach (InKnowledge s) (first_premise s (verifying s)) (second_premise s (verifying s))
  out_of_reach v =
      let (x, m, f) = v.hidden in
      let g : Reach (InKnowledge s) x → ⊥ = λ r. f ((reach_iff (InKnowledge s) x).0 r) in
      ⊎_elim (λ e. inl (subst (λ z. Reach (InKnowledge s) z → ⊥) e g)) (λ e. inr (subst (λ z. Reach (InKnowledge s) z → ⊥) e g)) m

  module _ (name : ℕ) (wrong : WrongGuess s name) where
    abbrev May : Term → Term → Type 0
    May = MayHold (InKnowledge s) (InDerivation s) (term s (guess s)) (guessed s name)

    abbrev Ran : ℕ → Term → Type 0
    Ran i t =
        Executed (InKnowledge s) (InDerivation s) (term s (guess s)) (guessed s name) (rule s i) (first_premise s i) (second_premise s i) t
        (value s name i (lowest s (p_at s i))) (value s name i (lowest s (second_at s i)))

    fresh_guess : FreshGuess (InKnowledge s) (InDerivation s) (term s (guess s)) (guessed s name)
    unfolding guessed
    fresh_guess =
        record {
          sound = λ h p q t m. rw (m.2, m.3, m.4, m.5) (w.shaped m.0 m.1).step;
          messages = λ t k. rw k.2 (claim.read.messages (entry_at s k.0) (claim.read.entry_below k.0 k.1));
          w_atom = (_, name, refl);
          is_fresh = wrong.fresh;
        }

    executed : (i : ℕ) → i < steps s → {v u : Term} → May (first_premise s i) v → May (second_premise s i) u → (single (rule s i) ≡ true → v ≡ u) →
        Executed (InKnowledge s) (InDerivation s) (term s (guess s)) (guessed s name) (rule s i) (first_premise s i) (second_premise s i) (concluded s i) v u
    executed i l x y o = record { step = (i, l, refl, refl, refl, refl); first = x; second = y; once = o }

    may_lowest : (i : ℕ) → i ≤ steps s → (t : ℕ) → is_known s i t ≡ true → May (term s t) (value s name i (lowest s t))
    may_lowest i b =
        holds_lowest s name May (λ r l. clean (known (r, l, refl)) refl) (λ _. tried refl refl) premises_known
        (λ i l v u x y o. op_may_hold (InKnowledge s) (InDerivation s) (term s (guess s)) (guessed s name) fresh_guess (executed i l x y o)) i i (omega arith) b

    ran : (i : ℕ) → i < steps s → Ran i (concluded s i)
    ran i l =
        let (p, q) = premises_known i l in
        executed i l (may_lowest i (omega arith) (p_at s i) p) (may_lowest i (omega arith) (second_at s i) q) (same_operand s name i)

    at_start_value : (n r : ℕ) → r < written s 0 → InKnowledge s (value s name n r) ⊎ (value s name n r ≡ guessed s name)
    at_start_value n r l = ⊎_elim
        (λ b. inl (r, b, register_entry s name (bytes_of (program s)) n r b))
        (λ b. let e : r ≡ entries s = omega arith in inr (rw e (register_guess s name (bytes_of (program s)) n))) (lt_or_ge r (entries s))

    -- the register of the verifying step
    verified_value : Verified s → value s name (steps s) (written s (verifying s)) ≡ op (rule s (verifying s)) (value s name (verifying s) (lowest s (p_at s (verifying s)))) (value s name (verifying s) (lowest s (second_at s (verifying s))))
    verified_value v = result s name (verifying s) (steps s) v.present (omega arith)

    -- the guess that is tried is not the right one, nor is its inverse the right one's
    not_guess : term s (guess s) ≡ guessed s name → ⊥
    unfolding guessed
    not_guess e = let z : guessed s right ≡ guessed s name = sym guess_right ∙ e in wrong.other (cc)

    not_inverse : inverse (term s (guess s)) ≡ inverse (guessed s name) → ⊥
    unfolding guessed
    not_inverse e = let z : inverse (guessed s right) ≡ inverse (guessed s name) = ap inverse (sym guess_right) ∙ e in wrong.other (cc)

    asked_wrong : (o : Option Way) → way_of (way_at s) ≡ o → ClaimMet s (claims_in o) → asked s name o ≡ false
    unfolding relation_of
    asked_wrong none e v = absurd (second_of_lem e v)
    asked_wrong (some another_step) e v =
        let (l, f, d) = second_of_lem e v in
        (denies _ (says_equal _ _)).1 (λ z.
        another_step_differs (InKnowledge s) (InDerivation s) (term s (guess s)) (guessed s name) fresh_guess
        (ran (verifying s) v.present) (out_of_reach v) (undoes_none (verifying s) (λ i l u. v.kept i l (verifying s, inl refl, u)))
        (subst (Ran (companion s)) f (ran (companion s) l))
        (subst (λ t. UndoesSome (InDerivation s) (rule s (companion s)) (first_premise s (companion s)) t → ⊥) f (undoes_none (companion s) (λ i l u. v.kept i l (companion s, inr (e, refl), u))))
        (unlike s (verifying s) (companion s) d)
        (sym (verified_value v) ∙ sym z ∙ result s name (companion s) (steps s) l (omega arith)))
    asked_wrong (some at_start) e v =
        (denies _ (says_equal _ _)).1 (λ z.
        at_start_differs (InKnowledge s) (InDerivation s) (term s (guess s)) (guessed s name) fresh_guess
        (ran (verifying s) v.present) (out_of_reach v) (undoes_none (verifying s) (λ i l u. v.kept i l (verifying s, inl refl, u)))
        _ (at_start_value (steps s) _ (lowest_known s 0 _ (omega arith) (start_known e v)).2) (sym (verified_value v) ∙ sym z))
    asked_wrong (some inverse_key) e v =
        (denies _ (says_inverse _ _)).1 (λ (k, _).
        verified_no_key (InKnowledge s) (InDerivation s) (term s (guess s)) (guessed s name) fresh_guess
        (ran (verifying s) v.present) (out_of_reach v) (undoes_none (verifying s) (λ i l u. v.kept i l (verifying s, inl refl, u))) (subst is_key (verified_value v) k))
    asked_wrong (some guess_derived) e g =
        (denies _ (says_equal _ _)).1 (λ z. not_guess (sym (given_value name the_guess (ap claims_in e) g) ∙ z ∙ guess_value name))
    asked_wrong (some inverse_derived) e g =
        (denies _ (says_inverse _ _)).1 (λ (_, z). not_inverse (sym (given_value name its_inverse (ap claims_in e) g) ∙ z ∙ ap inverse (guess_value name)))

    pub wrong_signal : signal s name (bytes_of (program s)) ≡ 0
    wrong_signal = rw (signal_asks s name, asked_wrong (way_of (way_at s)) refl c.met)
