-- Two submissions over the same terms, knowledge and guess: the machine holds the same terms, and the same bodies are read back.
use mathlib.Core.Path.{◌≡◌, refl, sym, ap, ap₂, ◌∙◌}
use mathlib.Core.Logic.{ite}
use mathlib.Core.Bool.{true, false}
use mathlib.Core.Option.{none, some}
use mathlib.Core.List.{List, [], ◌∷◌, ◌++◌}
use Prim.Native.Nat.{ℕ, ◌+◌, ◌*◌, ◌<◌}
use native.Mathlib.Omega.{arith}
use lib.ListN.{length, get_or}
use Rattle.base.specs.Words.{Bytes, byte, first, fours, grow, listed}
use Rattle.base.specs.Answer.{Clear}
use Rattle.base.proofs.{Fours.fours_alike, Grow.grow_alike, First.first_equal}
use Rattle.term.specs.Term.{atom, atom_kind, void, decoded}
use Rattle.term.specs.Computed.{term?}
use Rattle.submission.specs.Record.{terms, entries, kind_at, x_at, y_at, name_at, entry_at, guess, record_at, term, is_numbered, number_in, guessed}
use Rattle.term.specs.Number.{shape_of}
use Rattle.submission.specs.Body.{body_at}
use Rattle.submission.specs.Check.{Range, step_number, term_number, zero_only, step_or_knowledge, row, rows1and2}
use Rattle.derivation.specs.Step.{written}
use Rattle.program.specs.Program.{Instruction, instruction_at, test_at}
use Rattle.machine.specs.Run.{initial, executed, registers, held}
use Rattle.machine.proofs.Theory.StateGrowth.{decoded_alike}
use Rattle.form.proofs.Theory.{RoundTrip.body_length, SameBodies.same_byte, SameBodies.same_field}
use Rattle.readback.specs.{ReadBack.number, ReadBack.step_read, ReadBack.way_read, ReadBack.verifying_read, ReadBack.companion_read, ReadBack.claim_read}

-- the same counts, and the same bytes of terms and knowledge
pub record Agree (s s' : List ℕ) : Type 0 where
  pub same_terms : terms s ≡ terms s'
  pub same_entries : entries s ≡ entries s'
  pub kinds : (i : ℕ) → i < terms s → kind_at s i ≡ kind_at s' i
  pub xs : (i : ℕ) → i < terms s → x_at s i ≡ x_at s' i
  pub ys : (i : ℕ) → i < terms s → y_at s i ≡ y_at s' i
  pub knowledge : (i : ℕ) → i < entries s → entry_at s i ≡ entry_at s' i

module _ (s s' : List ℕ) (t : terms s ≡ terms s') (e : entries s ≡ entries s') (b : body_at s 0 ≡ body_at s' 0) (k : body_at s 1 ≡ body_at s' 1) where
  pub agree : Agree s s'
  agree = record {
    same_terms = t;
    same_entries = e;
    kinds = λ i l. same_byte s s' 0 t b (3 * i) (omega arith);
    xs = λ i l. same_field s s' 0 t b (3 * i) 1 (omega arith);
    ys = λ i l. same_field s s' 0 t b (3 * i) 2 (omega arith);
    knowledge = λ i l. same_byte s s' 1 e k i (omega arith);
  }

-- submissions with the same bodies of terms and knowledge
pub same_agree : (s s' : List ℕ) → Bytes s → Bytes s' → Clear (rows1and2 s) → Clear (rows1and2 s') → body_at s 0 ≡ body_at s' 0 → body_at s 1 ≡ body_at s' 1 → Agree s s'
same_agree s s' b b' c c' t k =
    let x : 3 * terms s ≡ length (body_at s' 0) = sym (body_length s b c 0 (omega arith)) ∙ ap length t in
    let y : length (body_at s' 0) ≡ 3 * terms s' = body_length s' b' c' 0 (omega arith) in
    let z : 1 * entries s ≡ length (body_at s' 1) = sym (body_length s b c 1 (omega arith)) ∙ ap length k in
    let w : length (body_at s' 1) ≡ 1 * entries s' = body_length s' b' c' 1 (omega arith) in
    agree s s' (omega arith) (omega arith) t k

-- ---- the same terms
module _ {s s' : List ℕ} (a : Agree s s') where
  record_alike : (i : ℕ) → i < terms s → record_at s i ≡ record_at s' i
  unfolding record_at
  record_alike i l = rw (a.kinds i l, a.xs i l, a.ys i l)

  pub term_alike : (n : ℕ) → term s n ≡ term s' n
  unfolding term
  term_alike n = ap (λ ts. get_or ts n void) (decoded_alike (record_at s) (record_at s') (terms s) record_alike ∙ ap (decoded (record_at s')) a.same_terms)

  -- ---- the same registers
  module _ (l : guess s < terms s) (g : guess s ≡ guess s') where
    guessed_alike : (name : ℕ) → guessed s name ≡ guessed s' name
    unfolding guessed
    guessed_alike name = ap (λ k. atom (atom_kind (shape_of k)) name) (a.kinds (guess s) l ∙ ap (kind_at s') g)

    name_alike : name_at s (guess s) ≡ name_at s' (guess s')
    name_alike = ap₂ (λ x y. x * 256 + y) (a.xs (guess s) l ∙ ap (x_at s') g) (a.ys (guess s) l ∙ ap (y_at s') g)

    initial_alike : (name : ℕ) → initial s name ≡ initial s' name
    unfolding initial
    initial_alike name =
        ap₂ (λ vs t. vs ++ t ∷ [])
        (grow_alike [] _ _ (entries s) (λ i vs b. term_alike (entry_at s i) ∙ ap (term s') (a.knowledge i b)) ∙ ap (listed (λ i. term s' (entry_at s' i))) a.same_entries)
        (guessed_alike name)

    pub held_alike : (P : List ℕ) (r : ℕ) → held s P r ≡ held s' P r
    unfolding held registers
    held_alike P r =
        ap (λ name. get_or (registers s name P (byte P 0)) r void) name_alike
        ∙ ap (λ vs. get_or (grow vs (λ vs i. executed vs (instruction_at P i)) (byte P 0)) r void) (initial_alike (name_at s' (guess s')))

    pub number_alike : (P : List ℕ) (r : ℕ) → number s P r ≡ number s' P r
    unfolding number number_in
    number_alike P r =
        ap (λ o. elim o [ none ↦ 0 | some n ↦ n ])
        (first_equal (is_numbered s (held s P r)) (is_numbered s' (held s' P r)) (terms s) (λ n b. ap₂ (λ h t. ite (term? h t) true false) (held_alike P r) (term_alike n)) ∙ ap (first (is_numbered s' (held s' P r))) a.same_terms)

    -- ---- the same bodies
    step_alike : (P : List ℕ) (i : ℕ) → step_read s P i ≡ step_read s' P i
    step_alike P i = rw (number_alike P (instruction_at P i).left, number_alike P (instruction_at P i).right, number_alike P (written s i), a.same_entries)

    pub steps_alike : (P : List ℕ) (n : ℕ) → fours (step_read s P) n ≡ fours (step_read s' P) n
    steps_alike P n = fours_alike (step_read s P) (step_read s' P) n (λ i l. step_alike P i)

    verifying_alike : (t : Instruction) (o : Range) → verifying_read s t o ≡ verifying_read s' t o
    verifying_alike t step_number = rw a.same_entries
    verifying_alike t term_number = refl
    verifying_alike t zero_only = refl
    verifying_alike t step_or_knowledge = rw a.same_entries

    companion_alike : (r n : ℕ) (o : Range) → companion_read s r n o ≡ companion_read s' r n o
    companion_alike r n step_number = rw a.same_entries
    companion_alike r n term_number = refl
    companion_alike r n zero_only = refl
    companion_alike r n step_or_knowledge = refl

    pub claim_alike : (P : List ℕ) → claim_read s P ≡ claim_read s' P
    claim_alike P =
        let t = test_at P in
        let way : way_read s t ≡ way_read s' t = rw a.same_entries in
        rw (verifying_alike t (row (way_read s t)).step, companion_alike t.right (number s P t.right) (row (way_read s t)).companion, number_alike P t.right, way, g)
