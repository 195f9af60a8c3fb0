-- A run: the test of a program that passes check 13, and the answer.
use mathlib.Core.Logic.{◌↔◌}
use mathlib.Core.Path.{◌≡◌, refl, sym, ap, ap₂, ◌∙◌}
use mathlib.Core.Bool.{Bool, false, cond}
use mathlib.Core.Option.{some}
use mathlib.Core.List.{List}
use Prim.Native.Nat.{ℕ, ◌<◌}
use native.Mathlib.Omega.{arith}
use Rattle.base.specs.Words.{Bytes, byte}
use Rattle.std.specs.Prelude.{Result, Ok, Err}
use Rattle.base.specs.declared.refusal.Refusal.{Refusal}
use Rattle.base.specs.Answer.{Answer as Given, done, refused, number_of, Answers}
use Rattle.base.proofs.Says.{Says, says_eqb, says_and, says_not, refutes}
use Rattle.base.proofs.AnswerLaws.{if_passes}
use Rattle.base.proofs.RefusalLaws.{Tells, tells_if, tells_then, answers_iff}
use Rattle.submission.specs.Record.{guess, name_at, guessed}
use Rattle.submission.proofs.Theory.{ReadingRows.tells_1_to_5, StaleTests.says_stale}
use Rattle.base.specs.Computed.{fails_if, and_then, answered}
use Rattle.base.specs.Code.{check_of}
use Rattle.machine.specs.declared.Node.{Node}
use Rattle.term.specs.Term.{Relation, equal, inverses}
use Rattle.program.specs.Program.{relation_of, Instruction, test_at}
use Rattle.program.proofs.Theory.Check13.{right_fits, program_iff}
use Rattle.machine.specs.Run.{registers, holds, signals, signal, StaleName, program_rows, run_rows}
use Rattle.machine.specs.declared.Machine.{Machine}
use Rattle.machine.specs.Code.{guess_node, related}
use Rattle.machine.proofs.Theory.StateMeaning.{term_at, register, values, Running, Testable}
use Rattle.machine.proofs.Theory.InstructionResult.{value_at}
use Rattle.machine.proofs.Theory.KeyNodes.{one_term, inverse_keys}
use Rattle.machine.proofs.Theory.RunLoop.{RunSoFar}
use Rattle.submission.specs.Computed.{checks1to5}
use Rattle.program.specs.Computed.{bad_program}
use Rattle.machine.specs.Computed.{is_stale_name, run_answer}

-- ---- the test
module _ {m : Machine} {t : Instruction} (w : Testable m t) where
  left_below : register m t.left < m.nodes.used
  left_below = w.sound.written _ w.left

  right_below : register m t.right < m.nodes.used
  right_below = w.sound.written _ w.right

  relation_said : (ρ : Relation) → related ρ m.nodes.items (register m t.left) (register m t.right) ≡ holds (some ρ) (term_at m (register m t.left)) (term_at m (register m t.right))
  relation_said equal = one_term w.sound left_below right_below
  relation_said inverses = inverse_keys w.sound left_below right_below refl refl

  -- what the test's relation says of the two nodes is what it says of the two values
  tested : (ρ : Relation) → relation_of t.rule ≡ some ρ → signals (values m) t ≡ related ρ m.nodes.items (register m t.left) (register m t.right)
  unfolding signals
  tested ρ j = rw (j, value_at m _ w.left, value_at m _ w.right) (sym (relation_said ρ))

-- after the last instruction it can be made
test_ready : (s P : List ℕ) {name : ℕ} {m : Machine} → bad_program s P ≡ false → Running s name P (byte P 0) m → Testable m (test_at P)
test_ready s P g h =
    let z = (program_iff s P).0 g in
    record { sound = h.holds.sound; left = rw h.used z.test_right.0; right = rw h.used (right_fits _ _ (test_at P) z.test_right); room = omega (arith, h.few, z.few) }

module _ {s P : List ℕ} {name : ℕ} {m : Machine} (h : RunSoFar s name P (byte P 0) m) {t : Instruction} (e : t ≡ test_at P) where
  ready : Testable m t
  ready = rw e (test_ready s P h.good h.running)

  pub tried_left : register m t.left < 384
  tried_left = omega (arith, left_below ready, ready.room)

  pub tried_right : register m t.right < 384
  tried_right = omega (arith, right_below ready, ready.room)

  pub tried_done : {ρ : Relation} → relation_of (test_at P).rule ≡ some ρ → is_stale_name s name ≡ false → {r : ℕ} → r ≡ cond (related ρ m.nodes.items (register m t.left) (register m t.right)) 1 0 →
      done r ≡ answered (fails_if (is_stale_name s name) 15 0) (done (signal s name P))
  unfolding signal
  tried_done {ρ} a f k =
      let z : signals (registers s name P (byte P 0)) (test_at P) ≡ signals (values m) t = ap₂ signals (sym h.running.holds.is) (sym e) in
      rw (f, k, z, tested ready ρ (ap (λ t. relation_of t.rule) e ∙ a))

-- ---- the answer: the refusal of checks 1 to 5 and 13, or what comes after them
module _ (s P : List ℕ) (name : ℕ) {T : Type 0} {r : Result T Refusal} (e : check_of r ≡ and_then (checks1to5 s) (fails_if (bad_program s P) 13 0)) where
  pub run_refused : (a : Given) {x : Refusal} → r ≡ Err x → a ≡ refused (number_of x.fault) x.place → a ≡ run_answer s name P
  unfolding run_answer
  run_refused a h q = q ∙ rw (← e, h)

  pub run_tried : {v : T} (a : Given) → r ≡ Ok v → a ≡ answered (fails_if (is_stale_name s name) 15 0) (done (signal s name P)) → a ≡ run_answer s name P
  unfolding run_answer
  run_tried a h q = q ∙ rw (← e, h)

-- ---- check 15
module _ (s P : List ℕ) (name : ℕ) {v : Node} (q : v ≡ guess_node s name) {b : Bool} (i : b ≡ is_stale_name s v.left) where
  named : is_stale_name s name ≡ b
  named = sym (i ∙ ap (λ z. is_stale_name s z.left) q)

  -- of its result
  module _ {T : Type 0} (r : Result T Refusal) {n p : ℕ} (c : n ≡ 15) (d : p ≡ 0) (e : check_of r ≡ fails_if b n p) where
    answers : check_of r ≡ fails_if (is_stale_name s name) 15 0
    answers = e ∙ rw (c, d, named)

    pub tried_stale : (a : Given) {x : Refusal} → r ≡ Err x → a ≡ refused (number_of x.fault) x.place → a ≡ answered (fails_if (is_stale_name s name) 15 0) (done (signal s name P))
    tried_stale a h f = f ∙ rw (← answers, h)

    pub tried_fresh : {u : T} → r ≡ Ok u → is_stale_name s name ≡ false
    tried_fresh h = (if_passes (is_stale_name s name) 15 0).0 (sym answers ∙ ap check_of h)

-- ---- Demand 1, run
pub says_stale_name : (s : List ℕ) (name : ℕ) → Says (is_stale_name s name) (StaleName s name)
unfolding is_stale_name
says_stale_name s name = says_and _ _ (says_not _ (says_eqb name (name_at s (guess s)))) (says_stale s (guessed s name))

pub tells_program : (s P : List ℕ) → Bytes s → Tells (and_then (checks1to5 s) (fails_if (bad_program s P) 13 0)) (program_rows s P)
tells_program s P b =
    tells_then (checks1to5 s) (fails_if (bad_program s P) 13 0) (tells_1_to_5 s b) (λ _. tells_if (bad_program s P) 13 0 (refutes _ (program_iff s P)))

-- Run answers as rows 1 to 5, 13, 15 and the signal say, and nothing else: "For every program that run takes, the signal that it answers is this
-- machine's."
pub run_exact : (s P : List ℕ) → Bytes s → (name : ℕ) (a : Given) → (run_answer s name P ≡ a) ↔ Answers (run_rows s name P) (λ v. v ≡ signal s name P) a
unfolding run_answer
run_exact s P b name =
    answers_iff (tells_then _ (fails_if (is_stale_name s name) 15 0) (tells_program s P b) (λ _. tells_if (is_stale_name s name) 15 0 (says_stale_name s name)))
    (signal s name P) (λ v. v ≡ signal s name P) (λ _ v. (sym, sym))
