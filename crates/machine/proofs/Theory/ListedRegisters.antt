-- A register whose term is listed holds that term's own number, since the terms are the first nodes, and no two nodes are equal.
use mathlib.Core.Path.{◌≡◌, sym, ap, ◌∙◌}
use mathlib.Core.Bool.{false}
use mathlib.Core.List.{List}
use Prim.Native.Nat.{ℕ, ◌+◌, ◌<◌}
use native.Mathlib.Omega.{arith}
use lib.ListN.{get_or}
use Rattle.base.specs.Words.{byte}
use Rattle.term.specs.Term.{void}
use Rattle.term.specs.Code.{Table}
use Rattle.term.proofs.Table.{decode_inj, tables_agree}
use Rattle.submission.proofs.Theory.ListedTerms.{claim_facts}
use Rattle.submission.specs.Record.{terms, entries, guess, name_at, term}
use Rattle.submission.specs.Code.{SubmissionRead}
use Rattle.program.specs.Computed.{bad_program}
use Rattle.machine.specs.Run.{held}
use Rattle.machine.specs.declared.Machine.{Machine}
use Rattle.machine.specs.declared.Node.{Node}
use Rattle.std.specs.Prelude.{Option as Maybe}
use Rattle.machine.specs.Code.{guess_node, Started, Ran, RegisterNumbers}
use Rattle.machine.proofs.Theory.StateMeaning.{node_at, term_at, register, SoundState, HasTerms, Running}
use Rattle.machine.proofs.Theory.NodeRecords.{term_record}
use Rattle.machine.proofs.Theory.InstructionResult.{value_at}
use Rattle.machine.proofs.Theory.RunLoop.{RunSoFar, run_all}

-- the terms of the first nodes
module _ {s : List ℕ} {m : Machine} (w : SubmissionRead s) (v : SoundState m) (h : HasTerms s m) where
  first_nodes : Table (node_at m) (terms s) (term_at m)
  first_nodes =
      let many = h.many in
      record { reads = λ k b. v.table.reads k (omega arith); earlier = λ k b. v.table.earlier k (omega arith); distinct = λ j k b c. v.table.distinct j k (omega arith) (omega arith) }

  term_of : (k : ℕ) → k < terms s → term_at m k ≡ term s k
  term_of = tables_agree first_nodes (claim_facts w).read.table (term_record h.nodes)

-- ---- a run with the right guess, after the last instruction
module _ {s P : List ℕ} {m : Machine} (h : RunSoFar s (name_at s (guess s)) P (byte P 0) m) where
  ran : Running s (name_at s (guess s)) P (byte P 0) m
  ran = h.running

  term_held : (r : ℕ) → r < entries s + 1 + byte P 0 → term_at m (register m r) ≡ held s P r
  unfolding held
  term_held r b = sym (value_at m r (rw ran.used b)) ∙ ap (λ vs. get_or vs r void) ran.holds.is

  registers_listed : RegisterNumbers s P m.registers
  registers_listed = record {
    long = h.long;
    listed = λ r b c. sym (term_of h.read ran.holds.sound h.listed (register m r) c) ∙ term_held r b;
    unlisted = λ r b c k d f.
        let many = h.listed.many in
        let within : register m r < m.nodes.used = ran.holds.sound.written r (rw ran.used b) in
        let same : k ≡ register m r = decode_inj ran.holds.sound.table k (register m r) (omega arith) within (term_of h.read ran.holds.sound h.listed k d ∙ f ∙ sym (term_held r b)) in
        omega arith;
  }

-- as the code has it
pub right_registers : {s P : List ℕ} {name n : ℕ} {v : Node} {o : Maybe ℕ} {m : Machine} (r : Machine) → SubmissionRead s → bad_program s P ≡ false → name ≡ name_at s (guess s) → v ≡ guess_node s name →
    Started s v o m → Ran m P n r → n ≡ byte P 0 → RegisterNumbers s P r.registers
right_registers {s} r w g e q z d f = registers_listed (run_all w g z (q ∙ ap (guess_node s) e) r f d)
