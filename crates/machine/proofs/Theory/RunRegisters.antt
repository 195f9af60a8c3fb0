-- The registers of a run: what each holds at the start, what an instruction writes, that a register keeps its value; and what the tests say.
use mathlib.Core.Path.{◌≡◌, ◌∙◌}
use mathlib.Core.List.{List, [], ◌∷◌}
use mathlib.Core.Option.{some}
use Prim.Native.Nat.{ℕ, ◌+◌, ◌≤◌, ◌<◌}
use native.Mathlib.Omega.{arith}
use lib.ListN.{length, get_or, length-append, get_or-append}
use lib.Seq.{get_or_at}
use Rattle.base.proofs.Grow.{grow_kept, grow_at, length_listed, listed_at}
use Rattle.base.proofs.Says.{Says}
use Rattle.base.specs.Words.{grow, listed}
use Rattle.term.specs.{Term.asymmetric, Term.Term, Computed.term?, Term.is_key, Term.inverse as inverse_of_lem}
use Rattle.term.specs.Computed.{match?}
use Rattle.term.proofs.Reduce.{says_test}
use Rattle.submission.specs.Record.{entries, entry_at, term, guessed}
use Rattle.term.specs.Term.{equal, inverses, void}
use Rattle.program.specs.Program.{instruction_at}
use Rattle.machine.specs.Run.{initial, executed, registers, holds}

module _ (s : List ℕ) (name : ℕ) where
  length_initial : length (initial s name) ≡ entries s + 1
  unfolding initial
  length_initial = simp length-append (omega (arith, length_listed (λ i. term s (entry_at s i)) (entries s)))

  module _ (P : List ℕ) where
    -- a register once written keeps its value
    pub register_kept : (i n r : ℕ) → i ≤ n → r < entries s + 1 + i → get_or (registers s name P n) r void ≡ get_or (registers s name P i) r void
    unfolding registers
    register_kept i n r l b =
        grow_kept (initial s name) (λ vs i. executed vs (instruction_at P i)) i n r void l (omega (arith, length_initial))

    -- instruction i writes register K+1+i
    pub register_written : (i n : ℕ) → i < n → get_or (registers s name P n) (entries s + 1 + i) void ≡ executed (registers s name P i) (instruction_at P i)
    unfolding registers
    register_written i n l =
        rw (← length_initial) (grow_at (initial s name) (λ vs i. executed vs (instruction_at P i)) i n void l)

    -- "Registers 0 to K-1 hold the knowledge in order"
    pub register_entry : (n r : ℕ) → r < entries s → get_or (registers s name P n) r void ≡ term s (entry_at s r)
    unfolding registers grow initial
    register_entry n r l =
        register_kept 0 n r (omega arith) (omega arith)
        ∙ get_or-append (listed (λ i. term s (entry_at s i)) (entries s)) (guessed s name ∷ []) void r (omega (arith, length_listed (λ i. term s (entry_at s i)) (entries s)))
        ∙ listed_at (λ i. term s (entry_at s i)) r (entries s) void l

    -- "register K the guess"
    pub register_guess : (n : ℕ) → get_or (registers s name P n) (entries s) void ≡ guessed s name
    unfolding registers grow initial
    register_guess n =
        register_kept 0 n (entries s) (omega arith) (omega arith)
        ∙ get_or_at (listed (λ i. term s (entry_at s i)) (entries s)) (guessed s name) [] void (entries s) (length_listed (λ i. term s (entry_at s i)) (entries s))

-- "`=` signals 1 for equal terms, `i` when the first is a key and the second its inverse, else 0"
pub says_equal : (a b : Term) → Says (holds (some equal) a b) (b ≡ a)
says_equal a b = says_test (term? b a)

pub says_inverse : (a b : Term) → Says (holds (some inverses) a b) (is_key a × (b ≡ inverse_of_lem a))
says_inverse a b = says_test (match? asymmetric a b)
