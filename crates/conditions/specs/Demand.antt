-- Demands 2 and 3. What the definitions promise; the contracts of the calls say that the code answers what they give.
use Rattle.std.specs.Prelude.{◌≡◌, ◌↔◌, ◌≤◌}
use Rattle.base.specs.{Words.List, Words.ℕ, Words.length, Words.take, Words.drop, Words.Bytes, Answer.done, Answer.page_after}
use Rattle.term.specs.Term.{Fresh}
use Rattle.submission.specs.Record.{steps, guess, name_at, InKnowledge, guessed}
use Rattle.program.specs.Program.{bytes_of, program_length}
use Rattle.machine.specs.Computed.{run_answer}
use Rattle.conditions.specs.{Condition.WellFormed, Condition.FiveConditions, Calls.program, Computed.check_answer}

-- Demand 2: "A submission is accepted exactly when it is well formed, meets the five conditions of document 01 and has a page long enough", and the
-- acceptance carries N. From right to left it is demand 3's last sentence: "And every submission that is well formed .. is accepted."
abbrev pub Demand2 : Type 0
Demand2 =
    (s : List ℕ) → Bytes s → (room n : ℕ) →
    (check_answer s room ≡ done n) ↔ ((n ≡ steps s) × WellFormed s × FiveConditions s × (program_length (steps s) ≤ room))

-- "all other atoms of the guess's kind, except one that is part of a message in the knowledge or the inverse of a key that is such a part"
pub record WrongGuess (s : List ℕ) (name : ℕ) : Type 0 where
  pub other : name ≡ name_at s (guess s) → ⊥
  pub fresh : Fresh (InKnowledge s) (guessed s name)

-- what is promised of the page after an acceptance that carries n: page is the page before it, page' the one after it
pub record KeptPromise (s page : List ℕ) (n : ℕ) (page' : List ℕ) : Type 0 where
  -- "the program is what checking wrote on the page: three bytes for each step in the count that the acceptance carries, and four more"
  pub program : take (program_length n) page' ≡ bytes_of (program s)
  -- "An acceptance .. changes the first 3N+4 bytes of the page only."
  pub rest : drop (program_length n) page' ≡ drop (program_length n) page
  -- "There run gets these bytes, the same submission and a name: that of the submission's own guess, which is the right one,
  pub right : run_answer s (name_at s (guess s)) (take (program_length n) page') ≡ done 1
  -- or that of a wrong guess, with one and the same program for all names."
  pub wrong : (name : ℕ) → WrongGuess s name → run_answer s name (take (program_length n) page') ≡ done 0

-- Demand 3: every acceptance keeps the promise
abbrev pub Demand3 : Type 0
Demand3 =
    (s page : List ℕ) → Bytes s → (n : ℕ) → check_answer s (length page) ≡ done n →
    KeptPromise s page n (page_after (check_answer s (length page)) (bytes_of (program s)) page)

-- Demand 3 in the other wording, which A3 allows: every name that run takes, other than the guess's own, signals 0 on the page of an acceptance
abbrev pub Demand3Taken : Type 0
Demand3Taken =
    (s page : List ℕ) → Bytes s → (n : ℕ) → check_answer s (length page) ≡ done n → (name : ℕ) → (name ≡ name_at s (guess s) → ⊥) →
    (v : ℕ) → run_answer s name (take (program_length n) (page_after (check_answer s (length page)) (bytes_of (program s)) page)) ≡ done v → v ≡ 0
