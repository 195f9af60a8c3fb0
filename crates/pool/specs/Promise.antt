-- What is promised of every pool: document 02, A8.
use Rattle.std.specs.Prelude.{◌≡◌, ◌⊎◌, ◌↔◌, ◌<◌, ◌≤◌}
use Rattle.base.specs.{Words.List, Words.ℕ, Words.length, Words.Bytes, Answer.done, Answer.Clear}
use Rattle.term.specs.Term.{Term}
use Rattle.submission.specs.{Record.terms, Record.term, Record.InKnowledge, Check.rows1to5}
use Rattle.form.specs.Write.{ReadsAs}
use Rattle.pool.specs.{Pool.pool, Pool.joined, Pool.pool_number, Computed.join_answer}

-- t is a term of s
abbrev pub Lists : List ℕ → Term → Type 0
Lists s t = (n : ℕ) × (n < terms s) × (t ≡ term s n)

-- p is the pool of a and b
pub record IsPool (a b p : List ℕ) : Type 0 where
  -- it is a submission, with the four bodies of the pool
  pub passes : Clear (rows1to5 p)
  pub reads : ReadsAs p (pool a b)
  -- its terms are those of both, and its messages the messages of both
  pub terms_of_both : (t : Term) → Lists p t ↔ (Lists a t ⊎ Lists b t)
  pub knowledge_of_both : (t : Term) → InKnowledge p t ↔ (InKnowledge a t ⊎ InKnowledge b t)
  -- each term of the first keeps its number, and each of the second has its pool number
  pub first_number : (n : ℕ) → n < terms a → (n < terms p) × (term p n ≡ term a n)
  pub second_number : (j : ℕ) → j < terms b → (pool_number a b j < terms p) × (term p (pool_number a b j) ≡ term b j)

-- A8's promises about every two submissions
pub record JoinPromise : Type 0 where
  pub pooled : (a b : List ℕ) → Bytes a → Bytes b → (room n : ℕ) → join_answer a b room ≡ done n → IsPool a b (joined a b)
  -- a second that has no term and no message that the first lacks adds nothing: the pool is the first, and is not refused, with page enough
  pub nothing_added : (a b : List ℕ) → Bytes a → Bytes b → Clear (rows1to5 a) → Clear (rows1to5 b) → ((t : Term) → Lists b t → Lists a t) →
      ((t : Term) → InKnowledge b t → InKnowledge a t) →
      (joined a b ≡ a) × ((room : ℕ) → length a ≤ room → join_answer a b room ≡ done (length a))
  -- so a pool that is joined with either of the two once more stays as it is,
  pub again : (a b : List ℕ) → Bytes a → Bytes b → (room n : ℕ) → join_answer a b room ≡ done n → (c : List ℕ) → (c ≡ a) ⊎ (c ≡ b) →
      (joined (joined a b) c ≡ joined a b) × ((sheet : ℕ) → n ≤ sheet → join_answer (joined a b) c sheet ≡ done n)
  -- and joining with itself gives the first's bytes
  pub itself : (a : List ℕ) → Bytes a → Clear (rows1to5 a) →
      (joined a a ≡ a) × ((room : ℕ) → length a ≤ room → join_answer a a room ≡ done (length a))
