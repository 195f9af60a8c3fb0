-- Writing a submission from its four bodies: document 02, A1.
use Rattle.std.specs.Prelude.{◌≡◌, ◌∷◌, ◌*◌, ◌<◌, ◌≤◌}
use Rattle.base.specs.{Words.List, Words.[], Words.ℕ, Words.length, Words.Bytes, Answer.done, Answer.numbered, Answer.row11, Answer.Clear}
use Rattle.submission.specs.{Record.width, Body.Bodies, Body.body, Body.records, Body.bodies_of, Body.submission_of, Check.row2, Check.rows1and2}
use Rattle.form.specs.Computed.{write_answer}

-- "a body that isn't whole records"
abbrev pub Ragged : Bodies → ℕ → Type 0
Ragged b i = (n : ℕ) → length (body b i) ≡ width i * n → ⊥

-- "It refuses with 14 (ragged) a body that isn't whole records, tried first, then with 2 and 11 as in document 01; for 11 the place is the
-- submission's length. A new refusal for which a ticket names no place has place 0." The page has room bytes.
abbrev pub write_rows : Bodies → ℕ → List (ℕ → ℕ → Type 0)
write_rows b room =
    numbered 14 (λ p. (p ≡ 0) × ((i : ℕ) × (i < 4) × Ragged b i))
    ∷ row2 (records b)
    ∷ row11 (length (submission_of b)) room
    ∷ []

-- reading s gives the bodies b: s passes checks 1 and 2, and these are its four bodies
pub record ReadsAs (s : List ℕ) (b : Bodies) : Type 0 where
  pub passes : Clear (rows1and2 s)
  pub bodies : bodies_of s ≡ b

-- A1's promises about every four bodies b and every submission s
pub record FormPromise : Type 0 where
  -- "Reading what was written must give the four bodies again"
  pub read_again : (b : Bodies) (room n : ℕ) → write_answer b room ≡ done n → ReadsAs (submission_of b) b
  -- "writing the bodies of a well-formed submission must give its bytes": checks 1 and 2 are enough
  pub written_again : (s : List ℕ) → Bytes s → Clear (rows1and2 s) → submission_of (bodies_of s) ≡ s
  -- and with page enough it is not refused
  pub not_refused : (s : List ℕ) → Bytes s → Clear (rows1and2 s) → (room : ℕ) → length s ≤ room → write_answer (bodies_of s) room ≡ done (length s)
