-- A submission's four bodies, and the submission that has them: document 01, 'The submission', and document 02, A1.
use Rattle.std.specs.Prelude.{◌∷◌, ◌++◌, ◌*◌, ◌/◌, ◌%◌}
use Rattle.base.specs.Words.{List, [], ℕ, length, get_or, take, drop}
use Rattle.submission.specs.Record.{letter, count, width, start_of, start}

-- "the terms, the knowledge, the derivation and the claim separately"
pub record Bodies : Type 0 where
  pub terms : List ℕ
  pub knowledge : List ℕ
  pub derivation : List ℕ
  pub claim : List ℕ

abbrev pub bodies : List ℕ → List ℕ → List ℕ → List ℕ → Bodies
bodies t k d c = record { terms = t; knowledge = k; derivation = d; claim = c }

-- body 0 to 3, in the order of the contents
abbrev pub body : Bodies → ℕ → List ℕ
body b i = get_or (b.terms ∷ b.knowledge ∷ b.derivation ∷ b.claim ∷ []) i []

-- the count of a body's records
abbrev pub records : Bodies → ℕ → ℕ
records b i = length (body b i) / width i

-- body i of a submission: from its start, as many records as its count says
abbrev pub body_at : List ℕ → ℕ → List ℕ
body_at s i = take (width i * count s i) (drop (start s i) s)

abbrev pub bodies_of : List ℕ → Bodies
bodies_of s = bodies (body_at s 0) (body_at s 1) (body_at s 2) (body_at s 3)

-- entry i of the contents of bodies with these counts: "a letter, a one-byte count, a two-byte start (high byte first)"
abbrev pub contents_entry : (ℕ → ℕ) → ℕ → List ℕ
contents_entry n i = letter i ∷ n i ∷ start_of n i / 256 ∷ start_of n i % 256 ∷ []

-- "A table of contents comes first, then the bodies. The contents are four entries"
unfoldable pub contents : (ℕ → ℕ) → List ℕ
contents n = contents_entry n 0 ++ contents_entry n 1 ++ contents_entry n 2 ++ contents_entry n 3

unfoldable pub submission_of : Bodies → List ℕ
submission_of b = contents (records b) ++ b.terms ++ b.knowledge ++ b.derivation ++ b.claim
