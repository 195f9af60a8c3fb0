-- Writing on examples, by one table-wide fact: document 01's M1 from its bodies, and each refusal with its place and in its order.
use mathlib.Core.Path.{◌≡◌, refl}
use mathlib.Core.List.{List, [], ◌∷◌, ◌++◌, map}
use Prim.Native.Nat.{ℕ, ◌+◌}
use native.Mathlib.Decide.{ℕ_discrete}
use lib.ListN.{length, replicate}
use Rattle.base.specs.Words.{first, first_from}
use Rattle.base.specs.Answer.{Answer, done, refused, page_after}
use Rattle.base.specs.Computed.{any}
use Rattle.submission.specs.Record.{start_of}
use Rattle.submission.specs.Body.{Bodies, bodies, contents, submission_of}
use Rattle.form.specs.Computed.{write_answer}

-- M1's bodies
abbrev terms : List ℕ
terms = 0x01 ∷ 0x00 ∷ 0x01 ∷ 0x01 ∷ 0x00 ∷ 0x02 ∷ 0x05 ∷ 0x00 ∷ 0x01 ∷ []

abbrev knowledge : List ℕ
knowledge = 0x00 ∷ 0x02 ∷ []

abbrev derivation : List ℕ
derivation = 0x04 ∷ 0x02 ∷ 0x01 ∷ 0x00 ∷ []

abbrev claim : List ℕ
claim = 0x01 ∷ 0x00 ∷ 0x62 ∷ 0x00 ∷ []

abbrev m1 : Bodies
m1 = bodies terms knowledge derivation claim

-- and its bytes, as document 01 gives them
abbrev pub m1_bytes : List ℕ
m1_bytes =
    0x54 ∷ 0x03 ∷ 0x00 ∷ 0x10 ∷ 0x4B ∷ 0x02 ∷ 0x00 ∷ 0x19 ∷ 0x44 ∷ 0x01 ∷ 0x00 ∷ 0x1B ∷ 0x56 ∷ 0x01 ∷ 0x00 ∷ 0x1F
    ∷ 0x01 ∷ 0x00 ∷ 0x01 ∷ 0x01 ∷ 0x00 ∷ 0x02 ∷ 0x05 ∷ 0x00 ∷ 0x01 ∷ 0x00 ∷ 0x02 ∷ 0x04 ∷ 0x02 ∷ 0x01 ∷ 0x00 ∷ 0x01 ∷ 0x00 ∷ 0x62 ∷ 0x00 ∷ []

-- what is seen of the bodies: the answer, and the page afterwards
pub record Outcome : Type 0 where
  pub answer : Answer
  pub page : List ℕ

-- bodies, and a page of room bytes A5
pub record Example : Type 0 where
  pub given : Bodies
  pub room : ℕ
  pub wanted : Outcome

abbrev blank : ℕ → List ℕ
blank n = replicate n 0xA5

abbrev got : Example → Outcome
got e =
    let a = write_answer e.given e.room in
    record { answer = a; page = page_after a (submission_of e.given) (blank e.room) }

abbrev written : Bodies → ℕ → List ℕ → Example
written b rest bytes = record { given = b; room = length bytes + rest; wanted = record { answer = done (length bytes); page = bytes ++ blank rest } }

abbrev refusal : Bodies → ℕ → ℕ → ℕ → Example
refusal b room number place = record { given = b; room = room; wanted = record { answer = refused number place; page = blank room } }

abbrev zeros : ℕ → List ℕ
zeros n = replicate n 0

abbrev pub table : List Example
table =
    written m1 0 m1_bytes
    ∷ written m1 2 m1_bytes
    ∷ refusal m1 34 11 35
    ∷ refusal m1 0 11 35
    -- ragged: each body that can be, and before anything else
    ∷ refusal (bodies (zeros 4) knowledge derivation claim) 40 14 0
    ∷ refusal (bodies terms knowledge (zeros 5) claim) 40 14 0
    ∷ refusal (bodies terms knowledge derivation (zeros 3)) 40 14 0
    ∷ refusal (bodies [] (zeros 65) derivation (zeros 5)) 0 14 0
    -- counts: the first entry outside its limits, before the page
    ∷ refusal (bodies [] (zeros 65) (zeros 516) []) 0 2 0
    ∷ refusal (bodies (zeros 753) knowledge derivation claim) 0 2 0
    ∷ refusal (bodies terms (zeros 65) (zeros 516) []) 0 2 1
    ∷ refusal (bodies terms knowledge (zeros 516) []) 0 2 2
    ∷ refusal (bodies terms knowledge derivation []) 0 2 3
    ∷ refusal (bodies terms knowledge derivation (zeros 8)) 0 2 3
    -- 257 terms, 256 entries and 256 steps are not 1 and 0
    ∷ refusal (bodies (zeros 771) knowledge derivation claim) 0 2 0
    ∷ refusal (bodies terms (zeros 256) derivation claim) 0 2 1
    ∷ refusal (bodies terms knowledge (zeros 1024) claim) 0 2 2
    -- the most records of each body: the longest submission
    ∷ refusal (bodies (zeros 750) (zeros 64) (zeros 512) claim) 1345 11 1346
    -- nothing else is looked at
    ∷ refusal (bodies (zeros 3) [] [] (zeros 4)) 22 11 23
    ∷ []

pub table_right : map got table ≡ map (λ e. e.wanted) table
unfolding write_answer any first first_from submission_of contents start_of ℕ_discrete
table_right = refl
