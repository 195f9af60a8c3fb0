-- The call on examples, by one table-wide fact: a table of keys and other terms, and each refusal with its place and in its order.
use mathlib.Core.Path.{◌≡◌, refl}
use mathlib.Core.List.{List, [], ◌∷◌, ◌++◌, map}
use Prim.Native.Nat.{ℕ, ◌+◌}
use native.Mathlib.Decide.{ℕ_discrete}
use lib.ListN.{length, replicate}
use Rattle.base.specs.Words.{first, first_from, grow}
use Rattle.base.specs.Answer.{Answer, done, refused, page_after}
use Rattle.base.specs.Computed.{any}
use Rattle.term.specs.Number.{shape_of}
use Rattle.submission.specs.Record.{start_of}
use Rattle.submission.specs.Body.{bodies, contents, submission_of}
use Rattle.submission.specs.Computed.{are_inverse, bad_contents, bad_term, bad_knowledge, checks1to4}
use Rattle.inverse.specs.Computed.{inverses_of, inverses_answer}

-- the submission with these terms and this knowledge
abbrev with : List ℕ → List ℕ → List ℕ
with terms knowledge = submission_of (bodies terms knowledge [] (replicate 4 0))

-- two names with the last byte 5: a public key and a private one of each, with a plain atom of the first name and an encryption under it among
-- them; and a private key alone
abbrev keys : List ℕ
keys =
    0x02 ∷ 0x00 ∷ 0x05
    ∷ 0x01 ∷ 0x00 ∷ 0x05
    ∷ 0x03 ∷ 0x01 ∷ 0x05
    ∷ 0x03 ∷ 0x00 ∷ 0x05
    ∷ 0x06 ∷ 0x01 ∷ 0x00
    ∷ 0x02 ∷ 0x01 ∷ 0x05
    ∷ 0x03 ∷ 0x00 ∷ 0x06
    ∷ []

abbrev inverses : List ℕ
inverses = 3 ∷ 255 ∷ 5 ∷ 0 ∷ 255 ∷ 2 ∷ 255 ∷ []

-- what is seen of a submission: the answer, and the page afterwards
pub record Outcome : Type 0 where
  pub answer : Answer
  pub page : List ℕ

-- a submission, and a page of room bytes A5
pub record Example : Type 0 where
  pub given : List ℕ
  pub room : ℕ
  pub wanted : Outcome

abbrev blank : ℕ → List ℕ
blank n = replicate n 0xA5

abbrev got : Example → Outcome
got e =
    let a = inverses_answer e.given e.room in
    record { answer = a; page = page_after a (inverses_of e.given) (blank e.room) }

abbrev written : List ℕ → ℕ → List ℕ → Example
written s rest bytes = record { given = s; room = length bytes + rest; wanted = record { answer = done (length bytes); page = bytes ++ blank rest } }

abbrev refusal : List ℕ → ℕ → ℕ → ℕ → Example
refusal s room number place = record { given = s; room = room; wanted = record { answer = refused number place; page = blank room } }

abbrev pub table : List Example
table =
    written (with keys []) 0 inverses
    ∷ written (with keys (6 ∷ [])) 2 inverses
    ∷ refusal (with keys []) 6 11 7
    ∷ refusal (with keys []) 0 11 7
    -- no keys
    ∷ written (with (0x01 ∷ 0x00 ∷ 0x05 ∷ 0x01 ∷ 0x00 ∷ 0x06 ∷ []) []) 1 (255 ∷ 255 ∷ [])
    -- checks 1 to 4 come before the page: contents, count, a key that is listed twice, knowledge
    ∷ refusal [] 0 1 0
    ∷ refusal (with [] []) 0 2 0
    ∷ refusal (with (0x02 ∷ 0x00 ∷ 0x05 ∷ 0x02 ∷ 0x00 ∷ 0x05 ∷ []) []) 0 3 1
    ∷ refusal (with keys (7 ∷ [])) 0 4 0
    ∷ []

pub table_right : map got table ≡ map (λ e. e.wanted) table
unfolding inverses_answer inverses_of any first first_from grow submission_of contents start_of shape_of are_inverse bad_contents bad_term bad_knowledge checks1to4 ℕ_discrete
table_right = refl
