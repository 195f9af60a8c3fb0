-- The call's answer on examples, by one table-wide fact: a yes with its count, a no, and each refusal with its place and in its order.
use mathlib.Core.Path.{◌≡◌, refl}
use mathlib.Core.List.{List, [], ◌∷◌, map}
use Prim.Native.Nat.{ℕ}
use native.Mathlib.Decide.{ℕ_discrete}
use lib.ListN.{replicate}
use Rattle.base.specs.Words.{first, first_from, grow}
use Rattle.base.specs.Answer.{Answer, done, refused}
use Rattle.base.specs.Computed.{any}
use Rattle.term.specs.Number.{shape_of}
use Rattle.submission.specs.Record.{start_of, record_at}
use Rattle.submission.specs.Body.{bodies, contents, submission_of}
use Rattle.submission.specs.Computed.{are_inverse, bad_contents, bad_term, bad_knowledge, checks1to4}
use Rattle.deduction.specs.Computed.{built_within, round, rounds, entry_marks, is_deducible}
use Rattle.witness.specs.Computed.{deduction_answer}

-- the submission with these terms and this knowledge: the answer rests on nothing else
abbrev with : List ℕ → List ℕ → List ℕ
with terms knowledge = submission_of (bodies terms knowledge [] (replicate 4 0))

-- n, g, enc(n, g)
abbrev terms1 : List ℕ
terms1 = 0x01 ∷ 0x00 ∷ 0x01 ∷ 0x01 ∷ 0x00 ∷ 0x02 ∷ 0x05 ∷ 0x00 ∷ 0x01 ∷ []

-- "M1: knowledge n, enc(n, g)"; "M2: knowledge enc(n, g) alone"; "M9: M1 with g as third entry"
abbrev M1 : List ℕ
M1 = with terms1 (0 ∷ 2 ∷ [])

abbrev M2 : List ℕ
M2 = with terms1 (2 ∷ [])

abbrev M9 : List ℕ
M9 = with terms1 (0 ∷ 2 ∷ 1 ∷ [])

-- "M5: knowledge v, enc((v, x), g), (((v, x), y), z)", of the terms v, x, y, z, g, (v, x), enc((v, x), g), ((v, x), y), (((v, x), y), z)
abbrev M5 : List ℕ
M5 =
    with
    (0x01 ∷ 0x00 ∷ 0x01
    ∷ 0x01 ∷ 0x00 ∷ 0x02
    ∷ 0x01 ∷ 0x00 ∷ 0x03
    ∷ 0x01 ∷ 0x00 ∷ 0x04
    ∷ 0x01 ∷ 0x00 ∷ 0x05
    ∷ 0x04 ∷ 0x00 ∷ 0x01
    ∷ 0x05 ∷ 0x05 ∷ 0x04
    ∷ 0x04 ∷ 0x05 ∷ 0x02
    ∷ 0x04 ∷ 0x07 ∷ 0x03
    ∷ [])
    (0 ∷ 6 ∷ 8 ∷ [])

-- a submission, the term asked for, a page of room bytes, and the count of the steps shown
pub record Example : Type 0 where
  pub given : List ℕ
  pub asked : ℕ
  pub room : ℕ
  pub count : ℕ
  pub wanted : Answer

abbrev got : Example → Answer
got e = deduction_answer e.given e.asked e.room e.count

abbrev example : List ℕ → ℕ → ℕ → ℕ → Answer → Example
example s t room n a = record { given = s; asked = t; room = room; count = n; wanted = a }

abbrev pub table : List Example
table =
    -- in the knowledge: yes, with no steps
    example M1 0 1000 0 (done 1)
    ∷ example M1 2 1001 0 (done 1)
    ∷ example M9 1 1000 0 (done 1)
    ∷ example M9 0 1000 0 (done 1)
    -- yes, with the count of the steps: x by fst, fst and snd
    ∷ example M5 1 1000 3 (done 4)
    ∷ example M5 7 1000 1 (done 2)
    -- no, whatever the count: the guess counts for nothing
    ∷ example M1 1 1000 0 (done 0)
    ∷ example M1 1 1000 5 (done 0)
    ∷ example M2 0 1000 1 (done 0)
    ∷ example M5 4 1000 0 (done 0)
    -- "a page under 1,000 bytes .., place 1,000", for a yes and for a no
    ∷ example M1 0 999 0 (refused 19 1000)
    ∷ example M1 0 0 0 (refused 19 1000)
    ∷ example M1 1 999 0 (refused 19 1000)
    -- "after 12"
    ∷ example M1 3 1000 0 (refused 12 0)
    ∷ example M1 3 999 0 (refused 12 0)
    ∷ example M1 300 0 0 (refused 12 0)
    -- checks 1 to 4 come before 12: contents, count, a term that is listed twice, knowledge
    ∷ example [] 0 0 0 (refused 1 0)
    ∷ example (with [] []) 0 0 0 (refused 2 0)
    ∷ example (with (0x01 ∷ 0x00 ∷ 0x05 ∷ 0x01 ∷ 0x00 ∷ 0x05 ∷ []) []) 2 0 0 (refused 3 1)
    ∷ example (with terms1 (3 ∷ [])) 3 999 0 (refused 4 0)
    ∷ []

pub table_right : map got table ≡ map (λ e. e.wanted) table
unfolding deduction_answer any first first_from grow submission_of contents start_of shape_of are_inverse record_at bad_contents bad_term bad_knowledge checks1to4 built_within round rounds entry_marks is_deducible ℕ_discrete
table_right = refl
