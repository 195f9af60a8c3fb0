-- Reading back on examples, by one table-wide fact: the pages of M1, M3 and M8, programs of ways k and j, other programs, and each refusal with its
-- place and in its order.
use mathlib.Core.Path.{◌≡◌, refl}
use mathlib.Core.Logic.Dec
use mathlib.Core.List.{List, [], ◌∷◌, ◌++◌, map}
use Prim.Native.Nat.{ℕ, ◌+◌}
use native.Mathlib.Decide.{ℕ_discrete}
use lib.ListN.{length, replicate}
use Rattle.base.specs.Words.{first, first_from, fours, grow}
use Rattle.base.specs.Answer.{Answer, done, refused, page_after}
use Rattle.base.specs.Computed.{any}
use Rattle.term.specs.Term.{decoded}
use Rattle.term.specs.Reduce.{op, cancelled, parted, paired}
use Rattle.term.specs.Computed.{match?, is_key?}
use Rattle.term.specs.Number.{shape_of, head_of, has_one}
use Rattle.submission.specs.Record.{start_of, record_at, term, number_in, guessed}
use Rattle.submission.specs.Body.{bodies, contents, submission_of}
use Rattle.submission.specs.Check.{way_of}
use Rattle.submission.specs.Computed.{bad_contents, bad_term, bad_knowledge, good_claim, checks1to4, checks1to5}
use Rattle.program.specs.Program.{relation_of, instruction_at}
use Rattle.program.specs.Computed.{bad_instruction, bad_test, bad_program}
use Rattle.machine.specs.Run.{initial, executed, registers, held}
use Rattle.readback.specs.ReadBack.{number, bodies_read}
use Rattle.readback.specs.Computed.{off_table, read_back_answer}

-- what is seen: the answer, and the page afterwards
pub record Outcome : Type 0 where
  pub answer : Answer
  pub page : List ℕ

-- a submission, a program, and a page of room bytes A5
pub record Example : Type 0 where
  pub given : List ℕ
  pub program : List ℕ
  pub room : ℕ
  pub wanted : Outcome

abbrev blank : ℕ → List ℕ
blank n = replicate n 0xA5

abbrev got : Example → Outcome
got e =
    let a = read_back_answer e.given e.program e.room in
    record { answer = a; page = page_after a (bodies_read e.given e.program) (blank e.room) }

abbrev written : List ℕ → List ℕ → ℕ → List ℕ → Example
written s P rest bytes = record { given = s; program = P; room = length bytes + rest; wanted = record { answer = done (length bytes); page = bytes ++ blank rest } }

abbrev refusal : List ℕ → List ℕ → ℕ → ℕ → ℕ → Example
refusal s P room number place = record { given = s; program = P; room = room; wanted = record { answer = refused number place; page = blank room } }

-- M1: n, g, enc(n, g)
abbrev m1_terms : List ℕ
m1_terms = 0x01 ∷ 0x00 ∷ 0x01 ∷ 0x01 ∷ 0x00 ∷ 0x02 ∷ 0x05 ∷ 0x00 ∷ 0x01 ∷ []

abbrev m1 : List ℕ
m1 = submission_of (bodies m1_terms (0x00 ∷ 0x02 ∷ []) (0x04 ∷ 0x02 ∷ 0x01 ∷ 0x00 ∷ []) (0x01 ∷ 0x00 ∷ 0x62 ∷ 0x00 ∷ []))

-- M3: f, g, (f, f), enc((f, f), g)
abbrev m3_terms : List ℕ
m3_terms = 0x01 ∷ 0x00 ∷ 0x01 ∷ 0x01 ∷ 0x00 ∷ 0x02 ∷ 0x04 ∷ 0x00 ∷ 0x00 ∷ 0x05 ∷ 0x02 ∷ 0x01 ∷ []

abbrev m3 : List ℕ
m3 = submission_of (bodies m3_terms (0x03 ∷ []) (0x04 ∷ 0x03 ∷ 0x01 ∷ 0x02 ∷ 0x01 ∷ 0x02 ∷ 0x00 ∷ 0x00 ∷ 0x02 ∷ 0x02 ∷ 0x00 ∷ 0x00 ∷ []) (0x01 ∷ 0x01 ∷ 0x61 ∷ 0x02 ∷ []))

-- M8: k, j, g, enc(k, g)
abbrev m8_terms : List ℕ
m8_terms = 0x02 ∷ 0x00 ∷ 0x05 ∷ 0x03 ∷ 0x00 ∷ 0x05 ∷ 0x01 ∷ 0x00 ∷ 0x02 ∷ 0x05 ∷ 0x00 ∷ 0x02 ∷ []

abbrev m8 : List ℕ
m8 = submission_of (bodies m8_terms (0x03 ∷ 0x01 ∷ []) (0x04 ∷ 0x03 ∷ 0x02 ∷ 0x00 ∷ []) (0x02 ∷ 0x00 ∷ 0x63 ∷ 0x01 ∷ []))

-- the guess in a known pair: g, (g, g)
abbrev known_terms : List ℕ
known_terms = 0x01 ∷ 0x00 ∷ 0x02 ∷ 0x04 ∷ 0x00 ∷ 0x00 ∷ []

abbrev known : List ℕ
known = submission_of (bodies known_terms (0x01 ∷ []) (0x01 ∷ 0x01 ∷ 0x00 ∷ 0x00 ∷ []) (0x00 ∷ 0x00 ∷ 0x6B ∷ 0x00 ∷ []))

-- a public key, which is the guess, and the private one, which is known
abbrev inverse_terms : List ℕ
inverse_terms = 0x02 ∷ 0x00 ∷ 0x05 ∷ 0x03 ∷ 0x00 ∷ 0x05 ∷ []

abbrev inverse : List ℕ
inverse = submission_of (bodies inverse_terms (0x01 ∷ []) ([]) (0x00 ∷ 0xFF ∷ 0x6A ∷ 0x00 ∷ []))

-- M1's terms, knowledge and guess, with another claim and no derivation
abbrev m1_bare : List ℕ
m1_bare = submission_of (bodies m1_terms (0x00 ∷ 0x02 ∷ []) [] (0x01 ∷ 0xFF ∷ 0x6B ∷ 0x00 ∷ []))

-- and with a claim that is none
abbrev m1_unclaimed : List ℕ
m1_unclaimed = submission_of (bodies m1_terms (0x00 ∷ 0x02 ∷ []) [] (0x01 ∷ 0x00 ∷ 0x62 ∷ 0x00 ∷ []))

abbrev pub table : List Example
table =
    -- each way, from an accepted page: b, a, c, k and j
    written m1 (0x01 ∷ 0x04 ∷ 0x01 ∷ 0x02 ∷ 0x3D ∷ 0x03 ∷ 0x00 ∷ []) 0 (0x04 ∷ 0x02 ∷ 0x01 ∷ 0x00 ∷ 0x01 ∷ 0x00 ∷ 0x62 ∷ 0x00 ∷ [])
    ∷ written m3 (0x03 ∷ 0x04 ∷ 0x00 ∷ 0x01 ∷ 0x01 ∷ 0x02 ∷ 0x00 ∷ 0x02 ∷ 0x02 ∷ 0x00 ∷ 0x3D ∷ 0x03 ∷ 0x04 ∷ []) 3 (0x04 ∷ 0x03 ∷ 0x01 ∷ 0x02 ∷ 0x01 ∷ 0x02 ∷ 0x00 ∷ 0x00 ∷ 0x02 ∷ 0x02 ∷ 0x00 ∷ 0x00 ∷ 0x01 ∷ 0x01 ∷ 0x61 ∷ 0x02 ∷ [])
    ∷ written m8 (0x01 ∷ 0x04 ∷ 0x00 ∷ 0x02 ∷ 0x69 ∷ 0x03 ∷ 0x01 ∷ []) 0 (0x04 ∷ 0x03 ∷ 0x02 ∷ 0x00 ∷ 0x02 ∷ 0x00 ∷ 0x63 ∷ 0x01 ∷ [])
    ∷ written known (0x01 ∷ 0x01 ∷ 0x00 ∷ 0x00 ∷ 0x3D ∷ 0x01 ∷ 0x02 ∷ []) 0 (0x01 ∷ 0x01 ∷ 0x00 ∷ 0x00 ∷ 0x00 ∷ 0x00 ∷ 0x6B ∷ 0x00 ∷ [])
    ∷ written inverse (0x00 ∷ 0x69 ∷ 0x01 ∷ 0x00 ∷ []) 0 (0x00 ∷ 0xFF ∷ 0x6A ∷ 0x00 ∷ [])
    -- the submission's own derivation and claim are not used
    ∷ written m1_bare (0x01 ∷ 0x04 ∷ 0x01 ∷ 0x02 ∷ 0x3D ∷ 0x03 ∷ 0x00 ∷ []) 0 (0x04 ∷ 0x02 ∷ 0x01 ∷ 0x00 ∷ 0x01 ∷ 0x00 ∷ 0x62 ∷ 0x00 ∷ [])
    ∷ written m1 (0x00 ∷ 0x3D ∷ 0x02 ∷ 0x00 ∷ []) 0 (0x01 ∷ 0xFF ∷ 0x6B ∷ 0x00 ∷ [])
    -- nor is the second register of way b, nor which entry is second with 255
    ∷ written m1 (0x01 ∷ 0x04 ∷ 0x01 ∷ 0x02 ∷ 0x3D ∷ 0x03 ∷ 0x01 ∷ []) 0 (0x04 ∷ 0x02 ∷ 0x01 ∷ 0x00 ∷ 0x01 ∷ 0x00 ∷ 0x62 ∷ 0x00 ∷ [])
    ∷ written m1 (0x00 ∷ 0x3D ∷ 0x02 ∷ 0x01 ∷ []) 0 (0x01 ∷ 0xFF ∷ 0x6B ∷ 0x00 ∷ [])
    -- other programs: a builds what is known, b with the guess's register second, j with a guess that is no key
    ∷ written m1 (0x02 ∷ 0x04 ∷ 0x01 ∷ 0x02 ∷ 0x03 ∷ 0x00 ∷ 0x02 ∷ 0x3D ∷ 0x03 ∷ 0x04 ∷ []) 0 (0x04 ∷ 0x02 ∷ 0x01 ∷ 0x00 ∷ 0x03 ∷ 0x00 ∷ 0x01 ∷ 0x02 ∷ 0x01 ∷ 0x00 ∷ 0x61 ∷ 0x01 ∷ [])
    ∷ written known (0x01 ∷ 0x01 ∷ 0x00 ∷ 0x00 ∷ 0x3D ∷ 0x02 ∷ 0x01 ∷ []) 0 (0x01 ∷ 0x01 ∷ 0x00 ∷ 0x00 ∷ 0x00 ∷ 0x00 ∷ 0x62 ∷ 0x00 ∷ [])
    ∷ written m1 (0x00 ∷ 0x69 ∷ 0x02 ∷ 0x00 ∷ []) 0 (0x01 ∷ 0xFF ∷ 0x6A ∷ 0x00 ∷ [])
    -- 17, at the first such register, before 18 and 11
    ∷ refusal m1 (0x01 ∷ 0x04 ∷ 0x00 ∷ 0x02 ∷ 0x3D ∷ 0x03 ∷ 0x00 ∷ []) 8 17 3
    ∷ refusal m1 (0x03 ∷ 0x04 ∷ 0x01 ∷ 0x02 ∷ 0x00 ∷ 0x03 ∷ 0x03 ∷ 0x00 ∷ 0x03 ∷ 0x03 ∷ 0x3D ∷ 0x00 ∷ 0x03 ∷ []) 0 17 4
    -- 18: a knowledge register, or the guess's twice
    ∷ refusal m1 (0x01 ∷ 0x04 ∷ 0x01 ∷ 0x02 ∷ 0x3D ∷ 0x00 ∷ 0x03 ∷ []) 0 18 0
    ∷ refusal m1 (0x01 ∷ 0x04 ∷ 0x01 ∷ 0x02 ∷ 0x69 ∷ 0x01 ∷ 0x03 ∷ []) 0 18 0
    ∷ refusal m1 (0x01 ∷ 0x04 ∷ 0x01 ∷ 0x02 ∷ 0x3D ∷ 0x02 ∷ 0x02 ∷ []) 0 18 0
    ∷ refusal m1 (0x00 ∷ 0x69 ∷ 0x02 ∷ 0x02 ∷ []) 0 18 0
    -- 11 comes last
    ∷ refusal m1 (0x01 ∷ 0x04 ∷ 0x01 ∷ 0x02 ∷ 0x3D ∷ 0x03 ∷ 0x00 ∷ []) 7 11 8
    ∷ refusal m1 (0x00 ∷ 0x3D ∷ 0x02 ∷ 0x00 ∷ []) 0 11 4
    -- checks 1 to 5 and 13 come first
    ∷ refusal m1 ([]) 0 13 0
    ∷ refusal m1 (0x01 ∷ 0x04 ∷ 0x01 ∷ 0x03 ∷ 0x3D ∷ 0x00 ∷ 0x00 ∷ []) 0 13 0
    ∷ refusal m1_unclaimed ([]) 0 5 0
    ∷ []

pub table_right : map got table ≡ map (λ e. e.wanted) table
unfolding read_back_answer off_table number number_in fours held registers initial executed any first first_from grow decoded op cancelled parted paired match? is_key? head_of has_one submission_of contents start_of shape_of record_at term guessed way_of bad_contents bad_term bad_knowledge good_claim checks1to4 checks1to5 relation_of instruction_at bad_instruction bad_test bad_program Dec.and ℕ_discrete
table_right = refl
