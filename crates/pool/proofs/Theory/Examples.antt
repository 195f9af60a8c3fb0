-- Joining on examples, by one table-wide fact: pools with their bytes, and each refusal with its place and in its order.
use mathlib.Core.Path.{◌≡◌, refl}
use mathlib.Core.List.{List, [], ◌∷◌, ◌++◌, map}
use Prim.Native.Nat.{ℕ, ◌+◌}
use native.Mathlib.Decide.{ℕ_discrete}
use lib.ListN.{length, replicate}
use Rattle.std.specs.List.{flat_map}
use Rattle.base.specs.Words.{first, first_from, grow, listed}
use Rattle.base.specs.Answer.{Answer, done, refused, page_after}
use Rattle.base.specs.Computed.{any}
use Rattle.term.specs.Number.{shape_of}
use Rattle.term.specs.Term.{decoded}
use Rattle.submission.specs.Record.{start_of, record_at, term, number_in}
use Rattle.submission.specs.Check.{way_of}
use Rattle.submission.specs.Body.{bodies, contents, submission_of}
use Rattle.submission.specs.Computed.{are_inverse, bad_contents, bad_term, bad_knowledge, good_claim, checks1to4, checks1to5}
use Rattle.pool.specs.Pool.{missing, pool_number, new_entries, pool, joined}
use Rattle.pool.specs.Computed.{join_answer}

-- the submission with these terms and this knowledge, M1's derivation and the claim of way b on its only step
abbrev with : List ℕ → List ℕ → List ℕ
with terms knowledge = submission_of (bodies terms knowledge (0x04 ∷ 0x02 ∷ 0x01 ∷ 0x00 ∷ []) (0x01 ∷ 0x00 ∷ 0x62 ∷ 0x00 ∷ []))

-- n, g, enc(n, g)
abbrev terms1 : List ℕ
terms1 = 0x01 ∷ 0x00 ∷ 0x01 ∷ 0x01 ∷ 0x00 ∷ 0x02 ∷ 0x05 ∷ 0x00 ∷ 0x01 ∷ []

-- "M1: knowledge n, enc(n, g)"; "M2: knowledge enc(n, g) alone"
abbrev M1 : List ℕ
M1 = with terms1 (0 ∷ 2 ∷ [])

abbrev M2 : List ℕ
M2 = with terms1 (2 ∷ [])

-- the same terms in another order, and a hash, a pair and keys over them: g, n, enc(n, g), hash(enc(n, g)), the public key 00 01, the pair of n and
-- the hash, enca(g, the key); knowledge the pair, n, enc(n, g), enca(g, the key)
abbrev other : List ℕ
other =
    with
    (0x01 ∷ 0x00 ∷ 0x02
    ∷ 0x01 ∷ 0x00 ∷ 0x01
    ∷ 0x05 ∷ 0x01 ∷ 0x00
    ∷ 0x07 ∷ 0x02 ∷ 0x00
    ∷ 0x02 ∷ 0x00 ∷ 0x01
    ∷ 0x04 ∷ 0x01 ∷ 0x03
    ∷ 0x06 ∷ 0x00 ∷ 0x04
    ∷ [])
    (5 ∷ 1 ∷ 2 ∷ 6 ∷ [])

-- what it adds to M2, under M2's numbers: names stay, the hash's y stays 0
abbrev added : List ℕ
added = 0x07 ∷ 0x02 ∷ 0x00 ∷ 0x02 ∷ 0x00 ∷ 0x01 ∷ 0x04 ∷ 0x00 ∷ 0x03 ∷ 0x06 ∷ 0x01 ∷ 0x04 ∷ []

-- plain atoms of the names from m on, n of them, all known
abbrev known_atoms : ℕ → ℕ → List ℕ
known_atoms m n = with (flat_map (λ i. 0x01 ∷ 0x00 ∷ (m + i) ∷ []) (listed (λ i. i) n)) (listed (λ i. i) n)

-- two submissions, a page of room bytes, and the answer, with the page's later bytes
pub record Outcome : Type 0 where
  pub answer : Answer
  pub page : List ℕ

pub record Example : Type 0 where
  pub first : List ℕ
  pub second : List ℕ
  pub room : ℕ
  pub wanted : Outcome

abbrev blank : ℕ → List ℕ
blank n = replicate n 0xA5

abbrev got : Example → Outcome
got e =
    let a = join_answer e.first e.second e.room in
    record { answer = a; page = page_after a (joined e.first e.second) (blank e.room) }

abbrev written : List ℕ → List ℕ → ℕ → List ℕ → Example
written a b rest bytes = record { first = a; second = b; room = length bytes + rest; wanted = record { answer = done (length bytes); page = bytes ++ blank rest } }

abbrev refusal : List ℕ → List ℕ → ℕ → ℕ → ℕ → Example
refusal a b room number place = record { first = a; second = b; room = room; wanted = record { answer = refused number place; page = blank room } }

abbrev pub table : List Example
table =
    -- with itself: its own bytes
    written M1 M1 0 M1
    ∷ written other other 1 other
    -- the second's entry that is not there yet comes last
    ∷ written M2 M1 0 (with terms1 (2 ∷ 0 ∷ []))
    ∷ written M1 M2 3 M1
    -- terms in another order are found, and what is built on them is renumbered
    ∷ written M2 other 0 (with (terms1 ++ added) (2 ∷ 5 ∷ 0 ∷ 6 ∷ []))
    ∷ refusal M2 other 48 11 49
    ∷ refusal M2 other 0 11 49
    -- 64 entries, and one more
    ∷ refusal (known_atoms 1 33) (known_atoms 34 31) 0 11 280
    ∷ refusal (known_atoms 1 33) (known_atoms 34 32) 0 20 0
    ∷ refusal (known_atoms 1 33) (known_atoms 34 32) 1346 20 0
    -- the first's checks, then the second's, then 20
    ∷ refusal [] [] 0 1 0
    ∷ refusal M1 [] 0 1 0
    ∷ refusal (with terms1 (3 ∷ [])) [] 0 4 0
    ∷ refusal [] (with terms1 (3 ∷ [])) 0 1 0
    ∷ refusal M1 (with terms1 (0 ∷ 3 ∷ [])) 0 4 1
    ∷ refusal M1 (with [] []) 0 2 0
    ∷ refusal (with (terms1 ++ terms1) []) M1 0 3 3
    ∷ refusal M1 (submission_of (bodies terms1 [] [] (0x02 ∷ 0x00 ∷ 0x6B ∷ 0x00 ∷ []))) 0 5 0
    ∷ refusal (known_atoms 1 64) (with terms1 (3 ∷ [])) 0 4 0
    ∷ []

pub table_right : map got table ≡ map (λ e. e.wanted) table
unfolding join_answer any first first_from grow submission_of contents start_of shape_of are_inverse record_at term decoded number_in way_of bad_contents bad_term bad_knowledge good_claim checks1to4 checks1to5 missing pool_number new_entries pool ℕ_discrete
table_right = refl
