-- The numbers of kinds, and the numbers and words of rules: document 01, 'Terms' and the table of 'Dolev-Yao steps', and A2. No other place lists them.
use Rattle.std.specs.Prelude.{◌∷◌}
use Rattle.base.specs.Words.{Bool, List, [], map, get_elem?, Option, none, ℕ, zero, suc, length, get_or}
use Rattle.term.specs.Term.{plain, public, private, symmetric, asymmetric, left, right, pair, hash, encryption, Shape, atomic, compound, Head, make, part, decrypt, single}

-- "Kinds 1 plain atom, 2 public key, 3 private key .. Kind 4 pair(x, y); 5 enc(x, y) ..; 6 enca(x, y)"; A2: "Add term kind 7, hash(x)"
abbrev pub kinds : List Shape
kinds =
    atomic plain
    ∷ atomic public
    ∷ atomic private
    ∷ compound pair
    ∷ compound (encryption symmetric)
    ∷ compound (encryption asymmetric)
    ∷ compound hash
    ∷ []

-- kinds count from 1
unfoldable pub shape_of : ℕ → Option Shape
shape_of zero = none
shape_of (suc n) = get_elem? kinds n

-- rules 0 to 7, with the words pair, fst, snd, enc, dec, enca, deca, hash in ASCII
abbrev pub table : List (Head × List ℕ)
table =
    (make pair, 0x70 ∷ 0x61 ∷ 0x69 ∷ 0x72 ∷ [])
    ∷ (part left, 0x66 ∷ 0x73 ∷ 0x74 ∷ [])
    ∷ (part right, 0x73 ∷ 0x6E ∷ 0x64 ∷ [])
    ∷ (make (encryption symmetric), 0x65 ∷ 0x6E ∷ 0x63 ∷ [])
    ∷ (decrypt symmetric, 0x64 ∷ 0x65 ∷ 0x63 ∷ [])
    ∷ (make (encryption asymmetric), 0x65 ∷ 0x6E ∷ 0x63 ∷ 0x61 ∷ [])
    ∷ (decrypt asymmetric, 0x64 ∷ 0x65 ∷ 0x63 ∷ 0x61 ∷ [])
    ∷ (make hash, 0x68 ∷ 0x61 ∷ 0x73 ∷ 0x68 ∷ [])
    ∷ []

abbrev pub rules : ℕ
rules = length table

-- a number that is no rule, which checks 6 and 13 refuse, reads as deca
unfoldable pub head_of : ℕ → Head
head_of n = get_or (map (λ r. r.0) table) n (decrypt asymmetric)

unfoldable pub word_of : ℕ → List ℕ
word_of n = get_or (map (λ r. r.1) table) n []

-- a rule with one operand has one premise and one register
unfoldable pub has_one : ℕ → Bool
has_one n = single (head_of n)
