-- What the program `verdict` prints, as bytes: document 01, after 'Marked examples'.
use Rattle.std.specs.Prelude.{◌∷◌, ◌++◌, ◌+◌, ◌/◌, ◌%◌}
use Rattle.base.specs.{Words.true, Words.false, Words.cond, Words.List, Words.[], Words.ℕ, Words.zero, Words.suc, Words.ltb, Answer.Answer, Answer.done, Answer.refused}
use Rattle.term.specs.Number.{word_of, has_one}
use Rattle.program.specs.Program.{relation_of, relation_word, Instruction, instruction_at, test_at}

-- a number in decimal, in ASCII; a number has fewer digits than itself and one
unfoldable pub digits : ℕ → ℕ → List ℕ
digits zero n = []
digits (suc fuel) n = elim (ltb n 10) [ true ↦ (0x30 + n) ∷ [] | false ↦ digits fuel (n / 10) ++ (0x30 + n % 10) ∷ [] ]

abbrev pub decimal : ℕ → List ℕ
decimal n = digits (suc n) n

-- "with single spaces"; "Each line ends with byte 0A."
abbrev pub space : List ℕ
space = 0x20 ∷ []

abbrev pub newline : List ℕ
newline = 0x0A ∷ []

-- r and the register's number
abbrev pub register_text : ℕ → List ℕ
register_text r = 0x72 ∷ decimal r

-- "fst and snd show one register"; A2: "it prints with one register". The second register with its space, under a rule with two operands
abbrev pub second_text : ℕ → ℕ → List ℕ
second_text rule second = cond (has_one rule) [] (space ++ register_text second)

-- "Rule words are those of the table": the line of an instruction whose result goes to register r
unfoldable pub step_line : ℕ → Instruction → List ℕ
step_line r i =
    register_text r ++ space ++ (0x3D ∷ []) ++ space ++ word_of i.rule ++ space ++ register_text i.left
    ++ second_text i.rule i.right ++ newline

-- the line of the test, after the word signal
unfoldable pub test_line : Instruction → List ℕ
test_line t =
    (0x73 ∷ 0x69 ∷ 0x67 ∷ 0x6E ∷ 0x61 ∷ 0x6C ∷ []) ++ space ++ register_text t.left ++ space ++ relation_word (relation_of t.rule) ++ space ++ register_text t.right ++ newline

-- the lines of the first n instructions on a page, the first of which writes register r
unfoldable pub step_lines : ℕ → List ℕ → ℕ → List ℕ
step_lines r page zero = []
step_lines r page (suc n) = step_lines r page n ++ step_line (r + n) (instruction_at page n)

-- the words are refused and accepted
abbrev pub refused_text : ℕ → ℕ → List ℕ
refused_text number place = (0x72 ∷ 0x65 ∷ 0x66 ∷ 0x75 ∷ 0x73 ∷ 0x65 ∷ 0x64 ∷ []) ++ space ++ decimal number ++ space ++ decimal place ++ newline

-- "prints one line, `refused`, number, place, or `accepted` and N ..; after `accepted` come one line a step and the test"
unfoldable pub answer_text : ℕ → Answer → List ℕ → List ℕ
answer_text known (done n) page =
    (0x61 ∷ 0x63 ∷ 0x63 ∷ 0x65 ∷ 0x70 ∷ 0x74 ∷ 0x65 ∷ 0x64 ∷ []) ++ space ++ decimal n ++ newline ++ step_lines (known + 1) page n ++ test_line (test_at page)
answer_text known (refused number place) page = refused_text number place
