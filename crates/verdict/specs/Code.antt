-- What the program says and answers.
use Rattle.std.specs.Prelude.{codes, List, ℕ, Option, None, Some, Result, Ok, Err, ⊤}
use Rattle.std.specs.Io.KnownBytes.{Appends, Keeps}
use Rattle.base.specs.Words.{Bytes}
use Rattle.checker.specs.Calls.{verdict_text}
use Rattle.verdict.specs.declared.Failure.{Failure}
use Rattle.verdict.specs.declared.Failure.TheVariants.{NotRead, NotWritten}

-- what stands on standard error where no verdict was printed
abbrev pub message : Failure → List ℕ
message NotRead = codes "standard input could not be read"
message NotWritten = codes "the verdict could not be written"

-- where the verdict was printed, the output out' is out and then the text of the verdict on all of the input, if their bytes are known;
-- where the input was not read, the output is as it was
abbrev pub Answered : {T : Type 0} → Option (List ℕ) → Result T Failure → Option (List ℕ) → Option (List ℕ) → Type 0
Answered (Some bytes) (Ok x) out out' = Bytes bytes → Appends out out' (verdict_text bytes)
Answered None (Ok x) out out' = ⊤
Answered input (Err NotRead) out out' = Keeps out out'
Answered input (Err NotWritten) out out' = ⊤
