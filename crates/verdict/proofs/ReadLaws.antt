-- The verdict of what was read is that of all of the input.
use Rattle.std.proofs.Common.{inl, inr, ◌≡◌, ℕ, List, Option, None, Some, IfSome, Result, Ok, Err, IfOk, MatchResult, arith, length, take, ap, ◌∙◌, subst, take_all}
use Rattle.std.specs.Io.KnownBytes.{Appends}
use Rattle.base.proofs.Order.{lt_or_ge}
use Rattle.base.specs.Words.{Bytes}
use Rattle.checker.proofs.Theory.LongInput.{long_text}
use Rattle.checker.specs.Calls.{verdict_text}
use Rattle.verdict.specs.Code.{Answered}
use Rattle.verdict.specs.declared.Failure.{Failure}

-- a value that passes `map_err` is that of the call before
pub passed : {T E : Type 0} (P : T → Type 0) (r : Result T E) (x : T) → MatchResult r (λ y. ◌≡◌ {A = Result T Failure} (Ok x) (Ok y)) (λ e. ⊥) → IfOk r P → P x
passed P (Ok y) x same h = subst P (cc) h
passed P (Err e) x same h = absurd same

-- the first 4,096 bytes of an input have its text
text_of_whole : (bytes : List ℕ) → Bytes bytes → verdict_text (take 4096 bytes) ≡ verdict_text bytes
text_of_whole bytes b = elim (lt_or_ge (length bytes) 4096) [ inl h ↦ ap verdict_text (take_all 4096 bytes (omega arith)) | inr h ↦ long_text bytes b h ]

pub answered : {T : Type 0} (input out out' : Option (List ℕ)) (n : ℕ) (buffer : List ℕ) (x : T) → length buffer ≡ 4096
    → IfSome input (λ bytes. take n buffer ≡ take (length buffer) bytes) → Appends out out' (verdict_text (take n buffer)) → Answered input (Ok x) out out'
answered None out out' n buffer x l h a = tt
answered (Some bytes) out out' n buffer x l h a = λ b. subst (Appends out out') (ap verdict_text (h ∙ ap (λ k. take k bytes) l) ∙ text_of_whole bytes b) a
