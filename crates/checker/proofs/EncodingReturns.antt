-- The answers as one number each: what a call returned for C, and what it stands for.
use mathlib.Core.Path.{◌≡◌, ap, ◌∙◌}
use mathlib.Core.List.{List}
use Prim.Native.Nat.{ℕ}
use Rattle.std.specs.Prelude.{Result}
use Rattle.base.specs.declared.refusal.Refusal.{Refusal}
use Rattle.base.specs.Answer.{Answer, answer_of, Writes}
use Rattle.submission.specs.Body.{Bodies}
use Rattle.form.specs.Calls.{FormWritten}
use Rattle.inverse.specs.Calls.{InversesWritten}
use Rattle.readback.specs.Calls.{BodiesWritten}
use Rattle.conditions.specs.Calls.{ProgramWritten}
use Rattle.checker.specs.Calls.{encoded, Encoded, EncodedForm, EncodedInverses, EncodedBodies}

-- x was answered, and is a; r was returned for x
pub encoded_as : {x : Answer} (a : Answer) {r : ℕ} → x ≡ a → r ≡ encoded x → r ≡ encoded a
encoded_as a e g = g ∙ ap encoded e

-- a call that answers a number of its own, and writes a page
page_as : {written page page' : List ℕ} (x : Result ℕ Refusal) {a : Answer} {r : ℕ} → Writes (λ a. answer_of x ≡ a) a written page page' → r ≡ encoded (answer_of x) →
    Writes (λ a. r ≡ encoded a) a written page page'
page_as x h g = record { answer = g ∙ ap encoded h.answer; bytes = h.bytes }

pub written_as : (s : List ℕ) {page page' : List ℕ} (x : Result ℕ Refusal) {r : ℕ} → ProgramWritten s page x page' → r ≡ encoded (answer_of x) → Encoded s page r page'
written_as s x h g = page_as x h g

pub form_as : (b : Bodies) {page page' : List ℕ} (x : Result ℕ Refusal) {r : ℕ} → FormWritten b page x page' → r ≡ encoded (answer_of x) → EncodedForm b page r page'
form_as b x h g = page_as x h g

pub inverses_as : (s : List ℕ) {page page' : List ℕ} (x : Result ℕ Refusal) {r : ℕ} → InversesWritten s page x page' → r ≡ encoded (answer_of x) → EncodedInverses s page r page'
inverses_as s x h g = page_as x h g

pub bodies_as : (s P : List ℕ) {page page' : List ℕ} (x : Result ℕ Refusal) {r : ℕ} → BodiesWritten s P page x page' → r ≡ encoded (answer_of x) → EncodedBodies s P page r page'
bodies_as s P x h g = page_as x h g
