-- Two submissions that have one body in common: its bytes are the same in both, each from its own start.
use mathlib.Core.Path.{◌≡◌, sym, ap, ◌∙◌}
use mathlib.Core.List.{List}
use Prim.Native.Nat.{ℕ, ◌+◌, ◌*◌, ◌<◌}
use native.Mathlib.Omega.{arith}
use Rattle.base.specs.Words.{byte}
use Rattle.submission.specs.{Record.count, Record.width, Record.start, Body.body_at}
use Rattle.form.proofs.Theory.RoundTrip.{body_byte}

module _ (s s' : List ℕ) (k : ℕ) (count_same : count s k ≡ count s' k) (body_same : body_at s k ≡ body_at s' k) where
  pub same_byte : (i : ℕ) → i < width k * count s k → byte s (start s k + i) ≡ byte s' (start s' k + i)
  same_byte i l = sym (body_byte s k i l) ∙ ap (λ x. byte x i) body_same ∙ body_byte s' k i (rw (← count_same) l)

  -- byte j of the record that stands at i
  pub same_field : (i j : ℕ) → i + j < width k * count s k → byte s (start s k + i + j) ≡ byte s' (start s' k + i + j)
  same_field i j l =
      let e : start s k + i + j ≡ start s k + (i + j) = omega arith in
      let f : start s' k + i + j ≡ start s' k + (i + j) = omega arith in
      ap (byte s) e ∙ same_byte (i + j) l ∙ sym (ap (byte s') f)

  pub same_first : 0 < width k * count s k → byte s (start s k) ≡ byte s' (start s' k)
  same_first l =
      let e : start s k ≡ start s k + 0 = omega arith in
      let f : start s' k ≡ start s' k + 0 = omega arith in
      ap (byte s) e ∙ same_byte 0 l ∙ sym (ap (byte s') f)
