-- The call answers as its rows and their order say, and each byte is what A4 says.
use mathlib.Core.Path.{◌≡◌, refl, sym, ◌∙◌}
use mathlib.Core.Logic.Iff
use mathlib.Core.Logic.{◌↔◌, ◌⊎◌, inl, inr, ⊎_elim}
use mathlib.Core.Bool.{true, false, true≢false}
use mathlib.Core.List.{List}
use Prim.Native.Nat.{ℕ, ◌≤◌, ◌<◌}
use Rattle.std.specs.Prelude.{Option, Some, None, unwrap_or}
use native.Mathlib.Omega.{arith}
use lib.ListN.{length}
use Rattle.base.specs.{Words.byte, Words.Bytes, Answer.Answer, Answer.Clear, Answer.Answers, Computed.check_room}
use Rattle.base.proofs.{Grow.length_listed, Grow.listed_at, RefusalLaws.answers_iff, RefusalLaws.passes_iff, RefusalLaws.tells_then, RefusalLaws.tells_room}
use Rattle.term.specs.Term.{asymmetric, Match}
use Rattle.submission.specs.{Record.terms, Record.term, Check.rows1to4, Computed.are_inverse, Computed.checks1to4}
use Rattle.submission.proofs.Theory.{ReadingRows.tells_1_to_4, ListedTerms.Listed, ListedTerms.listed}
use Rattle.inverse.specs.{Inverse.inverses_rows, Inverse.InverseListed, Inverse.InversesPromise, Computed.inverse_of, Computed.inverses_of, Computed.inverses_answer, Code.InverseAmong, Code.found_inverse}
use Rattle.inverse.proofs.Theory.InverseKeys.{inverse_sym, inverse_one, all_among, page_byte}

-- The call refuses with n at p exactly when row n holds at p and no row holds that the order puts before it; else it is done with the count of
-- terms.
pub inverses_exact : (s : List ℕ) → Bytes s → (room : ℕ) (a : Answer) → (inverses_answer s room ≡ a) ↔ Answers (inverses_rows s room) (λ n. n ≡ terms s) a
unfolding inverses_answer
inverses_exact s b room =
    answers_iff (tells_then (checks1to4 s) (check_room (terms s) room) (tells_1_to_4 s b) (λ _. tells_room (terms s) room))
    (terms s) (λ n. n ≡ terms s) (λ _ n. (sym, sym))

-- ---- the bytes
byte_is : (s : List ℕ) (n : ℕ) → n < terms s → byte (inverses_of s) n ≡ inverse_of s n
unfolding inverses_of
byte_is s n l = listed_at (inverse_of s) n (terms s) 0 l

length_is : (s : List ℕ) → length (inverses_of s) ≡ terms s
unfolding inverses_of
length_is s = length_listed (inverse_of s) (terms s)

-- the byte b is the number of the inverse, or 255 for none
record ByteFound (s : List ℕ) (n b : ℕ) : Type 0 where
  is : (b ≡ 255) ⊎ ((b < terms s) × (are_inverse s n b ≡ true))
  none : b ≡ 255 → (j : ℕ) → j < terms s → are_inverse s n j ≡ false

byte_found : (s : List ℕ) (n : ℕ) (o : Option ℕ) → terms s ≤ 255 → InverseAmong s n (terms s) o → ByteFound s n (unwrap_or o 255)
byte_found s n None b f = record { is = inl refl; none = λ _. f }
byte_found s n (Some j) b (l, t) = record { is = inr (l, t); none = λ e. absurd (omega arith) }

module _ (s : List ℕ) (z : Listed s) (n : ℕ) (l : n < terms s) where
  found : ByteFound s n (byte (inverses_of s) n)
  found = rw (byte_is s n l, ← page_byte s n) (byte_found s n (found_inverse s n) (omega (arith, z.terms_most)) (all_among s n))

  byte_one : (byte (inverses_of s) n ≡ 255) ⊎ (byte (inverses_of s) n < terms s)
  byte_one = ⊎_elim inl (λ x. inr x.0) found.is

  -- the byte is the number j exactly where the test says so
  byte_test : (j : ℕ) → j < terms s → (byte (inverses_of s) n ≡ j) ↔ (are_inverse s n j ≡ true)
  byte_test j m = (
    λ e. ⊎_elim (λ x. absurd (omega (arith, z.terms_most))) (λ (k, t). rw (← e) t) found.is,
    λ t. ⊎_elim (λ x. absurd (true≢false (sym t ∙ found.none x j m))) (λ (k, u). inverse_one z n (byte (inverses_of s) n) j l k m u t) found.is,
  )

  byte_listed : (j : ℕ) → j < terms s → (byte (inverses_of s) n ≡ j) ↔ Match asymmetric (term s n) (term s j)
  byte_listed j m = Iff.trans (byte_test j m) (z.inverse_iff n j l m)

  byte_none : (byte (inverses_of s) n ≡ 255) ↔ ((j : ℕ) → InverseListed s n j → ⊥)
  byte_none = (
    λ e j (m, h). let x = (byte_listed j m).1 h in omega (arith, z.terms_most),
    λ f. ⊎_elim (λ x. x) (λ m. absurd (f _ (m, (byte_listed _ m).0 refl))) byte_one,
  )

pub inverses_promise : InversesPromise
inverses_promise = record {
  long = length_is;
  listed = λ s b c n l. byte_listed s (read s b c) n l;
  none = λ s b c n l. byte_none s (read s b c) n l;
  one = λ s b c n l. byte_one s (read s b c) n l;
  each_other = λ s b c n l j m e. let z = read s b c in (byte_test s z j m n l).1 (inverse_sym z n j l m ((byte_test s z n l j m).0 e));
  no_key = λ s b c n l k. (byte_none s (read s b c) n l).1 (λ j h. k h.1.0);
}
  where
    read : (s : List ℕ) → Bytes s → Clear (rows1to4 s) → Listed s
    read s b c = listed s b ((passes_iff (tells_1_to_4 s b)).1 c)
