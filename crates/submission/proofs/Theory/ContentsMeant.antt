-- Check 1 by the places of letters, counts and starts, and the contents as one list: they say the same.
use mathlib.Core.Path.{◌≡◌, refl, sym, ap, ◌∙◌}
use mathlib.Core.Logic.{◌↔◌}
use mathlib.Core.Bool.{Bool, false, not}
use mathlib.Core.List.{List, [], ◌∷◌}
use Prim.Native.Nat.{ℕ, ◌+◌, ◌*◌, ◌/◌, ◌%◌, ◌≤◌, ◌<◌}
use native.Mathlib.Nat.{add-zero}
use native.Mathlib.Omega.{arith}
use lib.ListN.{length, take, drop, length-take, length-drop}
use lib.Seq.{take-add, get_or-take, get_or-drop}
use lib.Dec.{eqb, ltb}
use borrow.Author.Tests.{ltb-false, le-ltb, eq-eqb}
use Rattle.base.specs.Words.{byte, Bytes}
use Rattle.base.specs.Computed.{any}
use Rattle.base.proofs.Says.{or-false, any_false, not_not_false, says_eqb, each_of_four}
use Rattle.submission.specs.Record.{letter, count, start}
use Rattle.submission.specs.Body.{contents_entry, contents}
use Rattle.submission.specs.Check.{ContentsFit}
use Rattle.submission.specs.Computed.{bad_contents}

pub contents_length : (n : ℕ → ℕ) → length (contents n) ≡ 16
unfolding contents
contents_length n = refl

four : (s : List ℕ) → 4 ≤ length s → take 4 s ≡ byte s 0 ∷ byte s 1 ∷ byte s 2 ∷ byte s 3 ∷ []
four [] l = absurd (omega arith)
four (a ∷ []) l = absurd (omega arith)
four (a ∷ b ∷ []) l = absurd (omega arith)
four (a ∷ b ∷ c ∷ []) l = absurd (omega arith)
four (a ∷ b ∷ c ∷ d ∷ s) l = refl

-- the letters and the starts of the four entries are document 01's
abbrev LettersRight : List ℕ → Type 0
LettersRight s = (i : ℕ) → i < 4 → byte s (4 * i) ≡ letter i

abbrev StartsRight : List ℕ → Type 0
StartsRight s = (i : ℕ) → i < 4 → byte s (4 * i + 2) * 256 + byte s (4 * i + 3) ≡ start s i

module _ (s : List ℕ) (bytes : Bytes s) where
  -- an entry of the contents is the one that its count asks for
  entry_is : 16 ≤ length s → LettersRight s → StartsRight s → (i : ℕ) → i < 4 → take 4 (drop (4 * i) s) ≡ contents_entry (count s) i
  entry_is long letters starts i l =
      let m : 4 ≤ length (drop (4 * i) s) = rw (length-drop (4 * i) s) (omega arith) in
      let h : byte s (4 * i + 2) ≡ start s i / 256 = omega (arith, starts i l, bytes (4 * i + 3)) in
      let g : byte s (4 * i + 3) ≡ start s i % 256 = omega (arith, starts i l, bytes (4 * i + 3)) in
      four (drop (4 * i) s) m ∙ rw (get_or-drop (4 * i) s 0 0, get_or-drop (4 * i) s 1 0, get_or-drop (4 * i) s 2 0, get_or-drop (4 * i) s 3 0, add-zero (4 * i), letters i l, h, g)

  contents_are : 16 ≤ length s → LettersRight s → StartsRight s → take 16 s ≡ contents (count s)
  unfolding contents
  contents_are long letters starts =
      let entry = entry_is long letters starts in
      take-add 12 4 s ∙ rw (take-add 8 4 s, take-add 4 4 s, entry 0 (omega arith), entry 1 (omega arith), entry 2 (omega arith), entry 3 (omega arith))

  module _ (t : take 16 s ≡ contents (count s)) where
    long_enough : 16 ≤ length s
    long_enough = omega (arith, sym (length-take 16 s) ∙ ap length t ∙ contents_length (count s))

    at : (j : ℕ) → j < 16 → byte s j ≡ byte (contents (count s)) j
    at j l = sym (get_or-take 16 s j 0 l) ∙ ap (λ (x : List ℕ). byte x j) t

    letters_right : LettersRight s
    unfolding contents
    letters_right = each_of_four (λ i. byte s (4 * i) ≡ letter i) (at 0 (omega arith)) (at 4 (omega arith)) (at 8 (omega arith)) (at 12 (omega arith))

    starts_right : StartsRight s
    unfolding contents
    starts_right =
        each_of_four (λ i. byte s (4 * i + 2) * 256 + byte s (4 * i + 3) ≡ start s i)
        (word 0 (at 2 (omega arith)) (at 3 (omega arith))) (word 1 (at 6 (omega arith)) (at 7 (omega arith))) (word 2 (at 10 (omega arith)) (at 11 (omega arith))) (word 3 (at 14 (omega arith)) (at 15 (omega arith)))
      where
        word : (i : ℕ) {h l : ℕ} → h ≡ start s i / 256 → l ≡ start s i % 256 → h * 256 + l ≡ start s i
        word i e f = omega arith

  -- check 1 passes exactly where the contents fit
  pub contents_iff : (bad_contents s ≡ false) ↔ ContentsFit s
  unfolding bad_contents
  contents_iff = (there, back)
    where
      wrong_letter : ℕ → Bool
      wrong_letter i = not (eqb (byte s (4 * i)) (letter i))

      wrong_start : ℕ → Bool
      wrong_start i = not (eqb (byte s (4 * i + 2) * 256 + byte s (4 * i + 3)) (start s i))

      right : (x y : ℕ) → not (eqb x y) ≡ false → x ≡ y
      right x y e = (says_eqb x y).0 ((not_not_false (eqb x y)).0 e)

      there : bad_contents s ≡ false → ContentsFit s
      there e =
          let (l, f) = (or-false (ltb (length s) 16) _).0 e in
          let (a, g) = (or-false (any wrong_letter 4) _).0 f in
          let (b, z) = (or-false (any wrong_start 4) _).0 g in
          (contents_are (ltb-false (length s) 16 l) (λ i h. right _ _ ((any_false wrong_letter 4).0 a i h)) (λ i h. right _ _ ((any_false wrong_start 4).0 b i h)), right (length s) (start s 4) z)

      back : ContentsFit s → bad_contents s ≡ false
      back (t, e) =
          let a : any wrong_letter 4 ≡ false = (any_false wrong_letter 4).1 (λ i l. (not_not_false _).1 (eq-eqb _ _ (letters_right t i l))) in
          let b : any wrong_start 4 ≡ false = (any_false wrong_start 4).1 (λ i l. (not_not_false _).1 (eq-eqb _ _ (starts_right t i l))) in
          rw (le-ltb (length s) 16 (long_enough t), a, b, eq-eqb (length s) (start s 4) e)
