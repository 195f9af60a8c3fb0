-- Reading what was written gives the four bodies again, and writing the bodies of a submission gives its bytes.
use mathlib.Core.Path.{◌≡◌, refl, sym, ap, ◌∙◌}
use mathlib.Core.Logic.{◌⊎◌, ⊎_elim}
use mathlib.Core.List.{List, [], ◌++◌, append_assoc, append-nil}
use Prim.Native.Nat.{ℕ, ◌+◌, ◌*◌, ◌≤◌, ◌<◌}
use native.Mathlib.Omega.{arith}
use lib.ListN.{length, take, drop, length-append, length-drop}
use lib.Seq.{take_at, drop_at, take-add, take_all, length-take-le, get_or-take, get_or-drop}
use Rattle.base.specs.Words.{byte, Bytes}
use Rattle.base.specs.Answer.{done, Clear}
use Rattle.base.proofs.{RefusalLaws.passes_iff, Says.each_of_four}
use Rattle.submission.specs.Record.{count, width, least, most, start_of, start}
use Rattle.submission.specs.Body.{Bodies, body, records, body_at, bodies_of, contents, submission_of}
use Rattle.submission.specs.Check.{rows1and2}
use Rattle.submission.proofs.Theory.{ContentsMeant.contents_length, ReadingRows.tells_limits, ReadingRows.contents_fit, ReadingRows.counts_within}
use Rattle.form.specs.{Write.ReadsAs, Write.FormPromise, Computed.write_answer, Code.Writable}
use Rattle.form.proofs.Theory.WritableBodies.{StartsAt, starts}
use Rattle.form.proofs.Theory.WriteAnswer.{write_exact, written_writable}

-- ---- reading what was written
-- a part in the middle
middle : (s x y z : List ℕ) (i n : ℕ) → s ≡ x ++ (y ++ z) → length x ≡ i → length y ≡ n → take n (drop i s) ≡ y
middle s x y z i n e f g = rw (e, drop_at x (y ++ z) i f, take_at y z n g)

module _ (b : Bodies) where
  -- the counts that stand in the contents
  pub counts : (i : ℕ) → i < 4 → count (submission_of b) i ≡ records b i
  unfolding submission_of contents
  counts = each_of_four (λ i. count (submission_of b) i ≡ records b i) refl refl refl refl

  contents_right : take 16 (submission_of b) ≡ contents (count (submission_of b))
  unfolding submission_of contents start_of
  contents_right = refl

  module _ (w : Writable b) where
    starts_are : StartsAt (start (submission_of b)) b
    unfolding submission_of contents start_of
    starts_are = let e = starts w in record { terms = e.terms; knowledge = e.knowledge; derivation = e.derivation; claim = e.claim; end = e.end }

    -- each body stands where the contents say
    bodies_again : bodies_of (submission_of b) ≡ b
    unfolding submission_of
    bodies_again =
        let s = submission_of b in
        let c = contents (records b) in
        let z = contents_length (records b) in
        let t = b.terms in
        let k = b.knowledge in
        let d = b.derivation in
        let v = b.claim in
        let e = starts_are in
        let c0 = counts 0 (omega arith) in
        let c1 = counts 1 (omega arith) in
        let c2 = counts 2 (omega arith) in
        let c3 = counts 3 (omega arith) in
        let l1 : length (c ++ t) ≡ 16 + length t = simp (length-append, z) in
        let l2 : length (c ++ t ++ k) ≡ 16 + length t + length k = simp (length-append, z) in
        let l3 : length (c ++ t ++ k ++ d) ≡ 16 + length t + length k + length d = simp (length-append, z) in
        let b0 : body_at s 0 ≡ t = middle s c t (k ++ (d ++ v)) (start s 0) (3 * count s 0) (simp append_assoc) (omega (arith, e.terms)) (omega (arith, w.terms)) in
        let b1 : body_at s 1 ≡ k = middle s (c ++ t) k (d ++ v) (start s 1) (1 * count s 1) (simp append_assoc) (omega (arith, e.knowledge)) (omega arith) in
        let b2 : body_at s 2 ≡ d = middle s (c ++ t ++ k) d v (start s 2) (4 * count s 2) (simp append_assoc) (omega (arith, e.derivation)) (omega (arith, w.derivation)) in
        let b3 : body_at s 3 ≡ v = middle s (c ++ t ++ k ++ d) v [] (start s 3) (4 * count s 3) (simp append-nil) (omega (arith, e.claim)) (omega (arith, w.claim)) in
        rw (b0, b1, b2, b3)

    -- "Reading what was written must give the four bodies again"
    pub reads_again : ReadsAs (submission_of b) b
    reads_again = record {
      passes = (λ m q (e, (f, g)). g (contents_right, sym starts_are.end), (λ m q (e, (l, h)). within m q e l h, tt));
      bodies = bodies_again;
    }
      where
        within : (m q : ℕ) → m ≡ 2 → q < 4 → (count (submission_of b) q < least q) ⊎ (most q < count (submission_of b) q) → ⊥
        within m q e l h = ((passes_iff (tells_limits (records b))).0 w.limited).0 2 q (refl, (l, rw (counts q l) at h))

-- ---- whole bodies within their limits make a submission that passes checks 1 and 2
module _ (b : Bodies) (n : ℕ → ℕ) (whole : (i : ℕ) → i < 4 → length (body b i) ≡ width i * n i) (within : (i : ℕ) → i < 4 → (least i ≤ n i) × (n i ≤ most i)) where
  pub counted : (i : ℕ) → i < 4 → records b i ≡ n i
  counted =
      each_of_four (λ i. records b i ≡ n i)
      (omega (arith, whole 0 (omega arith))) (omega (arith, whole 1 (omega arith))) (omega (arith, whole 2 (omega arith))) (omega (arith, whole 3 (omega arith)))

  limit : (q : ℕ) → q < 4 → (records b q < least q) ⊎ (most q < records b q) → ⊥
  limit q l h = let (x, y) = within q l in let e = counted q l in ⊎_elim (λ a. omega arith) (λ a. omega arith) h

  -- with page enough nothing refuses them
  pub whole_written : (room : ℕ) → length (submission_of b) ≤ room → write_answer b room ≡ done (length (submission_of b))
  whole_written room r =
      (write_exact b room (done (length (submission_of b)))).1
      (((λ m q (_, (_, (i, l, ragged))). ragged (n i) (whole i l)), ((λ m q (_, (l, h)). limit q l h), ((λ m q (_, (_, l)). omega arith), tt))), refl)

  pub reads_as : ReadsAs (submission_of b) b
  reads_as = reads_again b (written_writable b (length (submission_of b)) (whole_written (length (submission_of b)) (omega arith)))

-- ---- a byte of a body, where the body starts
pub body_byte : (s : List ℕ) (k i : ℕ) → i < width k * count s k → byte (body_at s k) i ≡ byte s (start s k + i)
body_byte s k i l = get_or-take (width k * count s k) (drop (start s k) s) i 0 l ∙ get_or-drop (start s k) s i 0

-- ---- writing what was read
module _ (s : List ℕ) (bytes : Bytes s) (clear : Clear (rows1and2 s)) where
  -- the bodies' lengths
  pub body_length : (i : ℕ) → i < 4 → length (body_at s i) ≡ width i * count s i
  unfolding start_of
  body_length =
      let (_, e) = contents_fit s bytes clear in
      each_of_four (λ i. length (body_at s i) ≡ width i * count s i) (fits 0 (omega arith)) (fits 1 (omega arith)) (fits 2 (omega arith)) (fits 3 (omega arith))
    where
      fits : (i : ℕ) → width i * count s i + start s i ≤ length s → length (body_at s i) ≡ width i * count s i
      fits i l = length-take-le (width i * count s i) (drop (start s i) s) (rw (length-drop (start s i) s) (omega arith))

  whole_again : (i : ℕ) → i < 4 → length (body (bodies_of s) i) ≡ width i * count s i
  whole_again =
      each_of_four (λ i. length (body (bodies_of s) i) ≡ width i * count s i) (body_length 0 (omega arith)) (body_length 1 (omega arith)) (body_length 2 (omega arith)) (body_length 3 (omega arith))

  counts_again : (i : ℕ) → i < 4 → records (bodies_of s) i ≡ count s i
  counts_again = counted (bodies_of s) (count s) whole_again (counts_within s clear)

  contents_again : contents (records (bodies_of s)) ≡ contents (count s)
  unfolding contents start_of
  contents_again = rw (counts_again 0 (omega arith), counts_again 1 (omega arith), counts_again 2 (omega arith), counts_again 3 (omega arith))

  -- "writing the bodies of a well-formed submission must give its bytes"
  pub written_again_lem : submission_of (bodies_of s) ≡ s
  unfolding submission_of start_of
  written_again_lem =
      let (t, e) = contents_fit s bytes clear in
      rw (contents_again, ← t, ← take-add (start s 0) (width 0 * count s 0) s, ← take-add (start s 1) (width 1 * count s 1) s, ← take-add (start s 2) (width 2 * count s 2) s, ← take-add (start s 3) (width 3 * count s 3) s, ← e) (take_all (length s) s (omega arith))

  -- and with page enough nothing refuses them
  pub accepted_again : (room : ℕ) → length s ≤ room → write_answer (bodies_of s) room ≡ done (length s)
  accepted_again room r =
      let e : length (submission_of (bodies_of s)) ≡ length s = ap length written_again_lem in
      whole_written (bodies_of s) (count s) whole_again (counts_within s clear) room (omega arith) ∙ ap done e

pub form_promise : FormPromise
form_promise = record {
  read_again = λ b room n e. reads_again b (written_writable b room e);
  written_again = written_again_lem;
  not_refused = accepted_again;
}
