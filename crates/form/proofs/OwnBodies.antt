-- The bodies of a submission that passed checks 1 to 4, as parts of its bytes.
use mathlib.Core.Path.{◌≡◌, refl, ap, ◌∙◌}
use mathlib.Core.List.{List}
use Prim.Native.Nat.{ℕ, ◌+◌, ◌-◌, ◌*◌, ◌≤◌}
use native.Mathlib.Omega.{arith}
use lib.ListN.{length, take, drop}
use Rattle.base.specs.Answer.{Clear}
use Rattle.base.proofs.RefusalLaws.{passes_iff}
use Rattle.submission.specs.{Record.count, Record.width, Record.start_of, Record.start, Body.body_at, Body.bodies, Body.bodies_of, Check.rows1to4, Code.Starts, Code.TableRead}
use Rattle.submission.proofs.Theory.ReadingRows.{tells_1_to_4, contents_fit, one_claim}

-- the bytes from where body i starts to where the next one does
part_is : (s : List ℕ) (i a e : ℕ) → a ≡ start s i → e ≡ start s i + width i * count s i → take (e - a) (drop a s) ≡ body_at s i
part_is s i a e f g = let h : e - a ≡ width i * count s i = omega arith in rw (h, f)

module _ {s : List ℕ} (t : TableRead s) where
  clear : Clear (rows1to4 s)
  clear = (passes_iff (tells_1_to_4 s t.bytes)).0 t.passed

  ends : length s ≡ start s 3 + 4
  unfolding start_of
  ends = (contents_fit s t.bytes (clear.0, (clear.1.0, tt))).1 ∙ ap (λ n. start s 3 + 4 * n) (one_claim s (clear.0, (clear.1.0, tt)))

  module _ {k d c : ℕ} (p : Starts s 1 k) (q : Starts s 2 d) (r : Starts s 3 c) where
    pub in_order : (16 ≤ k) × (k ≤ d) × (d ≤ c) × (c ≤ length s)
    unfolding start_of
    in_order = (omega (arith, p.is), omega (arith, p.is, q.is), omega (arith, q.is, r.is), omega (arith, r.is, ends))

    pub in_bounds : (k ≤ length s) × (d ≤ length s)
    in_bounds = let (_, x, y, z) = in_order in (omega arith, omega arith)

    pub own_bodies : {b0 b1 b2 b3 : List ℕ} → b0 ≡ take (k - 16) (drop 16 s) → b1 ≡ take (d - k) (drop k s) → b2 ≡ take (c - d) (drop d s) → b3 ≡ take (length s - c) (drop c s) →
        bodies b0 b1 b2 b3 ≡ bodies_of s
    unfolding start_of
    own_bodies e f g h =
        rw (e, f, g, h, part_is s 0 16 k refl (omega (arith, p.is)), part_is s 1 k d p.is (omega (arith, q.is)), part_is s 2 d c q.is (omega (arith, r.is)), part_is s 3 c (length s) r.is (omega (arith, ends, one_claim s (clear.0, (clear.1.0, tt)))))
