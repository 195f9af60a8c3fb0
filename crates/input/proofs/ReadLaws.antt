-- What was read stands at the front of the buffer, in the order of the input.
use Rattle.std.proofs.Common.{◌≡◌, ℕ, ◌+◌, ◌≤◌, List, ◌++◌, length, take, sym, ap, ap₂, ◌∙◌, le_refl, drop_at, length-take-le}
use Rattle.std.proofs.lemmas.Slice.{take-put_mid_below}
use borrow.Rule.Slice.PartMut.{put_mid, post_of}
use lib.Seq.{take-add, take-append-le}

-- a read into what is left of the buffer goes on where the one before it ended
pub read_on : (at room n : ℕ) (buffer part : List ℕ) → at ≤ length buffer → n ≤ length part → take at buffer ++ take n part ≡ take (at + n) (put_mid at room buffer part)
read_on at room n buffer part within fits =
    let after = post_of at room buffer in
    let rest = ap (take n) (drop_at (take at buffer) (part ++ after) at (length-take-le at buffer within)) ∙ take-append-le n part after fits in
    sym (take-add at n (put_mid at room buffer part) ∙ ap₂ (λ l m. l ++ m) (take-put_mid_below at room buffer part at (le_refl at) within) rest)
