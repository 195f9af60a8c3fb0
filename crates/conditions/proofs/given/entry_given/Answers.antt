-- `entry_given`: the first entry that is the term claimed.
use mathlib.Core.Bool.{true, false}
use Rattle.std.specs.Prelude.{◌≡◌}
use Rattle.std.proofs.Common.{rules}
use Rattle.std.proofs.lemmas.Iterator.{first_from_Range}
use Rattle.submission.specs.{Record.entry_at, Code.target_is}
use Rattle.conditions.specs.Computed.{is_target, entry_found}
use Rattle.base.proofs.Find.{place_found}
use Rattle.conditions.proofs.given.entry_given.Goals as goal

pub returns : goal.returns
unfolding entry_found
returns c =
    let s = c.args.claimed.bytes.now in
    let t = target_is c.args.target in
    place_found (λ i. is_target s t (entry_at s i)) c.find.result
    (first_from_Range _ _ _ _ (λ i. is_target s t (entry_at s i) ≡ true) (λ i. is_target s t (entry_at s i) ≡ false) c.find.ensures.ran (λ x q k. search rules) (λ x q k. search rules))
    c.entries.ensures
