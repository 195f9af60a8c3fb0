-- `Founded::check_undone`: the first step that is undone.
use mathlib.Core.Bool.{true, false}
use Rattle.std.proofs.Common.{◌≡◌, ◌∙◌, ap, rules}
use Rattle.std.proofs.lemmas.Iterator.{first_from_Range}
use Rattle.base.specs.Computed.{fails_at}
use Rattle.base.proofs.Find.{place_found}
use Rattle.conditions.proofs.Found.{mapped}
use Rattle.conditions.specs.Computed.{undone}
use Rattle.conditions.proofs.conditions.Founded.check_undone.Goals as goal

pub returns : goal.returns
returns c =
    let s = c.args.self.derivation.bytes.now in
    c.at_first.ensures ∙ ap (fails_at 10) (mapped c.find-undone.result c.map.result c.map.ensures.cases ∙ place_found (undone s) c.find-undone.result
    (first_from_Range _ _ _ _ (λ i. undone s i ≡ true) (λ i. undone s i ≡ false) c.find-undone.ensures.ran (λ x q k. search rules) (λ x q k. search rules)) c.steps.ensures)
