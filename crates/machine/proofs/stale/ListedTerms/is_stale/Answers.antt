-- `is_stale` meets its contract: the own name; neither the atom nor its inverse is listed; and one of them is.
use Rattle.machine.proofs.Theory.StaleSearch.{terms_fit, own_name, stale_marked, stale_unlisted}
use mathlib.Core.Path.{sym, ap, ◌∙◌, subst}
use Rattle.std.proofs.Common.{rules}
use Rattle.submission.specs.Record.{terms}
use Rattle.machine.specs.Code.{Finds}
use Rattle.machine.proofs.stale.ListedTerms.is_stale.Goals as goal

pub returns-then-right_name-v : goal.returns-then-right_name-v
returns-then-right_name-v c = search (own_name, rules)

pub find_inverse-other-requires : goal.find_inverse-other-requires
find_inverse-other-requires c = record { n_bound = search (terms_fit, rules); found_value = search rules }

pub returns-then-n-lowest : goal.returns-then-n-lowest
returns-then-n-lowest c = search (stale_unlisted, rules)

pub returns : goal.returns
returns c =
    let n = c.from-n.ensures ∙ c.terms.ensures ∙ ap terms c.table.ensures in
    stale_marked c.args.v c.args.self.submission.read c.right_name.ensures c.if-right_name-v.false c.args.self.listed c.requires.v_value _ _ (subst (λ k. Finds c.args.self.nodes.now.items c.args.v 0 k c.args.found) (sym n) c.requires.found_value) n c.find_inverse-other.ensures
    c.unwrap_or.ensures c.unwrap_or-2.ensures c.min-lowest.ensures c.is_known_part.ensures
