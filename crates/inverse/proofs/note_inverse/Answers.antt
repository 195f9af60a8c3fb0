-- `note_inverse` meets its contract: a term that is no key, and a key with and without an inverse among the earlier terms.
use Rattle.std.proofs.Common.{rules}
use Rattle.inverse.proofs.KeyChains.{no_key_chained, no_key_inverse, key_chained}
use Rattle.inverse.proofs.NotedInverses.{found_alone}
use Rattle.inverse.proofs.note_inverse.Goals as goal

pub returns-in_default-clause-chaining : goal.returns-in_default-clause-chaining
returns-in_default-clause-chaining c = search (no_key_chained, rules)

pub returns-in_default-clause-found : goal.returns-in_default-clause-found
returns-in_default-clause-found c = search (found_alone, no_key_inverse, rules)

pub returns-in-Some-earlier-clause-chaining : goal.returns-in-Some-earlier-clause-chaining
returns-in-Some-earlier-clause-chaining c = search (key_chained, rules)

pub returns-in_default-earlier-clause-chaining : goal.returns-in_default-earlier-clause-chaining
returns-in_default-earlier-clause-chaining c = search (key_chained, rules)
