-- What the code's structs mean in document 02's terms.
use Rattle.std.specs.Prelude.{◌≡◌, ◌*◌, ◌/◌, ◌≤◌}
use Rattle.base.specs.Words.{false, length}
use Rattle.base.specs.Computed.{any, passes}
use Rattle.submission.specs.{Body.Bodies, Body.bodies, Body.records, Computed.check_limits}
use Rattle.form.specs.declared.bodies.Bodies.{Bodies as BodiesGiven}
use Rattle.form.specs.Computed.{ragged}

-- the four bodies that slices hold
abbrev pub bodies_in : BodiesGiven → Bodies
bodies_in b = bodies b.terms.now b.knowledge.now b.derivation.now b.claim.now

-- bodies that passed checks 14 and 2, and what that says of their lengths
pub record Writable (b : Bodies) : Type 0 where
  pub whole : any (ragged b) 4 ≡ false
  pub limited : check_limits (records b) ≡ passes
  pub terms : length b.terms ≡ 3 * (length b.terms / 3)
  pub terms_most : length b.terms ≤ 750
  pub knowledge_most : length b.knowledge ≤ 64
  pub derivation : length b.derivation ≡ 4 * (length b.derivation / 4)
  pub derivation_most : length b.derivation ≤ 512
  pub claim : length b.claim ≡ 4
