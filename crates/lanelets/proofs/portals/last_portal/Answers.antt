use Rattle.std.proofs.Common.{◌∙◌, ◌-◌, length, ap, sym}
use Rattle.spot_terms.specs.Cells.{portal_at}
use Rattle.lanelets.proofs.portals.last_portal.Goals as goal

pub returns-clause-is : goal.returns-clause-is
returns-clause-is c = λ id. ap (λ k. portal_at (id, c.args.lane.now) (k - 1)) (sym (ap length c.list.ensures)) ∙ c.portal_at.ensures.is id
