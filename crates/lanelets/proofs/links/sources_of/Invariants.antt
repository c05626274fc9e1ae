use Rattle.lanelets.specs.Links.{IsFollowed}
use Rattle.lanelets.specs.Listing.{AreRows}
use Rattle.lanelets.proofs.links.sources_of.Given as goal

abbrev pub invariant-loop-f : goal.invariant-loop-f
invariant-loop-f l = AreRows (λ f e. IsFollowed l.lanes.entries e f) l.f l.rows.items
