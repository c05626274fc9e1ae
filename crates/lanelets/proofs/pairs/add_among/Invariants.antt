use Rattle.std.specs.Prelude.{List, take}
use Rattle.spot_terms.specs.Cells.{Lane}
use Rattle.spot_terms.specs.Lists.{Includes, Pairwise}
use Rattle.spot_terms.specs.Network.{IsSide}
use Rattle.lanelets.specs.Kept.{IsKept}
use Rattle.lanelets.specs.Listing.{Gathers}
use Rattle.lanelets.specs.Steps.{net_of}
use Rattle.lanelets.proofs.pairs.add_among.Given as goal

abbrev pub invariant-loop-d : goal.invariant-loop-d
invariant-loop-d l = (every : List Lane) → Pairwise IsKept every l.lanes → Gathers (λ x. Includes (take l.d-index l.list) x × IsSide every (net_of l.cells) l.c x) l.initial.pairs l.pairs
