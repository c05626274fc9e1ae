use Rattle.std.specs.Prelude.{List, take}
use Rattle.spot_terms.specs.Cells.{Lane}
use Rattle.spot_terms.specs.Network.{IsSide}
use Rattle.lanelets.specs.Listing.{GathersBetween}
use Rattle.lanelets.specs.Nearby.{AreKept}
use Rattle.lanelets.specs.Steps.{net_of}
use Rattle.lanelets.proofs.PairLists.{PairsIn}
use Rattle.lanelets.proofs.pairs.add_near.Given as goal

abbrev pub invariant-loop-f : goal.invariant-loop-f
invariant-loop-f l = (every : List Lane) → AreKept every (net_of l.cells) l.lanes l.nearby
    → GathersBetween (PairsIn every (net_of l.cells) l.c (take l.f-index l.near)) (IsSide every (net_of l.cells) l.c) l.initial.pairs l.pairs
