use Rattle.std.specs.Prelude.{List}
use Rattle.spot_terms.specs.Cells.{Lane}
use Rattle.lanelets.specs.Beside.{ArePairs}
use Rattle.lanelets.specs.Nearby.{AreKept}
use Rattle.lanelets.specs.Steps.{net_of}
use Rattle.lanelets.proofs.pairs.side_pairs.Given as goal

abbrev pub invariant-loop-c : goal.invariant-loop-c
invariant-loop-c l = (every : List Lane) → AreKept every (net_of l.cells) l.lanes l.nearby → ArePairs every (net_of l.cells) l.c l.pairs.items
