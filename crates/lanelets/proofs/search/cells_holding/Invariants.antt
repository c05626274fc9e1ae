use Rattle.std.proofs.Common.{◌*◌}
use Rattle.spot_terms.specs.Lists.{Lists}
use Rattle.lanelets.specs.Holding.{HoldsBelow}
use Rattle.lanelets.specs.declared.boxes.TheConstants.{BLOCK}
use Rattle.lanelets.proofs.search.cells_holding.Given as goal

abbrev pub invariant-loop-block : goal.invariant-loop-block
invariant-loop-block l = Lists (HoldsBelow l.cells l.p (l.block * BLOCK)) l.list.items
