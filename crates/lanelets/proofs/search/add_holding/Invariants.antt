use Rattle.std.proofs.Common.{◌*◌}
use Rattle.spot_terms.specs.Lists.{Lists}
use Rattle.lanelets.specs.Holding.{HoldsBelow}
use Rattle.lanelets.specs.declared.boxes.TheConstants.{BLOCK}
use Rattle.lanelets.proofs.search.add_holding.Given as goal

abbrev pub invariant-loop-c : goal.invariant-loop-c
invariant-loop-c l = Lists (HoldsBelow l.cells l.p (l.block * BLOCK)) l.fn.list.items → Lists (HoldsBelow l.cells l.p l.c) l.list.items
