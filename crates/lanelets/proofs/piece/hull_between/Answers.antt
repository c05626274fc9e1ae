use Rattle.std.proofs.Common.{arith}
use Rattle.convex_poly.proofs.CornerCounts.{few_corners}
use Rattle.lanelets.proofs.Nearness.{positions, near_hull}
use Rattle.lanelets.proofs.piece.hull_between.Goals as goal

pub hull-requires-clause-positions : goal.hull-requires-clause-positions
hull-requires-clause-positions c = positions c.args.entry c.args.exit c.requires.entry_in c.requires.exit_in

pub hull-requires-clause-few_corners : goal.hull-requires-clause-few_corners
hull-requires-clause-few_corners c = few_corners _ (positions c.args.entry c.args.exit c.requires.entry_in c.requires.exit_in) (omega arith)

pub returns-clause-near : goal.returns-clause-near
returns-clause-near c = near_hull c.args.entry c.args.exit c.hull.result c.requires.entry_in c.requires.exit_in c.hull.ensures
