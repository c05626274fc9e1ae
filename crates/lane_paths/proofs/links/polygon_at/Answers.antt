use Rattle.std.proofs.Common.{arith, [], ◌∷◌}
use Rattle.convex_poly.proofs.CornerCounts.{few_corners}
use Rattle.lane_paths.proofs.links.polygon_at.Goals as goal

pub hull-requires-clause-few_corners : goal.hull-requires-clause-few_corners
hull-requires-clause-few_corners c = few_corners (c.args.p ∷ []) (c.requires, tt) (omega arith)
