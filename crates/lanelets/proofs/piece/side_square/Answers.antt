use Rattle.std.proofs.Common.{◌+◌, ◌*◌, ◌≤◌, arith}
use Rattle.lanelets.proofs.Cuts.{squares_small, way_small}
use Rattle.lanelets.proofs.piece.side_square.Goals as goal
use Rattle.lanelets.proofs.piece.side_square.Goals.{After-from-y}

small : (c : After-from-y) → c.from-x.result * c.from-x.result + c.from-y.result * c.from-y.result ≤ 800000000000000000000000000
small c =
    squares_small c.from-x.result c.from-y.result
    (way_small c.from-x.result c.abs_diff.result c.args.from.0 c.args.to.0 c.from-x.ensures c.abs_diff.ensures c.requires.from_in.x c.requires.to_in.x)
    (way_small c.from-y.result c.abs_diff-2.result c.args.from.1 c.args.to.1 c.from-y.ensures c.abs_diff-2.ensures c.requires.from_in.y c.requires.to_in.y)

pub overflow_add-result : goal.overflow_add-result
overflow_add-result c = omega (arith, small c)

pub returns-clause-size : goal.returns-clause-size
returns-clause-size c = small c
