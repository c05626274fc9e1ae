use Rattle.lanelets.proofs.Sides.{points_equal}
use Rattle.lanelets.proofs.kept.have_as_many_points.Goals as goal

pub returns : goal.returns
returns c = λ every p. points_equal every c.args.lanes.now c.args.e c.args.f c.index-lanes-e.result c.index-lanes-f.result c.requires.first c.requires.second p
