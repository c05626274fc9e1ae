use Rattle.std.proofs.Common.{length, sym}
use Rattle.std.specs.Bool.{IsTrue}
use Rattle.lanelets.specs.Steps.{net_of}
use Rattle.lanelets.proofs.Places.{read_at}
use Rattle.lanelets.proofs.Sides.{side_is}
use Rattle.lanelets.proofs.StepLists.{origin_inside, part_inside}
use Rattle.lanelets.proofs.kept.are_side_cells.Goals as goal

pub bounds-lanes-e : goal.bounds-lanes-e
bounds-lanes-e c =
    part_inside (length c.args.lanes.now) c.in-Some.e c.origin_at-a.result (sym c.in-Some.ensures) (origin_inside (length c.args.lanes.now) c.args.cells.now c.args.c c.origin_at-a.result c.requires.inside c.origin_at-a.ensures.is)

pub bounds-lanes-f : goal.bounds-lanes-f
bounds-lanes-f c =
    part_inside (length c.args.lanes.now) c.in-Some-lane_of.f c.origin_at-b.result (sym c.in-Some-lane_of.ensures) (origin_inside (length c.args.lanes.now) c.args.cells.now c.args.d c.origin_at-b.result c.requires.inside c.origin_at-b.ensures.is)

pub returns : goal.returns
returns c = λ every p.
    let low_e = part_inside (length c.args.lanes.now) c.in-Some.e c.origin_at-a.result (sym c.in-Some.ensures) (origin_inside (length c.args.lanes.now) c.args.cells.now c.args.c c.origin_at-a.result c.requires.inside c.origin_at-a.ensures.is) in
    let low_f = part_inside (length c.args.lanes.now) c.in-Some-lane_of.f c.origin_at-b.result (sym c.in-Some-lane_of.ensures) (origin_inside (length c.args.lanes.now) c.args.cells.now c.args.d c.origin_at-b.result c.requires.inside c.origin_at-b.ensures.is) in
    side_is (IsTrue c.are_beside.result) every c.args.lanes.now (net_of c.args.cells.now) c.args.c c.args.d c.in-Some.e c.in-Some-lane_of.f c.origin_at-a.result c.origin_at-b.result c.index-lanes-e.result c.index-lanes-f.result p
    c.origin_at-a.ensures.is c.origin_at-b.ensures.is (sym c.in-Some.ensures) (sym c.in-Some-lane_of.ensures) (read_at c.args.lanes.now c.in-Some.e c.index-lanes-e.result low_e c.index-lanes-e.is)
    (read_at c.args.lanes.now c.in-Some-lane_of.f c.index-lanes-f.result low_f c.index-lanes-f.is) c.are_beside.ensures
