use Rattle.std.proofs.Common.{arith}
use Rattle.lanelets.specs.Kept.{IsKept}
use Rattle.lanelets.proofs.BuiltCells.{as_many, ahead_as, classes_as, made_inside, placed_as}
use Rattle.lanelets.proofs.NearbyLaws.{kept_near}
use Rattle.lanelets.proofs.Places.{same_lengths}
use Rattle.lanelets.proofs.building.network_of.Goals as goal

pub from_vec-cells-requires : goal.from_vec-cells-requires
from_vec-cells-requires c =
    let many = as_many c.args.lanes.now.entries c.in_ok-cells_of.field-0.items c.in_ok-cells_of.ensures in
    let few = c.requires.few in omega (arith, many, few)

pub ahead_of-requires-clause-inside : goal.ahead_of-requires-clause-inside
ahead_of-requires-clause-inside c =
    let lanes = c.args.lanes.now.entries in
    made_inside lanes c.from_vec-cells.result (placed_as lanes c.in_ok-cells_of.field-0.items c.from_vec-cells.result c.from_vec-cells.ensures c.in_ok-cells_of.ensures)

pub nearby_of-requires-clause-inside : goal.nearby_of-requires-clause-inside
nearby_of-requires-clause-inside c =
    let lanes = c.args.lanes.now.entries in
    made_inside lanes c.from_vec-cells.result (placed_as lanes c.in_ok-cells_of.field-0.items c.from_vec-cells.result c.from_vec-cells.ensures c.in_ok-cells_of.ensures)

pub classes_of-requires-clause-inside : goal.classes_of-requires-clause-inside
classes_of-requires-clause-inside c =
    let lanes = c.args.lanes.now.entries in
    let many = same_lengths IsKept lanes c.in_ok-kept.kept.items c.in_ok-kept.ensures in
    rw (c.deref.ensures.value, many) (made_inside lanes c.from_vec-cells.result (placed_as lanes c.in_ok-cells_of.field-0.items c.from_vec-cells.result c.from_vec-cells.ensures c.in_ok-cells_of.ensures))

pub classes_of-requires-clause-kept : goal.classes_of-requires-clause-kept
classes_of-requires-clause-kept c = (
  c.args.lanes.now.entries,
  kept_near c.args.lanes.now.entries c.from_vec-cells.result c.in_ok-kept.kept.items c.deref.result.now c.in_ok-nearby.nearby c.deref.ensures.value c.in_ok-kept.ensures c.in_ok-nearby.ensures,
)

pub of-requires : goal.of-requires
of-requires c =
    let lanes = c.args.lanes.now.entries in
    let all = c.from_vec-cells.result in
    let placed = placed_as lanes c.in_ok-cells_of.field-0.items all c.from_vec-cells.ensures c.in_ok-cells_of.ensures in
    let near = kept_near lanes all c.in_ok-kept.kept.items c.deref.result.now c.in_ok-nearby.nearby c.deref.ensures.value c.in_ok-kept.ensures c.in_ok-nearby.ensures in
    record {
      few = c.requires.few;
      placed = placed;
      inside = made_inside lanes all placed;
      boxes_are = rw c.list.ensures.is at c.in_ok-boxes.ensures;
      kept_is = c.in_ok-kept.ensures;
      ahead = ahead_as lanes all c.in_ok-ahead.ahead.items placed c.in_ok-ahead.ensures;
      beside = classes_as lanes all c.in_ok-classes.classes placed (c.in_ok-classes.ensures lanes near);
    }
