use Rattle.std.proofs.Common.{◌≤◌, length, refl, arith}
use Rattle.spot_terms.specs.Cells.{Lane}
use Rattle.lanelets.proofs.CellCounts.{lane_counted, lanes_counted, size_next}
use Rattle.lanelets.proofs.counts.total_part_count.Goals as goal

pub overflow_add-count : goal.overflow_add-count
overflow_add-count c =
    let l : Lane = (c.lane_at.result.0, c.lane_at.result.1.now) in
    let size = size_next c.args.lanes.now.entries c.loop-e.e l c.lane_at.ensures.is in
    let small = c.loop-e.invariant.1 in let few = c.part_count_of-count.ensures.few in
    omega (arith, size, small, few)

pub loop-e-preserved : goal.loop-e-preserved
loop-e-preserved c =
    let lanes = c.args.lanes.now.entries in
    let l : Lane = (c.lane_at.result.0, c.lane_at.result.1.now) in
    let size = size_next lanes c.loop-e.e l c.lane_at.ensures.is in
    let small = c.loop-e.invariant.1 in let few = c.part_count_of-count.ensures.few in
    (lane_counted lanes c.loop-e.e c.loop-e.count c.part_count_of-count.result _ _ l c.lane_at.ensures.is (c.part_count_of-count.ensures.value c.loop-e.e) refl c.loop-e.invariant.0, omega (arith, size, small, few))

pub returns : goal.returns
returns c =
    let past : length c.args.lanes.now.entries ≤ c.loop-e.e = omega arith in
    let small = c.loop-e.invariant.1 in
    record { value = lanes_counted c.args.lanes.now.entries c.loop-e.e c.loop-e.count _ past c.loop-e.invariant.0; few = omega (arith, small) }
