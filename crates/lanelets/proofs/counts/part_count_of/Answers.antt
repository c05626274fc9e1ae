use Rattle.std.proofs.Common.{◌≡◌, ◌∙◌, ◌+◌, length, refl, ap, arith}
use Rattle.lanelets.proofs.CellCounts.{piece_counted, pieces_counted}
use Rattle.lanelets.proofs.counts.part_count_of.Goals as goal

pub overflow_add-count : goal.overflow_add-count
overflow_add-count c =
    let same : length c.list.result.now ≡ length c.args.lane.now.left = ap length c.list.ensures in
    let small = c.loop-q.invariant.1 in let few = c.requires.few in let one = c.part_count.ensures.size in let is = c.from-count.ensures in
    omega (arith, same, small, few, one, is)

pub loop-q-preserved : goal.loop-q-preserved
loop-q-preserved c =
    let small = c.loop-q.invariant.1 in let one = c.part_count.ensures.size in let is = c.from-count.ensures in (
      λ n. piece_counted n c.loop-q.q c.args.lane.now c.piece_at.result c.loop-q.count c.from-count.result _ _ c.piece_at.ensures.is (c.from-count.ensures ∙ c.part_count.ensures.value) refl (c.loop-q.invariant.0 n),
      omega (arith, small, one, is),
    )

pub returns : goal.returns
returns c =
    let same : length c.list.result.now ≡ length c.args.lane.now.left = ap length c.list.ensures in
    let some = c.requires.range.some in let small = c.loop-q.invariant.1 in
    let last : length c.args.lane.now.left ≡ c.loop-q.q + 1 = omega arith in
    record {
      value = λ n. pieces_counted n c.loop-q.q c.args.lane.now c.loop-q.count _ last (c.loop-q.invariant.0 n);
      few = omega (arith, small, last);
    }
