use Rattle.std.proofs.Common.{◌≡◌, ◌+◌, length, drop, refl, arith, ap}
use Rattle.spot_terms.specs.Cells.{cells_of_piece}
use Rattle.lanelets.specs.Made.{IsMadeOf}
use Rattle.lanelets.proofs.Adding.{along_step, along_end}
use Rattle.lanelets.proofs.LaneCells.{pieces_step, pieces_end}
use Rattle.lanelets.proofs.making.add_lane.Goals as goal

pub loop-q-preserved : goal.loop-q-preserved
loop-q-preserved c =
    let is = c.piece_at.ensures.is in
    let p = c.piece_at.result in
    let step = pieces_step c.args.lane c.loop-q.q (c.loop-q.q + 1) c.args.raw.now.left c.args.raw.now.right p.left p.left_end p.right p.right_end refl is.left is.left_end is.right is.right_end in
    along_step (IsMadeOf c.args.id) _ _ (cells_of_piece c.args.lane c.loop-q.q p.left p.left_end p.right p.right_end) _ c.args.made.now.items c.loop-q.made.items c.add_piece.new.made.items c.loop-q.invariant step c.in_ok-add_piece.ensures

pub returns : goal.returns
returns c =
    let some = c.requires.range.some in
    let same : length c.list.result.now ≡ length c.args.raw.now.left = ap length c.list.ensures in
    let last : length c.args.raw.now.left ≡ c.loop-q.q + 1 = omega arith in
    along_end (IsMadeOf c.args.id) _ _ c.args.made.now.items c.loop-q.made.items c.loop-q.invariant (pieces_end c.args.lane c.loop-q.q c.args.raw.now.left (drop c.loop-q.q c.args.raw.now.right) last)
