use Rattle.std.proofs.Common.{◌≡◌, refl, arith}
use Rattle.spot_terms.specs.Cells.{part_cell}
use Rattle.lanelets.specs.Made.{IsMadeOf}
use Rattle.lanelets.proofs.Adding.{adds_zero, adds_next, adds_below}
use Rattle.lanelets.proofs.making.add_piece.Goals as goal

pub loop-part-preserved : goal.loop-part-preserved
loop-part-preserved c =
    adds_next (IsMadeOf c.args.place.id) (part_cell c.args.place.lane c.args.place.piece c.args.piece.now.left c.args.piece.now.left_end c.args.piece.now.right c.args.piece.now.right_end c.part_count-parts.result)
    c.loop-part.part _ _ c.loop-part.made.items _ c.part_of.result refl c.loop-part.invariant c.part_of.ensures c.in_ok-push.ensures.items

pub returns : goal.returns
returns c =
    adds_below (IsMadeOf c.args.place.id) (part_cell c.args.place.lane c.args.place.piece c.args.piece.now.left c.args.piece.now.left_end c.args.piece.now.right c.args.piece.now.right_end)
    c.loop-part.part c.part_count-parts.result _ _ _ (let e : c.loop-part.part ≡ c.part_count-parts.result = omega arith in e) c.part_count-parts.ensures.value c.loop-part.invariant

pub loop-part-init : goal.loop-part-init
loop-part-init c = adds_zero (IsMadeOf c.args.place.id) (part_cell c.args.place.lane c.args.place.piece c.args.piece.now.left c.args.piece.now.left_end c.args.piece.now.right c.args.piece.now.right_end c.part_count-parts.result) c.args.made.now.items
