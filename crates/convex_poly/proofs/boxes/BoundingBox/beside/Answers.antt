use Rattle.std.proofs.Common.{rules}
use Rattle.convex_poly.proofs.BoxLaws.{beside_boxes, two_rises}
use Rattle.convex_poly.proofs.boxes.BoundingBox.beside.Goals as goal

pub returns : goal.returns
returns c = λ a b h k.
    let box = c.args.self.now in
    let other = c.args.other.now in
    beside_boxes a b box other c.max-x.result c.max-y.result c.max.result h k
    (two_rises box.high.x other.low.x other.high.x box.low.x c.rise.result c.rise-2.result c.max-x.result (search rules) (search rules) (search rules) (search rules) c.rise.ensures c.rise-2.ensures c.max-x.ensures)
    (two_rises box.high.y other.low.y other.high.y box.low.y c.rise-3.result c.rise-4.result c.max-y.result (search rules) (search rules) (search rules) (search rules) c.rise-3.ensures c.rise-4.ensures c.max-y.ensures)
    c.max.ensures
