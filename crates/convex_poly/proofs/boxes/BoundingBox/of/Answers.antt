use Rattle.convex_poly.proofs.Corners.{origin}
use Rattle.convex_poly.proofs.BoxLaws.{box_first, box_more, box_all}
use Rattle.convex_poly.proofs.boxes.BoundingBox.of.Goals as goal

pub loop-p-init : goal.loop-p-init
loop-p-init c = box_first c.args.points.now origin c.requires

pub loop-p-preserved : goal.loop-p-preserved
loop-p-preserved c = box_more c.args.points.now c.loop-p.p-index origin c.loop-p.least c.with-least.result c.loop-p-test.true c.loop-p.invariant c.with-least.ensures.left c.with-least.ensures.right c.with-least.ensures.bottom c.with-least.ensures.top

pub returns : goal.returns
returns c = box_all c.args.points.now c.loop-p.p-index c.loop-p.least c.loop-p-test.false c.loop-p.invariant
