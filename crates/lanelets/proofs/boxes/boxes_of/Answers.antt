use Rattle.std.proofs.Common.{◌≡◌, refl, take}
use Rattle.std.specs.Prelude.{Some, slice_get}
use Rattle.spot_terms.proofs.ListLemmas.{pairwise_push}
use Rattle.lanelets.specs.declared.cell.Placed.{Placed}
use Rattle.convex_poly.specs.Boxes.{IsBoxOf}
use Rattle.lanelets.proofs.Places.{read_at, take_at}
use Rattle.lanelets.proofs.boxes.boxes_of.Goals as goal

pub loop-placed-preserved : goal.loop-placed-preserved
loop-placed-preserved c =
    let k = c.loop-placed.placed-index in
    let placed = c.placed-item.result in
    let at : slice_get c.args.cells.now k ≡ Some placed = read_at c.args.cells.now k placed c.loop-placed-test.true c.placed-item.is in
    rw (take_at c.args.cells.now k _ placed refl at, c.in_ok-push.ensures.items)
    (pairwise_push (λ (x : Placed). IsBoxOf x.cell.poly) (take k c.args.cells.now) c.loop-placed.boxes.items placed c.bounding_box.result c.loop-placed.invariant c.bounding_box.ensures)
