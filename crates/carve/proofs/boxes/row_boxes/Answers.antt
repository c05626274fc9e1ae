use Rattle.std.proofs.Common.{◌≡◌, arith, w64, FitsSigned, to_z-of_z}
use Rattle.std.proofs.lemmas.Int.{ints}
use Rattle.carve.proofs.BoxSums.{rows_of}
use Rattle.carve.proofs.boxes.row_boxes.Goals as goal

pub returns : goal.returns
returns g c =
    let low = c.requires.grid.g.low in
    let high = c.requires.grid.g.high in
    let f : FitsSigned w64 c.args.grid.now.g = omega (arith, ints, low, high) in
    let rows : c.rows.result ≡ rows_of c.args.grid.now.g (c.args.b.now.ylo, c.args.b.now.yhi) (g.O.Occupied.range c.args.o.now c.args.step) (g.O.Occupied.count c.args.o.now c.args.step) = simp to_z-of_z at c.rows.ensures.sum in
    omega (arith, c.cells.ensures.value, rows)
