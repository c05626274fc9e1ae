use Rattle.std.proofs.Common.{List, length, ap, arith}
use Rattle.spot_terms.specs.Cells.{Lane, cells}
use Rattle.lanelets.proofs.BuiltCells.{as_many}
use Rattle.lanelets.proofs.network.Network.len.Goals as goal

pub returns : goal.returns
returns c =
    let many = as_many c.self.inside.built_from.value.entries c.self.inside.cells c.self.invariant.placed in
    let same = ap (λ (lanes : List Lane). length (cells lanes)) c.self.view_is in
    let len = c.len.ensures.is in omega (arith, many, same, len)
