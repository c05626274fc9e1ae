use Rattle.std.proofs.Common.{◌<◌, List, length, ap, subst, arith}
use Rattle.spot_terms.specs.Cells.{Lane, cells}
use Rattle.spot_terms.specs.Lists.{Pairwise}
use Rattle.lanelets.specs.declared.cell.Placed.{Placed}
use Rattle.lanelets.specs.Built.{IsCellAt}
use Rattle.lanelets.specs.Made.{IsPlaced}
use Rattle.lanelets.proofs.BuiltCells.{as_many, cell_at}
use Rattle.lanelets.proofs.network.Network.cell.Goals as goal

pub bounds-list-c : goal.bounds-list-c
bounds-list-c c =
    let low : c.args.c < length (cells c.self.inside.built_from.value.entries) = rw c.self.view_is c.requires in
    let many = as_many c.self.inside.built_from.value.entries c.self.inside.cells c.self.invariant.placed in
    let same = ap length c.list.ensures.is in
    omega (arith, low, many, same)

pub returns : goal.returns
returns c =
    let low : c.args.c < length (cells c.self.inside.built_from.value.entries) = rw c.self.view_is c.requires in
    let placed : Pairwise (IsPlaced c.self.inside.built_from.value.entries) (cells c.self.inside.built_from.value.entries) c.list.result.now = rw c.list.ensures.is c.self.invariant.placed in
    let at = cell_at c.self.inside.built_from.value.entries c.list.result.now c.args.c c.index-list-c.result placed low c.index-list-c.is in
    subst (λ (x : Placed). IsCellAt c.args.self.now c.args.c x.cell) c.index-list-c.is (subst (λ (lanes : List Lane). IsCellAt lanes c.args.c c.index-list-c.result.cell) c.self.view_is at)
