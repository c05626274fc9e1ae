use Rattle.std.proofs.Common.{◌<◌, List, length, subst, arith}
use Rattle.std.specs.Bool.{IsTrue}
use Rattle.std.specs.Prelude.{◌↔◌}
use Rattle.spot_terms.specs.Cells.{Lane, NetCell, cells}
use Rattle.spot_terms.specs.Network.{IsSide}
use Rattle.lanelets.specs.Kept.{IsKept}
use Rattle.lanelets.specs.Steps.{net_of}
use Rattle.lanelets.proofs.BuiltCells.{as_many, same_net}
use Rattle.lanelets.proofs.Places.{same_lengths}
use Rattle.lanelets.proofs.network.Network.is_side.Goals as goal

pub are_side_cells-requires-clause-inside : goal.are_side_cells-requires-clause-inside
are_side_cells-requires-clause-inside c =
    let many = same_lengths IsKept c.self.inside.built_from.value.entries c.self.inside.lanes.items c.self.invariant.kept_is in
    rw (c.deref.ensures.value, many) c.self.invariant.inside

pub are_side_cells-requires-clause-first : goal.are_side_cells-requires-clause-first
are_side_cells-requires-clause-first c =
    let low : c.args.c < length (cells c.self.inside.built_from.value.entries) = rw c.self.view_is c.requires.first in
    let many = as_many c.self.inside.built_from.value.entries c.self.inside.cells c.self.invariant.placed in
    omega (arith, low, many)

pub are_side_cells-requires-clause-second : goal.are_side_cells-requires-clause-second
are_side_cells-requires-clause-second c =
    let low : c.args.d < length (cells c.self.inside.built_from.value.entries) = rw c.self.view_is c.requires.second in
    let many = as_many c.self.inside.built_from.value.entries c.self.inside.cells c.self.invariant.placed in
    omega (arith, low, many)

pub returns : goal.returns
returns c =
    let lanes = c.self.inside.built_from.value.entries in
    let side : IsTrue c.are_side_cells.result ↔ IsSide lanes (net_of c.self.inside.cells) c.args.c c.args.d = c.are_side_cells.ensures lanes (rw c.deref.ensures.value c.self.invariant.kept_is) in
    subst (λ (every : List Lane). IsTrue c.are_side_cells.result ↔ IsSide every (cells every) c.args.c c.args.d) c.self.view_is
    (subst (λ (net : List NetCell). IsTrue c.are_side_cells.result ↔ IsSide lanes net c.args.c c.args.d) (same_net lanes (cells lanes) c.self.inside.cells c.self.invariant.placed) side)
