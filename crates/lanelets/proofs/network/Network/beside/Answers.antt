use Rattle.std.proofs.Common.{◌≡◌, ◌<◌, List, ℕ, length, subst, ap, arith}
use Rattle.std.specs.Prelude.{Some, slice_get}
use Rattle.spot_terms.specs.Cells.{Lane, cells}
use Rattle.spot_terms.specs.Lists.{Lists}
use Rattle.lanelets.specs.Beside.{IsBeside}
use Rattle.lanelets.proofs.BuiltCells.{class_at}
use Rattle.lanelets.proofs.Places.{same_at}
use Rattle.lanelets.proofs.network.Network.beside.Goals as goal
use Rattle.spot_terms.proofs.ItemPlaces.{got_below}

pub index-requires : goal.index-requires
index-requires c =
    let low : c.args.c < length (cells c.self.inside.built_from.value.entries) = rw c.self.view_is c.requires in
    let many = c.self.invariant.beside.many in
    omega (arith, low, many)

pub list_at-requires : goal.list_at-requires
list_at-requires c =
    let low : c.args.c < length (cells c.self.inside.built_from.value.entries) = rw c.self.view_is c.requires in
    let (list, at, lists) = class_at c.self.inside.built_from.value.entries c.self.inside.classes c.args.c c.index.result.now c.self.invariant.beside low c.index.ensures in
    let within = got_below c.self.inside.classes.cells.items c.index.result.now list at in
    let same = ap length c.deref.ensures.value in
    omega (arith, within, same)

pub returns : goal.returns
returns c =
    let low : c.args.c < length (cells c.self.inside.built_from.value.entries) = rw c.self.view_is c.requires in
    let (list, at, lists) = class_at c.self.inside.built_from.value.entries c.self.inside.classes c.args.c c.index.result.now c.self.invariant.beside low c.index.ensures in
    let found : slice_get c.self.inside.classes.cells.items c.index.result.now ≡ Some c.list_at.result.now = rw c.deref.ensures.value at c.list_at.ensures in
    let same = same_at c.self.inside.classes.cells.items c.index.result.now list c.list_at.result.now at found in
    subst (λ (lanes : List Lane). Lists (λ d. IsBeside lanes (cells lanes) d c.args.c) c.list_at.result.now) c.self.view_is
    (subst (λ (xs : List ℕ). Lists (λ d. IsBeside c.self.inside.built_from.value.entries (cells c.self.inside.built_from.value.entries) d c.args.c) xs) same lists)
