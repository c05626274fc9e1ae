use Rattle.std.proofs.Common.{◌≡◌, ◌∙◌, ◌<◌, ℕ, List, length, sym, ap, subst, arith}
use Rattle.std.specs.Prelude.{Some, slice_get}
use Rattle.spot_terms.specs.declared.network.Origin.TheVariants.{Part}
use Rattle.lanelets.specs.Nearby.{IsPieceNumber}
use Rattle.lanelets.specs.Steps.{net_of}
use Rattle.lanelets.proofs.NearbyLaws.{parts_reach, parts_below, pieces_below}
use Rattle.lanelets.proofs.PairLists.{net_many, side_piece, star_below, star_has}
use Rattle.spot_terms.specs.Network.{lane_of}
use Rattle.spot_terms.proofs.Orders.{true_not_false}
use Rattle.lanelets.proofs.StepLists.{origin_inside}
use Rattle.lanelets.proofs.pairs.candidates.Goals as goal

pub list_at-requires : goal.list_at-requires
list_at-requires c =
    let reach = parts_reach c.requires.kept.0 (net_of c.args.cells.now) c.args.lanes.now c.args.nearby.now c.requires.kept.1 c.args.f c.requires.lane in
    let same = ap length c.deref.ensures.value in
    omega (arith, reach, same)

pub returns-in_default-clause-below : goal.returns-in_default-clause-below
returns-in_default-clause-below c =
    let here : slice_get c.args.nearby.now.parts.items c.args.f ≡ Some c.list_at.result.now = rw c.deref.ensures.value at c.list_at.ensures in
    parts_below c.requires.kept.0 c.args.cells.now c.args.lanes.now c.args.nearby.now c.requires.kept.1 c.args.f c.list_at.result.now here

pub have_as_many_points-requires-clause-first : goal.have_as_many_points-requires-clause-first
have_as_many_points-requires-clause-first c = origin_inside (length c.args.lanes.now) c.args.cells.now c.args.c (Part c.in-Part.lane c.in-Part.piece c.in-Part.part c.in-Part.parts) c.requires.inside c.in-Part.ensures.is

pub list_at-requires-then-not-have_as_many_points : goal.list_at-requires-then-not-have_as_many_points
list_at-requires-then-not-have_as_many_points c =
    let low : c.in-Part.lane < length c.args.lanes.now = origin_inside (length c.args.lanes.now) c.args.cells.now c.args.c (Part c.in-Part.lane c.in-Part.piece c.in-Part.part c.in-Part.parts) c.requires.inside c.in-Part.ensures.is in
    let reach = parts_reach c.requires.kept.0 (net_of c.args.cells.now) c.args.lanes.now c.args.nearby.now c.requires.kept.1 c.in-Part.lane low in
    let same = ap length c.deref-then-not-have_as_many_points.ensures.value in
    omega (arith, reach, same)

pub list_at-requires-then-not-have_as_many_points-2 : goal.list_at-requires-then-not-have_as_many_points-2
list_at-requires-then-not-have_as_many_points-2 c =
    let reach = parts_reach c.requires.kept.0 (net_of c.args.cells.now) c.args.lanes.now c.args.nearby.now c.requires.kept.1 c.args.f c.requires.lane in
    let same = ap length c.deref-then-not-have_as_many_points-2.ensures.value in
    omega (arith, reach, same)

pub returns-then-not-have_as_many_points-clause-below : goal.returns-then-not-have_as_many_points-clause-below
returns-then-not-have_as_many_points-clause-below c =
    let here : slice_get c.args.nearby.now.parts.items c.args.f ≡ Some c.list_at-then-not-have_as_many_points-2.result.now = rw c.deref-then-not-have_as_many_points-2.ensures.value at c.list_at-then-not-have_as_many_points-2.ensures in
    star_below (length c.args.cells.now) c.list_at-then-not-have_as_many_points-2.result.now c.all_or_first.result.now c.all_or_first.ensures.some
    (parts_below c.requires.kept.0 c.args.cells.now c.args.lanes.now c.args.nearby.now c.requires.kept.1 c.args.f c.list_at-then-not-have_as_many_points-2.result.now here)

pub returns-then-not-have_as_many_points-clause-all : goal.returns-then-not-have_as_many_points-clause-all
returns-then-not-have_as_many_points-clause-all c = λ every k d of s.
    let net = net_of c.args.cells.now in
    let o = c.in-Part.ensures.is in
    let own : slice_get c.args.nearby.now.parts.items c.in-Part.lane ≡ Some c.list_at-then-not-have_as_many_points.result.now = rw c.deref-then-not-have_as_many_points.ensures.value at c.list_at-then-not-have_as_many_points.ensures in
    let other : slice_get c.args.nearby.now.parts.items c.args.f ≡ Some c.list_at-then-not-have_as_many_points-2.result.now = rw c.deref-then-not-have_as_many_points-2.ensures.value at c.list_at-then-not-have_as_many_points-2.ensures in
    star_has every net c.args.c d c.in-Part.lane c.args.f c.list_at-then-not-have_as_many_points.result.now c.list_at-then-not-have_as_many_points-2.result.now c.all_or_first.result.now
    (k.near.parts.each c.in-Part.lane c.list_at-then-not-have_as_many_points.result.now own) (k.near.parts.each c.args.f c.list_at-then-not-have_as_many_points-2.result.now other) c.all_or_first.ensures.all c.all_or_first.ensures.some
    (o.0, o.1, ap lane_of o.2) of (λ l m hl hm same. true_not_false c.have_as_many_points.result ((c.have_as_many_points.ensures every k.each l m hl hm).1 same) c.if-not-have_as_many_points.true) s

pub piece_number-number-requires-clause-within : goal.piece_number-number-requires-clause-within
piece_number-number-requires-clause-within c =
    let reach = parts_reach c.requires.kept.0 (net_of c.args.cells.now) c.args.lanes.now c.args.nearby.now c.requires.kept.1 c.args.f c.requires.lane in
    let same = ap length c.deref-2.ensures.value in
    omega (arith, reach, same)

pub returns-clause-below : goal.returns-clause-below
returns-clause-below c =
    let here : slice_get c.args.nearby.now.pieces.items c.piece_number-number.result ≡ Some c.list_at-2.result.now = rw c.deref-3.ensures.value at c.list_at-2.ensures in
    pieces_below c.requires.kept.0 c.args.cells.now c.args.lanes.now c.args.nearby.now c.requires.kept.1 c.piece_number-number.result c.list_at-2.result.now here

pub returns-clause-all : goal.returns-clause-all
returns-clause-all c = λ every k d of s.
    let net = net_of c.args.cells.now in
    let here : slice_get c.args.nearby.now.pieces.items c.piece_number-number.result ≡ Some c.list_at-2.result.now = rw c.deref-3.ensures.value at c.list_at-2.ensures in
    let number : IsPieceNumber c.args.nearby.now.parts.items (length net) c.args.f c.in-Part.piece c.piece_number-number.result = subst (λ (lists : List (List ℕ)). IsPieceNumber lists (length net) c.args.f c.in-Part.piece c.piece_number-number.result) c.deref-2.ensures.value
    (subst (λ (n : ℕ). IsPieceNumber c.deref-2.result.now n c.args.f c.in-Part.piece c.piece_number-number.result) (c.len.ensures.is ∙ sym (net_many c.args.cells.now)) c.piece_number-number.ensures.is) in
    (k.near.pieces.each c.piece_number-number.result c.list_at-2.result.now here).all d
    (side_piece every net c.args.nearby.now.parts.items c.args.c d c.in-Part.lane c.args.f c.in-Part.piece c.in-Part.part c.in-Part.parts c.piece_number-number.result c.in-Part.ensures.is number of
    (λ l m hl hm. (c.have_as_many_points.ensures every k.each l m hl hm).0 c.if-not-have_as_many_points.false) s.side)
