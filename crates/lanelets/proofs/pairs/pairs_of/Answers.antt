use Rattle.std.proofs.Common.{◌≡◌, ◌<◌, ℕ, List, length, refl, sym, ap, subst, arith}
use Rattle.std.proofs.lemmas.Option.{none-some}
use Rattle.std.specs.Prelude.{Some, slice_get}
use Rattle.lanelets.specs.Beside.{ArePairsOf}
use Rattle.lanelets.specs.Steps.{net_of, IsOfLane}
use Rattle.lanelets.proofs.NearbyLaws.{neighbours_reach, neighbours_below}
use Rattle.lanelets.proofs.PairLists.{pairs_near, pairs_none}
use Rattle.lanelets.proofs.StepLists.{lanes_inside}
use Rattle.lanelets.proofs.pairs.pairs_of.Goals as goal
use Rattle.lanelets.proofs.pairs.pairs_of.Goals.{in-Some+in_ok-add_near, in_default}

pub list_at-requires : goal.list_at-requires
list_at-requires c =
    let of : IsOfLane (net_of c.args.cells.now) c.args.c c.in-Some.e = (c.in-Some.ensures c.in-Some.e).0 refl in
    let low : c.in-Some.e < length c.args.lanes.now = lanes_inside (length c.args.lanes.now) c.args.cells.now c.requires.inside c.args.c c.in-Some.e of in
    let reach = neighbours_reach c.requires.kept.0 (net_of c.args.cells.now) c.args.lanes.now c.args.nearby.now c.requires.kept.1 c.in-Some.e low in
    let same = ap length c.deref.ensures.value in
    omega (arith, reach, same)

pub add_near-requires-clause-near : goal.add_near-requires-clause-near
add_near-requires-clause-near c =
    let here : slice_get c.args.nearby.now.neighbours.items c.in-Some.e ≡ Some c.list_at.result.now = rw c.deref.ensures.value at c.list_at.ensures in
    neighbours_below c.requires.kept.0 (net_of c.args.cells.now) c.args.lanes.now c.args.nearby.now c.requires.kept.1 c.in-Some.e c.list_at.result.now here

pub returns : goal.returns
returns c = λ every k.
    let net = net_of c.args.cells.now in
    elim c.match-lane_at_cell.branch [
      | in-Some+in_ok-add_near w ↦
          (let here : slice_get c.args.nearby.now.neighbours.items w.in-Some.e ≡ Some w.list_at.result.now = rw w.deref.ensures.value at w.list_at.ensures in
          let of : IsOfLane net c.args.c w.in-Some.e = (w.in-Some.ensures w.in-Some.e).0 refl in
          subst (λ (z : List ℕ). ArePairsOf every net c.args.c z) (sym w.pairs-is)
          (pairs_near every net c.args.c w.in-Some.e w.list_at.result.now c.new-pairs.result w.add_near.new.pairs c.new-pairs.ensures of (λ f h. (k.near.neighbours.each w.in-Some.e w.list_at.result.now here).all f h) (w.in_ok-add_near.ensures every k)))
      | in_default w ↦ subst (λ (z : List ℕ). ArePairsOf every net c.args.c z) (sym w.pairs-is) (pairs_none every net c.args.c c.new-pairs.result c.new-pairs.ensures (λ e h. none-some e ((w.in_default.ensures e).1 h)))
    ]
