use Rattle.std.proofs.Common.{◌<◌, ℕ, List, get_or, length, take, sym, subst}
use Rattle.std.proofs.lemmas.List.{take_more, take_all}
use Rattle.spot_terms.specs.Network.{IsSide}
use Rattle.lanelets.specs.Listing.{GathersBetween}
use Rattle.lanelets.specs.Steps.{net_of}
use Rattle.lanelets.proofs.PairLists.{PairsIn, near_none, near_more}
use Rattle.lanelets.proofs.pairs.add_near.Goals as goal
use Rattle.spot_terms.proofs.Places.{all_at}

pub loop-f-init : goal.loop-f-init
loop-f-init c = λ every k. near_none every (net_of c.args.cells.now) c.args.c c.args.pairs.now

pub candidates-requires-clause-lane : goal.candidates-requires-clause-lane
candidates-requires-clause-lane c = all_at (λ x. x < length c.args.lanes.now) c.args.near.now c.loop-f.f-index 0 c.requires.near c.loop-f-test.true

pub loop-f-preserved : goal.loop-f-preserved
loop-f-preserved c = λ every k.
    let net = net_of c.args.cells.now in
    let f : ℕ = get_or c.args.near.now c.loop-f.f-index 0 in
    let near : List ℕ = take c.loop-f.f-index c.args.near.now in
    let more = take_more c.args.near.now c.loop-f.f-index 0 c.loop-f-test.true in
    let next = near_more every net c.args.c near f c.candidates.result.now c.args.pairs.now c.loop-f.pairs c.add_among.new.pairs (c.candidates.ensures.all every k) (c.loop-f.invariant every k) (c.in_ok-add_among.ensures every k.each) in
    subst (λ (zs : List ℕ). GathersBetween (PairsIn every net c.args.c zs) (IsSide every net c.args.c) c.args.pairs.now c.add_among.new.pairs) (sym more) next

pub returns : goal.returns
returns c = λ every k.
    let net = net_of c.args.cells.now in
    let all = take_all c.loop-f.f-index c.args.near.now c.loop-f-test.false in
    subst (λ (zs : List ℕ). GathersBetween (PairsIn every net c.args.c zs) (IsSide every net c.args.c) c.args.pairs.now c.loop-f.pairs) all (c.loop-f.invariant every k)
