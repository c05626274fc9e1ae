use Rattle.std.proofs.Common.{◌∙◌, ℕ, ◌++◌, ◌∷◌, [], get_or, take, subst, sym}
use Rattle.std.proofs.lemmas.List.{take_more, take_all}
use Rattle.lanelets.specs.Links.{ArePlaces}
use Rattle.lanelets.proofs.LinkLists.{places_next, places_skip}
use Rattle.lanelets.proofs.links.places_of.Goals as goal
use Rattle.lanelets.proofs.links.places_of.Goals.{in-Some+in_ok-push-in-Some, in-None}

pub loop-id-preserved : goal.loop-id-preserved
loop-id-preserved c =
    let lanes = c.args.lanes.now.entries in
    let ids = take c.loop-id.id-index c.args.ids.now in
    let id : ℕ = get_or c.args.ids.now c.loop-id.id-index 0 in
    let more = take_more c.args.ids.now c.loop-id.id-index 0 c.loop-id-test.true in
    rw more (elim c.match-place_of.branch [
      | in-Some+in_ok-push-in-Some w ↦ subst (ArePlaces lanes (ids ++ id ∷ [])) (sym (w.places-is ∙ w.in_ok-push-in-Some.ensures)) (places_next lanes ids c.loop-id.places id w.in-Some.place c.loop-id.invariant w.in-Some.ensures)
      | in-None w ↦ subst (ArePlaces lanes (ids ++ id ∷ [])) (sym w.places-is) (places_skip lanes ids c.loop-id.places id c.loop-id.invariant w.in-None.ensures)
    ])

pub returns : goal.returns
returns c = let all = take_all c.loop-id.id-index c.args.ids.now c.loop-id-test.false in rw all at c.loop-id.invariant
