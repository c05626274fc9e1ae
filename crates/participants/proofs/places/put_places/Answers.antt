use Rattle.std.proofs.Common.{◌≡◌, ◌∙◌, ◌<◌, List, true, false, ap, subst, arith, length, length-append, get_or, ℕ, refl, rules}
use Rattle.std.specs.Prelude.{nat_le, slice_index_or}
use Rattle.spot_terms.proofs.Places.{same_index}
use Rattle.lane_occupancy.specs.declared.polygons.LanePoly.{LanePoly}
use Rattle.participants.specs.Places.{nobody}
use Rattle.participants.specs.declared.participant.Participant.{Participant}
use Rattle.participants.proofs.PutPlaces.{put_free, put_polygon}
use Rattle.participants.proofs.places.put_places.Goals as goal

person : (ps : List Participant) (who : ℕ) (p : Participant) → who < length ps → p ≡ get_or ps who p → p ≡ slice_index_or ps who nobody
person ps who p h e = e ∙ same_index ps who who p nobody h refl

pub returns-then-not-p-clause-pieces : goal.returns-then-not-p-clause-pieces
returns-then-not-p-clause-pieces c =
    let same = person c.args.participants.now c.args.who c.index-participants-who.result c.requires.who c.index-participants-who.is in
    let lane : c.index-participants-who.result.lane ≡ false = search (rules, c.if-not-p.true) in
    λ interval. put_free c.args.participants.now c.args.who c.requires.who interval c.args.places.now.items c.push.new.self.items (subst (λ (x : Participant). x.lane ≡ false) same lane) c.in_ok-push.ensures.items

pub loop-which-preserved : goal.loop-which-preserved
loop-which-preserved c =
    let same = person c.args.participants.now c.args.who c.index-participants-who.result c.requires.who c.index-participants-who.is in
    let lane : c.index-participants-who.result.lane ≡ true = search (rules, c.if-not-p.false) in
    let polys : c.list-polygon-items.result.now ≡ (slice_index_or c.args.participants.now c.args.who nobody).polys = c.list-polygon-items.ensures ∙ ap (λ (x : Participant). x.polys) same in
    let less : c.loop-which.which < length (slice_index_or c.args.participants.now c.args.who nobody).polys = subst (λ (xs : List LanePoly). c.loop-which.which < length xs) polys c.loop-which-test.true in
    let item : c.polygon-item.result ≡ get_or (slice_index_or c.args.participants.now c.args.who nobody).polys c.loop-which.which c.polygon-item.result = subst (λ (xs : List LanePoly). c.polygon-item.result ≡ get_or xs c.loop-which.which c.polygon-item.result) polys c.polygon-item.is in
    record {
      follows = λ interval. put_polygon c.args.participants.now c.args.who c.requires.who interval (nat_le c.polygon-item.result.first interval) c.args.places.now.items c.loop-which.places.items c.push-in-loop-which.new.self.items c.loop-which.which c.polygon-item.result c.bounding_box.result c.bounding_box.ensures
          refl (subst (λ (x : Participant). x.lane ≡ true) same lane) less item c.in_ok-push-2.ensures.items (c.loop-which.invariant.follows interval);
      few = rw (c.in_ok-push-2.ensures.items, length-append) (let f = c.loop-which.invariant.few in omega (arith, f));
    }
