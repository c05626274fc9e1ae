use Rattle.std.proofs.Common.{arith}
use Rattle.participants.proofs.PutPlaces.{places_longer}
use Rattle.participants.proofs.places.all_places.Goals as goal

pub loop-who-preserved : goal.loop-who-preserved
loop-who-preserved c = record {
  places = λ interval. places_longer c.args.participants.now interval c.loop-who.who c.loop-who.places.items c.put_places.new.places.items c.loop-who-test.true (c.in_ok-put_places.ensures.pieces interval) (c.loop-who.invariant.places interval);
  few = (let f = c.loop-who.invariant.few in let g = c.in_ok-put_places.ensures.few in omega (arith, f, g));
}
