use Rattle.std.proofs.Common.{ℕ, ◌*◌, ◌≤◌, length, take}
use Rattle.participants.specs.Places.{IsPlaceOf, places_in}
use Rattle.spot_terms.specs.Lists.{Pairwise}
use Rattle.std.specs.List.{flat_map}
use Rattle.participants.specs.Pieces.{participant_pieces}
use Rattle.participants.proofs.places.all_places.Given as goal

-- the places of the participants so far
abbrev pub invariant-loop-who : goal.invariant-loop-who
invariant-loop-who l = record {
  places : (interval : ℕ) → Pairwise (IsPlaceOf l.participants interval) (places_in interval l.places.items) (flat_map (participant_pieces interval) (take l.who l.participants));
  few : length l.places.items ≤ l.who * 262_144;
}
