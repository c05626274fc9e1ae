use Rattle.std.proofs.Common.{ℕ, ◌+◌, ◌≤◌, length}
use Rattle.std.specs.Prelude.{slice_index_or}
use Rattle.participants.specs.Places.{nobody}
use Rattle.participants.proofs.PutPlaces.{Follows, pieces_before}
use Rattle.participants.proofs.places.put_places.Given as goal

-- the places so far are those of the pieces of the lane polygons so far
abbrev pub invariant-loop-which : goal.invariant-loop-which
invariant-loop-which l = record {
  follows : (interval : ℕ) → Follows l.participants interval l.fn.places.items l.places.items (pieces_before (slice_index_or l.participants l.who nobody) interval l.which);
  few : length l.places.items ≤ length l.fn.places.items + l.which;
}
