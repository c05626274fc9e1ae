use Rattle.std.proofs.Common.{◌≡◌, length}
use Rattle.participants.specs.Places.{AreCounted}
use Rattle.participants.proofs.places.places_of.Given as goal

-- the intervals so far are counted
abbrev pub invariant-loop-interval : goal.invariant-loop-interval
invariant-loop-interval l = record {
  counted : AreCounted l.items.items l.intervals.items;
  long : length l.intervals.items ≡ l.interval;
}
