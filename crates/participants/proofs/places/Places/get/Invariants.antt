use Rattle.std.proofs.Common.{◌≡◌, ◌+◌}
use Rattle.participants.specs.Places.{count_before}
use Rattle.participants.proofs.places.Places.get.Given as goal

-- so many of the interval's places have to be passed still
abbrev pub invariant-loop-at : goal.invariant-loop-at
invariant-loop-at l = count_before l.self-inside.items.items l.interval l.at + l.left ≡ l.fn.rank
