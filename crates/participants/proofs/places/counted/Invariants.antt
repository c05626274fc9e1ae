use Rattle.participants.proofs.Ranks.{CountedSoFar}
use Rattle.participants.proofs.places.counted.Given as goal

-- the places so far are counted
abbrev pub invariant-loop-at : goal.invariant-loop-at
invariant-loop-at l = CountedSoFar l.places l.interval l.at l.count l.before.items
