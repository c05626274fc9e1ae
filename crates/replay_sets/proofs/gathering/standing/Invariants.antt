use Rattle.replay_sets.specs.Discs.{AreStanding}
use Rattle.replay_sets.proofs.gathering.standing.Given as goal

-- the steps so far
abbrev pub invariant-loop : goal.invariant-loop
invariant-loop l = AreStanding l.s l.radius l.counter l.all.items
