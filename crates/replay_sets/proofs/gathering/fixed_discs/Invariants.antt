use Rattle.std.proofs.Common.{◌≡◌, map, take}
use Rattle.spot_terms.specs.OccupiedPieces.{fixed_disc}
use Rattle.replay_sets.proofs.gathering.fixed_discs.Given as goal

-- the discs of the obstacles so far
abbrev pub invariant-loop-f : goal.invariant-loop-f
invariant-loop-f l = l.items.items ≡ map (fixed_disc l.radius) (take l.f-index l.s.fixed)
