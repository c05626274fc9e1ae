use Rattle.std.proofs.Common.{filter, map, take}
use Rattle.std.specs.Prelude.{◌==◌}
use Rattle.spot_terms.specs.OccupiedPieces.{recorded_disc}
use Rattle.replay_sets.specs.Discs.{Follows}
use Rattle.replay_sets.proofs.gathering.put_states.Given as goal

-- the states so far are added
abbrev pub invariant-loop-state : goal.invariant-loop-state
invariant-loop-state l = Follows l.fn.all.items l.all.items (λ step. map (recorded_disc l.radius l.m) (filter (λ state. state.0 == step) (take l.state-index l.m.recorded)))
