use Rattle.std.proofs.Common.{ℕ, ◌≡◌, ◌+◌, ◌<◌, ◌++◌, length, map, take}
use Rattle.std.specs.List.{flat_map}
use Rattle.spot_terms.specs.OccupiedPieces.{discs_of, fixed_disc}
use Rattle.replay_sets.specs.Discs.{discs_at}
use Rattle.replay_sets.proofs.recorded.Recorded.make.Given as goal

-- the static obstacles and the dynamic obstacles so far
abbrev pub invariant-loop-m : goal.invariant-loop-m
invariant-loop-m l = record {
  long : length l.all.items ≡ l.fn.steps + 1;
  each : (i : ℕ) → i < l.fn.steps + 1 → discs_at l.all.items i ≡ map (fixed_disc l.fn.ego_radius) l.s.fixed ++ flat_map (discs_of l.fn.ego_radius i) (take l.m-index l.s.movers);
}
