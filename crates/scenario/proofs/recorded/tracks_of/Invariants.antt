use Rattle.std.proofs.Common.{ℕ, take}
use Rattle.spot_terms.specs.Lists.{Includes, Pairwise}
use Rattle.scenario.specs.Found.{IsTrack, HasStates}
use Rattle.scenario.proofs.recorded.tracks_of.Given as goal

abbrev pub invariant-loop-e : goal.invariant-loop-e
invariant-loop-e l = record {
  has : (e : ℕ) → Includes (take l.e-index l.e-items) e → HasStates l.tree e;
  are : Pairwise (IsTrack l.tree) (take l.e-index l.e-items) l.tracks.items;
}
