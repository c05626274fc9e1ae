use Rattle.std.proofs.Common.{ℕ, take, ◌∷◌}
use Rattle.spot_terms.specs.Lists.{Includes, Pairwise}
use Rattle.spot_claims.specs.Scenario.{IsRecorded}
use Rattle.scenario.specs.Has.{HasRecorded}
use Rattle.scenario.proofs.recorded.track_of.Given as goal

abbrev pub invariant-loop-state : goal.invariant-loop-state
invariant-loop-state l = record {
  has : (n : ℕ) → Includes (take l.state-index l.state-items) n → HasRecorded l.tree n;
  are : Pairwise (IsRecorded l.tree) (l.start ∷ take l.state-index l.state-items) l.recorded.items;
}
