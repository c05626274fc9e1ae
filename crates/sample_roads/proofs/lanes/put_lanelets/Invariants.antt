use Rattle.std.proofs.Common.{◌≡◌, ◌++◌, map}
use Rattle.spot_terms.specs.Lists.{numbers_from}
use Rattle.spot_terms.specs.Samples.{lanelet}
use Rattle.sample_roads.specs.Written.{all_tokens}
use Rattle.sample_roads.proofs.lanes.put_lanelets.Given as goal

-- the lanelets so far were written
abbrev pub invariant-loop-k : goal.invariant-loop-k
invariant-loop-k l = record {
  before : l.out.before ≡ l.fn.out.before;
  tokens : l.out.tokens ≡ l.fn.out.tokens ++ all_tokens (map (lanelet l.lanes) (numbers_from 1 l.k));
}
