use Rattle.std.proofs.Common.{◌≡◌, ◌++◌, map}
use Rattle.spot_terms.specs.Lists.{numbers_from}
use Rattle.spot_terms.specs.Samples.{bound_point}
use Rattle.sample_roads.specs.Written.{all_tokens}
use Rattle.sample_roads.proofs.lanes.put_points.Given as goal

-- the points so far were written
abbrev pub invariant-loop-k : goal.invariant-loop-k
invariant-loop-k l = record {
  before : l.out.before ≡ l.fn.out.before;
  tokens : l.out.tokens ≡ l.fn.out.tokens ++ all_tokens (map (bound_point l.y) (numbers_from 0 l.k));
}
