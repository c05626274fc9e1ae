use Rattle.std.proofs.Common.{◌≡◌, ◌*◌, ◌++◌, map}
use Rattle.spot_terms.specs.Lists.{numbers_from}
use Rattle.spot_terms.specs.Samples.{mover, state_after}
use Rattle.sample_roads.specs.Written.{all_tokens}
use Rattle.sample_roads.proofs.sample.put_movers.Given as goal

-- the movers so far were written, and the generator has drawn twice for each
abbrev pub invariant-loop-m : goal.invariant-loop-m
invariant-loop-m l = record {
  state : l.random.state ≡ state_after l.fn.seed (2 * l.m);
  before : l.out.before ≡ l.fn.out.before;
  tokens : l.out.tokens ≡ l.fn.out.tokens ++ all_tokens (map (mover l.fn.seed l.lanes) (numbers_from 0 l.m));
}
