use Rattle.std.proofs.Common.{◌≡◌}
use Rattle.spot_terms.specs.Directions.{rough_term, rough_sum}
use Rattle.heading.proofs.series.alternating_sum.Given as goal

abbrev pub invariant-loop-k : goal.invariant-loop-k
invariant-loop-k l = record {
  term : l.term ≡ rough_term l.first l.odd l.square l.k;
  sum : l.sum ≡ rough_sum l.first l.odd l.square l.k;
}
