use Rattle.std.proofs.Common.{◌<◌, arith}
use Rattle.spot_terms.proofs.ListLemmas.{all_of}
use Rattle.lane_paths.proofs.ClosedLaws.{cell_at_most}
use Rattle.lane_paths.proofs.LinkLaws.{ahead_within}
use Rattle.lane_paths.proofs.closed.greatest_in.Goals as goal

pub greatest_ahead-requires-clause-within : goal.greatest_ahead-requires-clause-within
greatest_ahead-requires-clause-within c = all_of (λ d. d < c.args.search.now.count) c.ahead.result.now (λ d i. let low = ahead_within c.args.net.now c.args.c d (c.ahead.ensures.each d i) in let n = c.requires.places.count_is in omega (arith, low, n))

pub returns : goal.returns
returns c = cell_at_most c.args.net.now c.args.search.now.lengths c.args.c c.args.search.now.count c.in-Some.end c.in-Some-greatest_ahead.entries c.greater.result c.ahead.result.now c.requires.places.count_is c.greater.ensures.first c.greater.ensures.second c.in-Some.ensures c.ahead.ensures.all c.in-Some-greatest_ahead.ensures
