use Rattle.std.proofs.Common.{List, ℕ, subst, sym}
use Rattle.spot_terms.specs.Lists.{Lists}
use Rattle.spot_terms.specs.Routes.{IsStartCell}
use Rattle.lane_paths.proofs.label_table.labels.Goals as goal

pub labels-requires-clause-starts : goal.labels-requires-clause-starts
labels-requires-clause-starts c = subst (λ (z : List ℕ). Lists (IsStartCell c.args.net.now c.args.start) z) (sym c.list.ensures) c.in_ok-starts.ensures.list

pub returns : goal.returns
returns c = c.labels.ensures
