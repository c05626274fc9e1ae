use Rattle.std.proofs.Common.{◌+◌, take}
use Rattle.std.specs.List.{AllByRecursion}
use Rattle.lane_paths.specs.Edges.{HasAtMost}
use Rattle.lane_paths.proofs.closed.greatest_ahead.Given as goal

abbrev pub invariant-loop-d : goal.invariant-loop-d
invariant-loop-d l = AllByRecursion (λ d. HasAtMost l.search.lengths (l.search.count + d) l.most) (take l.d-index l.ahead)
