use Rattle.std.proofs.Common.{take}
use Rattle.std.specs.List.{AllByRecursion}
use Rattle.lane_paths.specs.Closed.{IsAtMost}
use Rattle.lane_paths.proofs.closed.greatest_among.Given as goal

abbrev pub invariant-loop-c : goal.invariant-loop-c
invariant-loop-c l = AllByRecursion (IsAtMost l.net l.search.lengths l.most) (take l.c-index l.block)
