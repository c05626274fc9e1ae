use Rattle.std.proofs.Common.{take}
use Rattle.lane_paths.specs.Reached.{AreListedOf}
use Rattle.lane_paths.proofs.lengths.labels_of.Given as goal

abbrev pub invariant-loop-c : goal.invariant-loop-c
invariant-loop-c l = AreListedOf l.lengths (take l.c-index l.cells) l.labels.items
