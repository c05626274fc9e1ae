use Rattle.std.proofs.Common.{◌≡◌, ◌+◌, length}
use Rattle.lane_paths.specs.Edges.{AreNone}
use Rattle.lane_paths.proofs.lengths.fill.Given as goal

abbrev pub invariant-loop : goal.invariant-loop
invariant-loop l = AreNone (length l.lengths.items) l.lengths.items × (length l.lengths.items ≡ length l.initial.lengths.items + l.counter)
