use Rattle.std.proofs.Common.{◌≡◌, ◌+◌, drop}
use Rattle.std.specs.Prelude.{sum_by}
use Rattle.participants.proofs.Pairs.{polygons_of}
use Rattle.participants.proofs.counts.polygon_count.Given as goal

-- the polygons so far, and those of the participants that are left, are all
abbrev pub invariant-loop-p : goal.invariant-loop-p
invariant-loop-p l = l.count + sum_by polygons_of (drop l.p-index l.participants) ≡ sum_by polygons_of l.participants
