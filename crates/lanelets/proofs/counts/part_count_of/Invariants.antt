use Rattle.std.proofs.Common.{◌≡◌, ◌≤◌, ◌+◌, ◌*◌, ℕ, length, drop}
use Rattle.spot_terms.specs.Cells.{cells_from}
use Rattle.lanelets.proofs.counts.part_count_of.Given as goal

abbrev pub invariant-loop-q : goal.invariant-loop-q
invariant-loop-q l = ((n : ℕ) → l.count + length (cells_from n l.q (drop l.q l.lane.left) (drop l.q l.lane.right)) ≡ length (cells_from n 0 l.lane.left l.lane.right)) × (l.count ≤ 14200000 * l.q)
