use Rattle.std.proofs.Common.{◌≤◌, ◌-◌, ℕ, List, length, take}
use Rattle.std.specs.List.{AllByRecursion}
use Rattle.std.specs.Prelude.{Option}
use Rattle.spot_terms.specs.Cells.{Lane, cells}
use Rattle.spot_terms.specs.Lists.{Lists}
use Rattle.lanelets.specs.Beside.{IsBeside}
use Rattle.lane_paths.specs.Closed.{AreClosed, IsAtMost}
use Rattle.lane_paths.proofs.closed.greatest_of_blocks.Given as goal

abbrev pub invariant-loop-first : goal.invariant-loop-first
invariant-loop-first l = (l.first ≤ length l.class) × ((lanes : List Lane) (lengths : List (Option ℕ)) (s : ℕ) → AreClosed lanes lengths l.blocks.greatest.items → Lists (λ d. IsBeside lanes (cells lanes) d s) l.class → AllByRecursion (IsAtMost lanes lengths l.most) (take l.first l.class))

abbrev pub decreases-loop-first : goal.decreases-loop-first
decreases-loop-first l = length l.class - l.first
