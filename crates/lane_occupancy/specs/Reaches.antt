-- Reach lengths, and the interval that a cell is reached in first, as the code finds them.
use Rattle.std.specs.Prelude.{◌≡◌, ℕ, ◌+◌, ◌*◌, ◌≤◌, List, map, Option, Some, slice_get}
use Rattle.spot_terms.specs.LanePolygons.{reach_of}
use Rattle.spot_terms.specs.Lists.{numbers_below}
use Rattle.spot_terms.specs.declared.plain.AccStart.{AccStart}
use Rattle.lane_paths.specs.Labels.{label_at}

-- the reach lengths at the ends of the intervals below `steps`, each of k ticks
abbrev pub ends_at : AccStart → ℕ → ℕ → ℕ → List ℕ
ends_at s speed k steps = map (λ i. reach_of s speed ((i + 1) * k)) (numbers_below steps)

-- the cell's label is at most the reach length at the end of interval i
pub record IsWithin (labels : List (Option ℕ)) (ends : List ℕ) (c i : ℕ) : Type 0 where
  pub label : ℕ
  pub end : ℕ
  pub label_is : label_at labels c ≡ Some label
  pub end_is : slice_get ends i ≡ Some end
  pub low : label ≤ end
