-- The limits within which lanelets have a network.
use Rattle.std.specs.Prelude.{◌≡◌, ◌⊎◌, ℕ, ◌<◌, ◌≤◌, nat_abs, ◌-ℤ◌, List, Option, Some, None, slice_get, length}
use Rattle.spot_terms.specs.declared.limits.TheConstants.{MOST_CELLS}
use Rattle.spot_terms.specs.Cells.{Pair, Lane, cells}
use Rattle.spot_terms.specs.declared.scenario.RawLane.{RawLane}

-- the points differ by more than 100 m in a coordinate
abbrev pub AreFarApart : Pair → Pair → Type 0
AreFarApart p q = (100_000_000 < nat_abs (p.0 -ℤ q.0)) ⊎ (100_000_000 < nat_abs (p.1 -ℤ q.1))

-- the points of the bounds at some place differ so much
abbrev pub IsTooWide : RawLane → Type 0
IsTooWide l = (k : ℕ) × (p q : Pair) × (slice_get l.left k ≡ Some p) × (slice_get l.right k ≡ Some q) × AreFarApart p q

-- no lanelet before this position is too wide
abbrev pub AreNarrowBelow : List Lane → ℕ → Type 0
AreNarrowBelow lanes n = (k : ℕ) (l : Lane) → k < n → slice_get lanes k ≡ Some l → IsTooWide l.1 → ⊥

-- the id of the first lanelet that is too wide, or none
abbrev pub IsFirstWide : List Lane → Option ℕ → Type 0
IsFirstWide lanes None = AreNarrowBelow lanes (length lanes)
IsFirstWide lanes (Some id) = (e : ℕ) × (l : Lane) × (slice_get lanes e ≡ Some l) × (id ≡ l.0) × IsTooWide l.1 × AreNarrowBelow lanes e

-- at most 100,000 cells, and no lanelet is too wide
pub record HasNetwork (lanes : List Lane) : Type 0 where
  pub few : length (cells lanes) ≤ MOST_CELLS
  pub narrow : AreNarrowBelow lanes (length lanes)
