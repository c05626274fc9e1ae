-- Which cells hold a point.
use Rattle.std.specs.Prelude.{◌≡◌, ℕ, ◌<◌, List, Some, slice_get}
use Rattle.spot_terms.specs.Hull.{InHull}
use Rattle.spot_terms.specs.declared.plain.Pt.{Pt}
use Rattle.lanelets.specs.declared.cell.Placed.{Placed}

-- the polygon of cell c holds p
abbrev pub HoldsAt : List Placed → Pt → ℕ → Type 0
HoldsAt made p c = (x : Placed) × (slice_get made c ≡ Some x) × InHull x.cell.poly p

-- and the cell is one of the first n
abbrev pub HoldsBelow : List Placed → Pt → ℕ → ℕ → Type 0
HoldsBelow made p n c = (c < n) × HoldsAt made p c
