-- The bridges from one lanelet.
use Rattle.std.specs.Prelude.{ℕ, List, [], Option, Some, None, slice_get}
use Rattle.spot_terms.specs.Cells.{Lane, Portal, NetCell, bridges_to}
use Rattle.spot_terms.specs.declared.network.Origin.TheVariants.{Bridge}
use Rattle.lanelets.specs.declared.cell.Placed.{Placed}
use Rattle.lanelets.specs.Made.{IsMadeOf}

-- the bridge from e, which has this id, to f between two portals
abbrev pub IsBridge : ℕ → ℕ → ℕ → Portal → Portal → Placed → Type 0
IsBridge e id f entry exit p = IsMadeOf id (record { origin = Bridge e f; entry = entry; exit = exit }) p

abbrev pub bridges_from_lane : List Lane → ℕ → Option Lane → List NetCell
bridges_from_lane lanes e None = []
bridges_from_lane lanes e (Some l) = bridges_to e l 0 lanes

-- from the lanelet at e to all
abbrev pub bridges_of : List Lane → ℕ → List NetCell
bridges_of lanes e = bridges_from_lane lanes e (slice_get lanes e)
