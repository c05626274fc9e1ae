-- Why lanelets have no network.
use Rattle.std.specs.Prelude.{◌≡◌, ◌<◌, ◌≤◌, List, Some, length}
use Rattle.spot_terms.specs.declared.limits.TheConstants.{MOST_CELLS}
use Rattle.spot_terms.specs.Cells.{Lane, cells}
use Rattle.spot_terms.specs.Limits.{IsFirstWide}
use Rattle.lanelets.specs.declared.fault.NetFault.{NetFault}
use Rattle.lanelets.specs.declared.fault.NetFault.TheVariants.{TooManyCells, LaneTooWide, Memory}

-- the number of all cells, or else the id of the first lanelet that is too wide; want of memory may come at any time
abbrev pub IsNetFault : List Lane → NetFault → Type 0
IsNetFault lanes (TooManyCells n) = (n ≡ length (cells lanes)) × (MOST_CELLS < n)
IsNetFault lanes (LaneTooWide id) = (length (cells lanes) ≤ MOST_CELLS) × IsFirstWide lanes (Some id)
IsNetFault lanes Memory = Unit {0}
