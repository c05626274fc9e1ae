-- Waypoints by number, and which can follow each other on a route. Of n cells, number c is the hull of cell c, where a
-- route ends, n + d is the entry of cell d, and n + n is the start.
use Rattle.std.specs.Prelude.{◌≡◌, ℕ, ◌+◌, List, [], ◌∷◌, length, slice_get, Some}
use Rattle.spot_terms.specs.Cells.{Lane, NetCell, cells, corners_of}
use Rattle.spot_terms.specs.Gaps.{IsGap}
use Rattle.spot_terms.specs.Hull.{IsHullOf}
use Rattle.spot_terms.specs.Lists.{Includes}
use Rattle.spot_terms.specs.Network.{IsAhead}
use Rattle.spot_terms.specs.Routes.{IsStartCell}
use Rattle.spot_terms.specs.declared.plain.Pt.{Pt}
use Rattle.lanelets.specs.Beside.{IsBeside}
use Rattle.lane_paths.specs.declared.shortest_lengths.Waypoint.{Waypoint}
use Rattle.lane_paths.specs.Edges.{Edge}
use Rattle.lane_paths.specs.Walks.{entry_of}

module _ (lanes : List Lane) (p : Pt) where
  -- the number of the entry of cell d
  abbrev pub entry_at : ℕ → ℕ
  entry_at d = length (cells lanes) + d

  -- the number of the start
  abbrev pub start_at : ℕ
  start_at = length (cells lanes) + length (cells lanes)

  -- from waypoint i, which has the points w, side moves lead to cell c
  pub data Leaves (c : ℕ) : ℕ → List Pt → Type 0 where
    from_start : (s : ℕ) → IsStartCell lanes p s → IsBeside lanes (cells lanes) c s → Leaves c start_at (p ∷ [])
    from_entry : (e : ℕ) (a : NetCell) → slice_get (cells lanes) e ≡ Some a → IsBeside lanes (cells lanes) c e → Leaves c (entry_at e) (entry_of a)

  -- in cell c the next waypoint can be number j, which has the points w
  pub data Enters (c : ℕ) : ℕ → List Pt → Type 0 where
    to_end : (a : NetCell) → slice_get (cells lanes) c ≡ Some a → Enters c c (corners_of a)
    to_entry : (d : ℕ) (a : NetCell) → IsAhead lanes (cells lanes) c d → slice_get (cells lanes) d ≡ Some a → Enters c (entry_at d) (entry_of a)

  -- in cell c the waypoint at the end of the edge can follow the one at its start, and their gap is that of the edge
  pub record LinksIn (c : ℕ) (e : Edge) : Type 0 where
    pub w : List Pt
    pub v : List Pt
    pub leaves : Leaves c e.from w
    pub enters : Enters c e.to v
    pub gap : IsGap w v e.gap

  -- in some cell
  abbrev pub IsLink : Edge → Type 0
  IsLink e = (c : ℕ) × LinksIn c e

  -- waypoint i with its hull, from which side moves lead to cell c
  abbrev pub IsWaypoint : ℕ → ℕ → Waypoint → Type 0
  IsWaypoint i c x = (w : List Pt) × Leaves c i w × IsHullOf w x.shape

  -- ---- links by what they lead from

  -- from waypoint i
  abbrev pub LinksOf : ℕ → Edge → Type 0
  LinksOf i e = (e.from ≡ i) × IsLink e

  -- from waypoint i, in cell c
  abbrev pub LinksFrom : ℕ → ℕ → Edge → Type 0
  LinksFrom i c e = (e.from ≡ i) × LinksIn c e

  -- from waypoint i, in cell c, to waypoint j
  abbrev pub LinksTo : ℕ → ℕ → ℕ → Edge → Type 0
  LinksTo i c j e = (e.to ≡ j) × LinksFrom i c e

  -- from waypoint i, in cell c, to the entry of one of the cells
  abbrev pub LinksToEntries : ℕ → ℕ → List ℕ → Edge → Type 0
  LinksToEntries i c ahead e = (d : ℕ) × Includes ahead d × (e.to ≡ entry_at d) × LinksFrom i c e

  -- from waypoint i, in one of the cells
  abbrev pub LinksInCells : ℕ → List ℕ → Edge → Type 0
  LinksInCells i some e = (c : ℕ) × Includes some c × LinksFrom i c e

  -- from waypoint i, in a cell to which side moves lead from cell s
  abbrev pub LinksBeside : ℕ → ℕ → Edge → Type 0
  LinksBeside i s e = (c : ℕ) × IsBeside lanes (cells lanes) c s × LinksFrom i c e

  -- from the start, in a cell to which side moves lead from one of the start cells
  abbrev pub LinksFromStart : List ℕ → Edge → Type 0
  LinksFromStart starts e = (e.from ≡ start_at) × (s c : ℕ) × Includes starts s × IsBeside lanes (cells lanes) c s × LinksIn c e
