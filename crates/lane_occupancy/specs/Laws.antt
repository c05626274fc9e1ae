-- The laws of lane motions.
use Rattle.std.specs.Prelude.{◌≡◌, ℕ, ◌+◌, ◌*◌, ◌<◌, ◌≤◌, List, [], ◌∷◌, take, sum_by, slice_get, Some}
use Rattle.spot_terms.specs.Bodies.{InDisc}
use Rattle.spot_terms.specs.Cells.{Lane}
use Rattle.spot_terms.specs.Gaps.{IsGap}
use Rattle.spot_terms.specs.Hull.{FractionPt, InHull, InHullAt}
use Rattle.spot_terms.specs.LaneMotions.{IsAsLong, Entry, Trip, trip_length, RoadState, StartsSlow, Drives, IsLaneMotion}
use Rattle.spot_terms.specs.LanePolygons.{LanePolygon, AreLanePolygons}
use Rattle.spot_terms.specs.Lists.{Includes}
use Rattle.spot_terms.specs.Motions.{State}
use Rattle.spot_terms.specs.Ranges.{IsStart}
use Rattle.spot_terms.specs.declared.plain.Pt.{Pt}
use Rattle.spot_terms.specs.declared.plain.AccStart.{AccStart}

-- each piece of a list of entries, behind which comes the point q, is at least as long as the way to the next point
abbrev pub ArePieces : Entry → List Entry → FractionPt → Type 0
ArePieces a [] q = IsAsLong a.piece a.at q
ArePieces a (b ∷ rest) q = IsAsLong a.piece a.at b.at × (1 ≤ b.at.d) × ArePieces b rest q

-- the pieces of the first k ticks of each drive with such a start speed and such bounds sum to at most n
abbrev pub BoundsPieces : ℕ → ℕ → ℕ → ℕ → ℕ → Type 0
BoundsPieces speed a v k n = (lanes : List Lane) (c : ℕ) (road : List RoadState) (trips : List Trip)
    → Drives lanes a v c road trips → StartsSlow speed road → sum_by trip_length (take k trips) ≤ n

-- each whole point of a lane motion's body at a tick of an interval below `steps` lies in a polygon whose first interval is
-- that one or an earlier one
abbrev pub HoldsLaneBodies : List Lane → AccStart → ℕ → ℕ → ℕ → List LanePolygon → Type 0
HoldsLaneBodies lanes s speed k steps polygons = (states : List State) (t i : ℕ) (o : State) (q : Pt)
    → IsLaneMotion lanes s.p s.b s.a s.v speed states → slice_get states t ≡ Some o → t ≤ (i + 1) * k → i < steps → InDisc s.r o.p q
    → (x : LanePolygon) × Includes polygons x × (x.first ≤ i) × InHull x.corners q

pub record LaneLaws : Type 0 where
  -- pieces sum to at least the distance of their ends
  pub pieces : (a : Entry) (rest : List Entry) (q : FractionPt) → ArePieces a rest q → IsAsLong (trip_length (a ∷ rest)) a.at q
  -- a way from one portal to another is at least as long as their gap
  pub portals : (a b : List Pt) (gap length : ℕ) (p q : FractionPt) → 1 ≤ p.d → 1 ≤ q.d → InHullAt a p → InHullAt b q → IsAsLong length p q → IsGap a b gap → gap ≤ length
  -- exact lane polygons hold the bodies of lane motions
  pub polygons : (lanes : List Lane) (s : AccStart) (speed k steps : ℕ) (polygons : List LanePolygon) → IsStart s
      → AreLanePolygons lanes s speed k steps polygons → HoldsLaneBodies lanes s speed k steps polygons
