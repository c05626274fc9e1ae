-- Lane motions: planar motions with a trip along the network for each tick, and whole speeds.
use Rattle.std.specs.Prelude.{◌≡◌, ◌⊎◌, ℕ, ◌+◌, ◌*◌, ◌≤◌, max, List, [], ◌∷◌, sum_by, slice_get, Some, ℤ, pos, nat_abs, ◌-ℤ◌, ◌*ℤ◌}
use Rattle.spot_terms.specs.Whole.{square}
use Rattle.spot_terms.specs.Cells.{Lane, NetCell, cells, corners_of}
use Rattle.spot_terms.specs.Hull.{FractionPt, whole_pt, InHullAt}
use Rattle.spot_terms.specs.Motions.{State, IsPlanarMotion}
use Rattle.spot_terms.specs.Network.{IsAhead, IsSide}
use Rattle.spot_terms.specs.declared.plain.Pt.{Pt}
use Rattle.spot_terms.specs.declared.plain.VBox.{VBox}

-- the distance of two fraction points is at most the whole number w
abbrev pub IsAsLong : ℕ → FractionPt → FractionPt → Type 0
IsAsLong w p q = square (q.x *ℤ pos p.d -ℤ p.x *ℤ pos q.d) + square (q.y *ℤ pos p.d -ℤ p.y *ℤ pos q.d) ≤ (w * p.d * q.d) * (w * p.d * q.d)

-- an entry of a trip: a point, the number of a cell that holds it, and the length of the piece to the next point
pub record Entry : Type 0 where
  pub at : FractionPt
  pub cell : ℕ
  pub piece : ℕ

abbrev pub Trip : Type 0
Trip = List Entry

-- the pieces of a trip, one after another
abbrev pub trip_length : Trip → ℕ
trip_length trip = sum_by (λ a. a.piece) trip

-- a state on the road: the planar state, and the speed along the lanes
abbrev pub RoadState : Type 0
RoadState = State × ℕ

abbrev pub planar_part : List RoadState → List State
planar_part [] = []
planar_part (s ∷ states) = s.0 ∷ planar_part states

-- the first speed is at most s0
abbrev pub StartsSlow : ℕ → List RoadState → Type 0
StartsSlow s0 [] = ⊥
StartsSlow s0 (s ∷ states) = s.1 ≤ s0

module _ (lanes : List Lane) where
  -- the point lies in the cell of this number
  abbrev pub InCell : ℕ → FractionPt → Type 0
  InCell c q = (a : NetCell) × (slice_get (cells lanes) c ≡ Some a) × (1 ≤ q.d) × InHullAt (corners_of a) q

  -- the point lies on the entry of the cell of this number
  abbrev pub OnEntry : ℕ → FractionPt → Type 0
  OnEntry c q = (a : NetCell) × (slice_get (cells lanes) c ≡ Some a) × InHullAt (a.entry.0 ∷ a.entry.1 ∷ []) q

  -- a move stays in its cell, goes to a cell beside it, or goes ahead to a point of the next cell's entry
  abbrev pub Moves : Entry → Entry → Type 0
  Moves a b = IsAsLong a.piece a.at b.at
      × ((b.cell ≡ a.cell) ⊎ IsSide lanes (cells lanes) a.cell b.cell ⊎ (IsAhead lanes (cells lanes) a.cell b.cell × OnEntry b.cell b.at))

  -- from this entry on, by moves, to position p' in cell c'
  abbrev pub Chains : Entry → Trip → Pt → ℕ → Type 0
  Chains a [] p' c' = InCell a.cell a.at × (a.at ≡ whole_pt p') × (a.cell ≡ c')
  Chains a (b ∷ rest) p' c' = InCell a.cell a.at × Moves a b × Chains b rest p' c'

  -- a trip from position p in cell c to position p' in cell c'
  abbrev pub Trips : Pt → ℕ → Trip → Pt → ℕ → Type 0
  Trips p c [] p' c' = ⊥
  Trips p c (a ∷ rest) p' c' = (a.at ≡ whole_pt p) × (a.cell ≡ c) × Chains a rest p' c'

  -- from the first state in cell c, over each trip to the state behind it; a bounds the change of speed, and v the speed
  abbrev pub Drives : ℕ → ℕ → ℕ → List RoadState → List Trip → Type 0
  Drives a v c [] trips = Unit {0}
  Drives a v c (s ∷ states) [] = (s.1 ≤ v) × (states ≡ [])
  Drives a v c (s ∷ []) (trip ∷ trips) = ⊥
  Drives a v c (s ∷ t ∷ states) (trip ∷ trips) = (s.1 ≤ v) × (t.1 ≤ s.1 + a) × (s.1 ≤ t.1 + a)
      × (trip_length trip ≤ max s.1 t.1)
      × ((c' : ℕ) × Trips s.0.p c trip t.0.p c' × Drives a v c' (t ∷ states) trips)

  -- a lane motion from p with a velocity of the box: its states, with a trip for each tick and a speed for each state
  pub record IsLaneMotion (p : Pt) (b : VBox) (a v : ℤ) (s0 : ℕ) (states : List State) : Type 0 where
    pub road : List RoadState
    pub states_are : states ≡ planar_part road
    pub planar : IsPlanarMotion p b a v states
    pub slow : StartsSlow s0 road
    pub start_cell : ℕ
    pub in_start : InCell start_cell (whole_pt p)
    pub trips : List Trip
    pub drives : Drives (nat_abs a) (nat_abs v) start_cell road trips
