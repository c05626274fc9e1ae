-- That there are motions: a body that keeps its velocity has one of every length; cars stay in their cell, go ahead and
-- go to the side; and a body is where the octagon of an interval's end is not.
use Rattle.std.specs.Prelude.{◌≡◌, ℕ, zero, suc, ◌+◌, ◌*◌, List, [], ◌∷◌, map, length, Some, slice_get, ℤ, pos, neg_ℤ, ◌+ℤ◌, ◌-ℤ◌}
use Rattle.spot_terms.specs.Bodies.{InDisc}
use Rattle.spot_terms.specs.Cells.{Lane, Pair}
use Rattle.spot_terms.specs.EgoMotions.{EgoSpeedAtMost, IsEgoMotion}
use Rattle.spot_terms.specs.Hull.{whole_pt}
use Rattle.spot_terms.specs.LaneMotions.{Entry, Trip, InCell, OnEntry, IsLaneMotion}
use Rattle.spot_terms.specs.LanePolygons.{add_pt}
use Rattle.spot_terms.specs.Lists.{Includes}
use Rattle.spot_terms.specs.Motions.{State, SpeedAtMost, InBox, IsPlanarMotion}
use Rattle.spot_terms.specs.Reach.{normals, disc_number, reach_number, interval_numbers, InOctagon}
use Rattle.spot_terms.specs.declared.plain.AccStart.{AccStart}
use Rattle.spot_terms.specs.declared.plain.Pt.{Pt}
use Rattle.spot_terms.specs.declared.plain.VBox.{VBox}

-- ---- bodies that keep their velocity

abbrev pub state : Pt → Pt → State
state p w = record { p = p; v = w }

-- from p on with the velocity w, for n ticks
abbrev pub steady : Pt → Pt → ℕ → List State
steady p w zero = state p w ∷ []
steady p w (suc n) = state p w ∷ steady (add_pt p w) w n

-- ---- cars on a road of two lanelets side by side, each of two cells

abbrev pub point : ℕ → ℕ → Pt
point x y = record { x = pos x; y = pos y }

abbrev pub metres_at : ℕ → ℕ → Pair
metres_at x y = (pos (1_000_000 * x), pos (1_000_000 * y))

abbrev pub right_lane : Lane
right_lane = (
  1,
  record {
    left = metres_at 0 4 ∷ metres_at 2 4 ∷ metres_at 4 4 ∷ [];
    right = metres_at 0 0 ∷ metres_at 2 0 ∷ metres_at 4 0 ∷ [];
    successors = [];
    predecessors = [];
    sides = 2 ∷ [];
  },
)

abbrev pub left_lane : Lane
left_lane = (
  2,
  record {
    left = metres_at 0 8 ∷ metres_at 2 8 ∷ metres_at 4 8 ∷ [];
    right = metres_at 0 4 ∷ metres_at 2 4 ∷ metres_at 4 4 ∷ [];
    successors = [];
    predecessors = [];
    sides = 1 ∷ [];
  },
)

-- both are 4 m long, along x, and 4 m wide. Cells 0 and 1 are the halves of the right one, 2 and 3 those of the left one
abbrev pub two_lanes : List Lane
two_lanes = right_lane ∷ left_lane ∷ []

-- a car with 10 m/s along x and w mm/s along y, each within 1 mm/s; its radius is 1 m
abbrev pub car : Pt → ℤ → AccStart
car p w = record {
  p = p;
  b = record { xlo = pos 9999; xhi = pos 10001; ylo = w -ℤ pos 1; yhi = w +ℤ pos 1 };
  a = pos 8;
  v = pos 70000;
  r = 1_000_000;
}

-- the cell of the last entry
abbrev pub last_cell : ℕ → Trip → ℕ
last_cell c [] = c
last_cell c (a ∷ trip) = last_cell a.cell trip

-- of a car with this start speed the states are a lane motion of one tick, over this trip from a cell to a cell
pub record DrivesOver (s : AccStart) (speed : ℕ) (states : List State) (from : ℕ) (trip : Trip) (to : ℕ) : Type 0 where
  pub motion : IsLaneMotion two_lanes s.p s.b s.a s.v speed states
  pub starts : motion.start_cell ≡ from
  pub trips_are : motion.trips ≡ trip ∷ []
  pub ends : last_cell from trip ≡ to

abbrev pub entry_at : Pt → ℕ → ℕ → Entry
entry_at p cell piece = record { at = whole_pt p; cell = cell; piece = piece }

-- it begins in the middle of cell 0, and is 10 mm further after the tick
abbrev pub staying : List State
staying = steady (point 1_000_000 2_000_000) (point 10_000 0) 1

abbrev pub staying_trip : Trip
staying_trip = entry_at (point 1_000_000 2_000_000) 0 10_000 ∷ entry_at (point 1_010_000 2_000_000) 0 0 ∷ []

-- it begins in cell 0, 5 mm before the entry of cell 1, gains 8 mm/s, and is 5.004 mm behind the entry after the tick
abbrev pub going_ahead : List State
going_ahead = state (point 1_995_000 2_000_000) (point 10_000 0) ∷ state (point 2_005_004 2_000_000) (point 10_008 0) ∷ []

abbrev pub ahead_trip : Trip
ahead_trip = entry_at (point 1_995_000 2_000_000) 0 5_000 ∷ entry_at (point 2_000_000 2_000_000) 1 5_004 ∷ entry_at (point 2_005_004 2_000_000) 1 0 ∷ []

-- it begins in cell 0, 0.5 mm beside cell 2, and has that behind it after the tick
abbrev pub going_aside : List State
going_aside = steady (point 1_000_000 3_999_500) (point 10_000 1_000) 1

abbrev pub aside_trip : Trip
aside_trip = entry_at (point 1_000_000 3_999_500) 0 10_050 ∷ entry_at (point 1_010_000 4_000_500) 2 0 ∷ []

-- ---- an octagon of the end of an interval alone

-- of interval i of k ticks the numbers at its last tick, with the body
abbrev pub end_numbers : AccStart → ℕ → ℕ → List ℤ
end_numbers s k i = map (λ n. reach_number s n ((i + 1) * k) +ℤ pos (disc_number n s.r)) normals

-- the car begins at the origin
abbrev pub at_origin : AccStart
at_origin = car (point 0 0) (pos 0)

-- its rear at the start
abbrev pub rear : Pt
rear = record { x = neg_ℤ (pos 1_000_000); y = pos 0 }

-- A body of these states covers the rear at tick 0, which is of interval 0 of 100 ticks. The octagon of the interval holds
-- the rear, and the octagon of its last tick doesn't.
pub record EndIsTooFar (states : List State) : Type 0 where
  pub motion : IsPlanarMotion at_origin.p at_origin.b at_origin.a at_origin.v states
  pub ticks : length states ≡ 101
  pub body : (s : State) × (slice_get states 0 ≡ Some s) × InDisc at_origin.r s.p rear
  pub held : InOctagon (interval_numbers at_origin 100 0) rear
  pub missed : InOctagon (end_numbers at_origin 100 0) rear → ⊥

-- ---- the law

pub record MotionsExist : Type 0 where
  -- a body that keeps a velocity of its box has a planar motion, if that is no faster than its greatest speed
  pub planar : (p : Pt) (b : VBox) (a v : ℤ) (w : Pt) (n : ℕ) → InBox b w → SpeedAtMost v (state p w) → IsPlanarMotion p b a v (steady p w n)
  -- the ego too, if neither coordinate of it is faster
  pub ego : (p : Pt) (b : VBox) (a v : ℤ) (w : Pt) (n : ℕ) → InBox b w → EgoSpeedAtMost v (state p w) → IsEgoMotion p b a v (steady p w n)
  -- such a list has a state for each of its n ticks, and one before
  pub each_tick : (p w : Pt) (n : ℕ) → length (steady p w n) ≡ n + 1
  -- a car drives in its cell
  pub stays : DrivesOver (car (point 1_000_000 2_000_000) (pos 0)) 10_002 staying 0 staying_trip 0
  -- a car goes ahead from cell 0 to cell 1
  pub ahead : DrivesOver (car (point 1_995_000 2_000_000) (pos 0)) 10_002 going_ahead 0 ahead_trip 1
  -- on its trip it comes to a point of the entry of cell 1
  pub on_entry : (e : Entry) × Includes ahead_trip e × (e.cell ≡ 1) × OnEntry two_lanes 1 e.at
  -- cell 0 doesn't hold its last position
  pub leaves_ahead : InCell two_lanes 0 (whole_pt (point 2_005_004 2_000_000)) → ⊥
  -- a car goes to the side from cell 0 to cell 2
  pub aside : DrivesOver (car (point 1_000_000 3_999_500) (pos 1_000)) 10_051 going_aside 0 aside_trip 2
  -- cell 0 doesn't hold its last position
  pub leaves_aside : InCell two_lanes 0 (whole_pt (point 1_010_000 4_000_500)) → ⊥
  -- a body can be where the octagon of an interval's end is not
  pub end_is_too_far : EndIsTooFar (steady at_origin.p (point 10_000 0) 100)
