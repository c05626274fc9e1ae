-- The pieces of the first ticks of a drive sum to at most the reach length.
use Rattle.std.proofs.Common.{◌≡◌, ℕ, zero, suc, ◌+◌, ◌-◌, ◌*◌, ◌≤◌, arith, refl, List, [], ◌∷◌, take, zero-add, add-zero}
use Rattle.std.proofs.lemmas.List.Sums.{sum_by-cons}
use Rattle.std.specs.Prelude.{max, min, sum_by}
use Rattle.spot_terms.specs.Cells.{Lane}
use Rattle.spot_terms.specs.LaneMotions.{Trip, trip_length, RoadState, Drives}
use Rattle.spot_terms.specs.LanePolygons.{reach_length}
use Rattle.lane_occupancy.specs.Laws.{BoundsPieces}

-- ---- the reach length

pub reach_length-suc : (s0 a v k : ℕ) → reach_length s0 a v (suc k) ≡ reach_length s0 a v k + min (s0 + suc k * a) v
unfolding reach_length
reach_length-suc s0 a v k = refl

reach_more : (s0 a v k j : ℕ) → reach_length s0 a v k ≤ reach_length s0 a v (j + k)
reach_more s0 a v k zero = rw zero-add (omega arith)
reach_more s0 a v k (suc j) = let e : suc j + k ≡ suc (j + k) = omega arith in rw e (omega (arith, reach_length-suc s0 a v (j + k), reach_more s0 a v k j))

-- more ticks, no lesser reach length
pub reach_length_le : (s0 a v k m : ℕ) → k ≤ m → reach_length s0 a v k ≤ reach_length s0 a v m
reach_length_le s0 a v k m h = let (j, e) = past k m h in rw e (reach_more s0 a v k j)
  where
    past : (x y : ℕ) → x ≤ y → (j : ℕ) × (y ≡ j + x)
    past x y g = (y - x, omega arith)

-- ---- the pieces of the first ticks

-- the pieces of the first k ticks, one after another
abbrev pub pieces : ℕ → List Trip → ℕ
pieces k trips = sum_by trip_length (take k trips)

pub pieces-cons : (k : ℕ) (trip : Trip) (trips : List Trip) → pieces (suc k) (trip ∷ trips) ≡ trip_length trip + pieces k trips
pieces-cons k trip trips = sum_by-cons trip_length trip (take k trips)

-- a state's speed is within its bound
slow : (lanes : List Lane) (a v c : ℕ) (s : RoadState) (states : List RoadState) (trips : List Trip) → Drives lanes a v c (s ∷ states) trips → s.1 ≤ v
slow lanes a v c s [] [] d = d.0
slow lanes a v c s (t ∷ states) [] d = d.0
slow lanes a v c s [] (trip ∷ trips) d = absurd d
slow lanes a v c s (t ∷ states) (trip ∷ trips) d = d.0

-- the speeds x and y at the ends of a tick
tick_le : (s0 a v j x y : ℕ) → x ≤ s0 + j * a → y ≤ x + a → x ≤ v → y ≤ v → (y ≤ s0 + suc j * a) × (max x y ≤ min (s0 + suc j * a) v)
tick_le s0 a v j x y f g e k = (omega arith, omega arith)

-- from tick j on, k ticks: by no more than the reach length grows
pub pieces_le : (lanes : List Lane) (s0 a v j c : ℕ) (s : RoadState) (states : List RoadState) (trips : List Trip) (k : ℕ)
    → Drives lanes a v c (s ∷ states) trips → s.1 ≤ s0 + j * a → pieces k trips + reach_length s0 a v j ≤ reach_length s0 a v (j + k)
pieces_le lanes s0 a v j c s states trips zero d g = rw add-zero (omega arith)
pieces_le lanes s0 a v j c s states [] (suc k) d g = omega (arith, reach_length_le s0 a v j (j + suc k) (omega arith))
pieces_le lanes s0 a v j c s [] (trip ∷ trips) (suc k) d g = absurd d
pieces_le lanes s0 a v j c s (t ∷ states) (trip ∷ trips) (suc k) d g =
    let tick = tick_le s0 a v j s.1 t.1 g d.1 d.0 (slow lanes a v d.4.0 t states trips d.4.2) in
    let rest = pieces_le lanes s0 a v (suc j) d.4.0 t states trips k d.4.2 tick.0 in
    sums (trip_length trip) (pieces k trips) (pieces (suc k) (trip ∷ trips)) (max s.1 t.1) (pieces-cons k trip trips) d.3 tick.1 rest
  where
    shifted : suc j + k ≡ j + suc k
    shifted = omega arith

    sums : (l n m w : ℕ) → m ≡ l + n → l ≤ w → w ≤ min (s0 + suc j * a) v → n + reach_length s0 a v (suc j) ≤ reach_length s0 a v (suc j + k) → m + reach_length s0 a v j ≤ reach_length s0 a v (j + suc k)
    sums l n m w e f h r = let r2 : n + reach_length s0 a v (suc j) ≤ reach_length s0 a v (j + suc k) = rw shifted at r in omega (arith, reach_length-suc s0 a v j)

-- the reach length bounds the pieces of the first ticks of each drive
pub bounds_pieces : (speed a v k : ℕ) → BoundsPieces speed a v k (reach_length speed a v k)
bounds_pieces speed a v k lanes c [] trips d g = absurd g
bounds_pieces speed a v k lanes c (s ∷ states) trips d g =
    let h : pieces k trips + reach_length speed a v 0 ≤ reach_length speed a v k = rw zero-add at (pieces_le lanes speed a v 0 c s states trips k d (omega arith)) in
    omega arith
