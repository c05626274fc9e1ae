-- Motions by their values.
use Rattle.std.proofs.Common.{◌≡◌, inl, inr, ℕ, zero, suc, ◌+◌, arith, refl, subst, List, [], ◌∷◌, length}
use Rattle.std.proofs.lemmas.Int.{ints}
use Rattle.std.specs.Prelude.{ℤ, pos, ◌+ℤ◌, Some, slice_get}
use Rattle.spot_terms.specs.Cells.{NetCell, cells, corners_of, part_count}
use Rattle.spot_terms.specs.EgoMotions.{EgoTick, EgoSpeedAtMost, IsEgoMotion}
use Rattle.spot_terms.specs.Hull.{FractionPt, whole_pt, InHullAt}
use Rattle.spot_terms.specs.LaneMotions.{InCell, OnEntry}
use Rattle.spot_terms.specs.LanePolygons.{add_pt}
use Rattle.spot_terms.specs.Lists.{numbers_below}
use Rattle.spot_terms.specs.Motions.{State, Steps, Ticks, PlanarTick, SpeedAtMost, InBox, IsPlanarMotion}
use Rattle.spot_terms.specs.Network.{IsAhead, IsSide, within}
use Rattle.spot_terms.specs.Reach.{interval_numbers, interval_number, greatest_reach, reach_number, speed_number, box_number, disc_number, InOctagon}
use Rattle.spot_terms.specs.Whole.{root_ceiling, root_floor}
use Rattle.spot_terms.specs.declared.network.Origin.TheVariants.{Part}
use Rattle.spot_terms.specs.declared.plain.Pt.{Pt}
use Rattle.spot_terms.specs.declared.plain.VBox.{VBox}
use Rattle.spot_terms.proofs.HullLaws.{hull_laws}
use Rattle.spot_terms.specs.SomeMotions.{state, steady, point, right_lane, left_lane, two_lanes, car, DrivesOver, staying, staying_trip, going_ahead, ahead_trip, going_aside, aside_trip, end_numbers, at_origin, rear, EndIsTooFar, MotionsExist}
use Rattle.spot_terms.proofs.Orders.{minus_itself}

-- ---- bodies that keep their velocity

keeps_pace : (p v : ℤ) → Ticks p v (p +ℤ v) v
keeps_pace p v = omega (arith, ints)

planar_tick : (a : ℤ) (p w : Pt) → PlanarTick a (state p w) (state (add_pt p w) w)
planar_tick a p w = record {
  x = keeps_pace p.x w.x;
  y = keeps_pace p.y w.y;
  bounded = rw (minus_itself w.x, minus_itself w.y) (omega arith);
}

ego_tick : (a : ℤ) (p w : Pt) → EgoTick a (state p w) (state (add_pt p w) w)
ego_tick a p w = record {
  x = keeps_pace p.x w.x;
  y = keeps_pace p.y w.y;
  x_bounded = rw (minus_itself w.x) (omega arith);
  y_bounded = rw (minus_itself w.y) (omega arith);
}

steps : (step : State → State → Type 0) (bound : State → Type 0) (w : Pt) → ((p : Pt) → step (state p w) (state (add_pt p w) w)) → ((p : Pt) → bound (state p w)) → (p : Pt) (n : ℕ) → Steps step bound (steady p w n)
steps step bound w each all p zero = all p
steps step bound w each all p (suc zero) = (all p, each p, all (add_pt p w))
steps step bound w each all p (suc (suc n)) = (all p, each p, steps step bound w each all (add_pt p w) (suc n))

planar_one : (p : Pt) (b : VBox) (a v : ℤ) (w : Pt) (n : ℕ) → InBox b w → SpeedAtMost v (state p w) → IsPlanarMotion p b a v (steady p w n)
planar_one p b a v w zero box fast = record { start = (refl, box); ticks = fast }
planar_one p b a v w (suc n) box fast = record { start = (refl, box); ticks = steps (PlanarTick a) (SpeedAtMost v) w (λ q. planar_tick a q w) (λ q. fast) p (suc n) }

ego_one : (p : Pt) (b : VBox) (a v : ℤ) (w : Pt) (n : ℕ) → InBox b w → EgoSpeedAtMost v (state p w) → IsEgoMotion p b a v (steady p w n)
ego_one p b a v w zero box slow = record { start = (refl, box); ticks = slow }
ego_one p b a v w (suc n) box slow = record { start = (refl, box); ticks = steps (EgoTick a) (EgoSpeedAtMost v) w (λ q. ego_tick a q w) (λ q. record { x = slow.x; y = slow.y }) p (suc n) }

ticks_of : (p w : Pt) (n : ℕ) → length (steady p w n) ≡ n + 1
ticks_of p w zero = refl
ticks_of p w (suc n) = let rest = ticks_of (add_pt p w) w n in omega (arith, rest)

-- ---- the road

abbrev cell : ℕ → ℕ → ℕ → ℕ → NetCell
cell lane piece x y = record {
  origin = Part lane piece 0 1;
  entry = (point x (y + 4_000_000), point x y);
  exit = (point (x + 2_000_000) (y + 4_000_000), point (x + 2_000_000) y);
}

cell_0 : slice_get (cells two_lanes) 0 ≡ Some (cell 0 0 0 0)
unfolding cells numbers_below part_count root_ceiling root_floor
cell_0 = refl

cell_1 : slice_get (cells two_lanes) 1 ≡ Some (cell 0 1 2_000_000 0)
unfolding cells numbers_below part_count root_ceiling root_floor
cell_1 = refl

cell_2 : slice_get (cells two_lanes) 2 ≡ Some (cell 1 0 0 4_000_000)
unfolding cells numbers_below part_count root_ceiling root_floor
cell_2 = refl

is_ahead : IsAhead two_lanes (cells two_lanes) 0 1
is_ahead = within {e = 0} cell_0 cell_1 (omega arith) refl refl

is_side : IsSide two_lanes (cells two_lanes) 0 2
is_side = record {
  e = 0;
  f = 1;
  l = right_lane;
  m = left_lane;
  a = cell 0 0 0 0;
  b = cell 1 0 0 4_000_000;
  c_is = cell_0;
  d_is = cell_2;
  e_is = (refl, refl);
  f_is = (refl, refl);
  neighbours = refl;
  beside = λ same. (refl, omega arith, omega arith);
}

-- weights of the left and the right entry point, and of the left and the right exit point
abbrev four : ℕ → ℕ → ℕ → ℕ → List ℕ
four a b c d = a ∷ b ∷ c ∷ d ∷ []

-- ---- a car that stays

middle : InCell two_lanes 0 (whole_pt (point 1_000_000 2_000_000))
middle = (cell 0 0 0 0, cell_0, omega arith, record { weights = four 1 1 1 1; each = refl; some = omega arith; x = refl; y = refl })

further : InCell two_lanes 0 (whole_pt (point 1_010_000 2_000_000))
further = (cell 0 0 0 0, cell_0, omega arith, record { weights = four 99 99 101 101; each = refl; some = omega arith; x = refl; y = refl })

stays_one : DrivesOver (car (point 1_000_000 2_000_000) (pos 0)) 10_002 staying 0 staying_trip 0
stays_one = record {
  motion = record {
    road = (state (point 1_000_000 2_000_000) (point 10_000 0), 10_000) ∷ (state (point 1_010_000 2_000_000) (point 10_000 0), 10_000) ∷ [];
    states_are = refl;
    planar = planar_one (point 1_000_000 2_000_000) _ (pos 8) (pos 70000) (point 10_000 0) 1 (record { x = record { low = omega (arith, ints); high = omega (arith, ints) }; y = record { low = omega (arith, ints); high = omega (arith, ints) } }) (omega (arith, ints));
    slow = omega arith;
    start_cell = 0;
    in_start = middle;
    trips = staying_trip ∷ [];
    drives = (omega arith, omega arith, omega arith, omega arith, (0, (refl, refl, (middle, (omega (arith, ints), inl refl), (further, refl, refl))), (omega arith, refl)));
  };
  starts = refl;
  trips_are = refl;
  ends = refl;
}

-- ---- a car that goes ahead

before_entry : InCell two_lanes 0 (whole_pt (point 1_995_000 2_000_000))
before_entry = (cell 0 0 0 0, cell_0, omega arith, record { weights = four 1 1 399 399; each = refl; some = omega arith; x = refl; y = refl })

at_entry : InCell two_lanes 1 (whole_pt (point 2_000_000 2_000_000))
at_entry = (cell 0 1 2_000_000 0, cell_1, omega arith, record { weights = four 1 1 0 0; each = refl; some = omega arith; x = refl; y = refl })

behind_entry : InCell two_lanes 1 (whole_pt (point 2_005_004 2_000_000))
behind_entry = (cell 0 1 2_000_000 0, cell_1, omega arith, record { weights = four 498749 498749 1251 1251; each = refl; some = omega arith; x = refl; y = refl })

entered : OnEntry two_lanes 1 (whole_pt (point 2_000_000 2_000_000))
entered = (cell 0 1 2_000_000 0, cell_1, record { weights = 1 ∷ 1 ∷ []; each = refl; some = omega arith; x = refl; y = refl })

ahead_one : DrivesOver (car (point 1_995_000 2_000_000) (pos 0)) 10_002 going_ahead 0 ahead_trip 1
ahead_one = record {
  motion = record {
    road = (state (point 1_995_000 2_000_000) (point 10_000 0), 10_000) ∷ (state (point 2_005_004 2_000_000) (point 10_008 0), 10_008) ∷ [];
    states_are = refl;
    planar = record {
      start = (refl, record { x = record { low = omega (arith, ints); high = omega (arith, ints) }; y = record { low = omega (arith, ints); high = omega (arith, ints) } });
      ticks = (omega (arith, ints), record { x = omega (arith, ints); y = omega (arith, ints); bounded = omega (arith, ints) }, omega (arith, ints));
    };
    slow = omega arith;
    start_cell = 0;
    in_start = before_entry;
    trips = ahead_trip ∷ [];
    drives = (omega arith, omega arith, omega arith, omega arith, (1, (refl, refl, (before_entry, (omega (arith, ints), inr (inr (is_ahead, entered))), (at_entry, (omega (arith, ints), inl refl), (behind_entry, refl, refl)))), (omega arith, refl)));
  };
  starts = refl;
  trips_are = refl;
  ends = refl;
}

-- ---- a car that goes to the side

beside : InCell two_lanes 0 (whole_pt (point 1_000_000 3_999_500))
beside = (cell 0 0 0 0, cell_0, omega arith, record { weights = four 7999 1 7999 1; each = refl; some = omega arith; x = refl; y = refl })

across : InCell two_lanes 2 (whole_pt (point 1_010_000 4_000_500))
across = (cell 1 0 0 4_000_000, cell_2, omega arith, record { weights = four 99 791901 101 807899; each = refl; some = omega arith; x = refl; y = refl })

aside_one : DrivesOver (car (point 1_000_000 3_999_500) (pos 1_000)) 10_051 going_aside 0 aside_trip 2
aside_one = record {
  motion = record {
    road = (state (point 1_000_000 3_999_500) (point 10_000 1_000), 10_050) ∷ (state (point 1_010_000 4_000_500) (point 10_000 1_000), 10_050) ∷ [];
    states_are = refl;
    planar = planar_one (point 1_000_000 3_999_500) _ (pos 8) (pos 70000) (point 10_000 1_000) 1 (record { x = record { low = omega (arith, ints); high = omega (arith, ints) }; y = record { low = omega (arith, ints); high = omega (arith, ints) } }) (omega (arith, ints));
    slow = omega arith;
    start_cell = 0;
    in_start = beside;
    trips = aside_trip ∷ [];
    drives = (omega arith, omega arith, omega arith, omega arith, (2, (refl, refl, (beside, (omega (arith, ints), inr (inl is_side)), (across, refl, refl))), (omega arith, refl)));
  };
  starts = refl;
  trips_are = refl;
  ends = refl;
}

-- ---- the cells that are left

some_cell : (a b : NetCell) → slice_get (cells two_lanes) 0 ≡ Some a → slice_get (cells two_lanes) 0 ≡ Some b → a ≡ b
some_cell a b e f = cc

in_first : (q : FractionPt) → InCell two_lanes 0 q → InHullAt (corners_of (cell 0 0 0 0)) q
in_first q (a, is, some, held) = subst (λ (c : NetCell). InHullAt (corners_of c) q) (some_cell a (cell 0 0 0 0) is cell_0) held

-- cell 0 ends at 2 m along x
leaves_ahead_one : InCell two_lanes 0 (whole_pt (point 2_005_004 2_000_000)) → ⊥
leaves_ahead_one h =
    let q : FractionPt = whole_pt (point 2_005_004 2_000_000) in
    let low = hull_laws.bounded (pos 1) (pos 0) (pos 2_000_000) (corners_of (cell 0 0 0 0)) q (omega (arith, ints), (omega (arith, ints), (omega (arith, ints), (omega (arith, ints), tt)))) (in_first q h) in
    absurd (omega (arith, ints, low))

-- and at 4 m along y
leaves_aside_one : InCell two_lanes 0 (whole_pt (point 1_010_000 4_000_500)) → ⊥
leaves_aside_one h =
    let q : FractionPt = whole_pt (point 1_010_000 4_000_500) in
    let low = hull_laws.bounded (pos 0) (pos 1) (pos 4_000_000) (corners_of (cell 0 0 0 0)) q (omega (arith, ints), (omega (arith, ints), (omega (arith, ints), (omega (arith, ints), tt)))) (in_first q h) in
    absurd (omega (arith, ints, low))

-- ---- the octagon of the end

held_one : InOctagon (interval_numbers at_origin 100 0) rear
unfolding interval_numbers interval_number greatest_reach reach_number speed_number box_number disc_number root_floor
held_one = (omega (arith, ints), (omega (arith, ints), (omega (arith, ints), (omega (arith, ints), (omega (arith, ints), (omega (arith, ints), (omega (arith, ints), (omega (arith, ints), tt))))))))

missed_one : InOctagon (end_numbers at_origin 100 0) rear → ⊥
unfolding reach_number speed_number box_number disc_number root_floor
missed_one h = let behind = h.1.1.1.1.0 in absurd (omega (arith, ints, behind))

end_one : EndIsTooFar (steady at_origin.p (point 10_000 0) 100)
end_one = record {
  motion = planar_one at_origin.p at_origin.b at_origin.a at_origin.v (point 10_000 0) 100 (record { x = record { low = omega (arith, ints); high = omega (arith, ints) }; y = record { low = omega (arith, ints); high = omega (arith, ints) } }) (omega (arith, ints));
  ticks = ticks_of at_origin.p (point 10_000 0) 100;
  body = (state at_origin.p (point 10_000 0), refl, omega (arith, ints));
  held = held_one;
  missed = missed_one;
}

-- ---- the law

pub motions_exist : MotionsExist
motions_exist = record {
  planar = planar_one;
  ego = ego_one;
  each_tick = ticks_of;
  stays = stays_one;
  ahead = ahead_one;
  on_entry = (_, inr (inl refl), refl, entered);
  leaves_ahead = leaves_ahead_one;
  aside = aside_one;
  leaves_aside = leaves_aside_one;
  end_is_too_far = end_one;
}
