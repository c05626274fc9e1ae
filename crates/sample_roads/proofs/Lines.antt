-- The lines of the profile that look at children and texts, at the sample.
use Rattle.std.proofs.Common.{◌≡◌, ℕ, ◌+◌, ◌*◌, ◌-◌, ◌%◌, ◌<◌, ◌≤◌, List, [], ◌∷◌, ◌++◌, map, refl, arith, codes, decimal, lit<}
use Rattle.std.specs.List.{AllByRecursion}
use Rattle.std.proofs.Math.Nat.{mod-lt}
use Rattle.spot_terms.specs.Lists.{numbers_from}
use Rattle.spot_terms.specs.Decimal.{fraction_of}
use Rattle.spot_claims.specs.Paths.{each_child, first_child, Path, lanelets, statics, dynamics, problems}
use Rattle.spot_claims.specs.Profile as profile
use Rattle.spot_claims.specs.Profile.{Check, Number, is_number, coordinate, x_and_y, left_point, right_point}
use Rattle.spot_terms.specs.Samples.{Made, leaf}
use Rattle.spot_terms.specs.Samples.{draw, tenths, hundredths, point, lanelet, mover, problem, roads}
use Rattle.sample_roads.proofs.TreeLayer.{said, walk_made}
use Rattle.sample_roads.proofs.Numbers.{Fits, fits_coordinate, fits_size, fits_angle, fits_speed, fits_step}
use Rattle.sample_roads.proofs.Tables.{bounds, metres_read, speed_reads, side_reads, middle_reads}
use Rattle.sample_roads.proofs.Passing.{AllPass, LinePasses, Passes}
use Rattle.sample_roads.proofs.Found.{from_found, found_lanelets, found_dynamics, found_statics, found_problems}

-- ---- numbers

number_passes : (n : Number) (name text : List ℕ) → Fits n (said (leaf name text)) → AllByRecursion (Passes (leaf name text)) (is_number n)
number_passes n name text f = (f.good, (f, tt))

fit_metres : (n : ℕ) → n ≤ 400 → Fits coordinate (said (leaf [] (decimal n)))
fit_metres n h = fits_coordinate (said (leaf [] (decimal n))) (1_000_000 * n) (metres_read n h) (omega arith)

fit_side : (j : ℕ) → j ≤ 8 → Fits coordinate (said (leaf [] (tenths (35 * j))))
fit_side j h = fits_coordinate (said (leaf [] (tenths (35 * j)))) (3_500_000 * j) (side_reads j h) (omega arith)

fit_middle : (j : ℕ) → j ≤ 7 → Fits coordinate (said (leaf [] (hundredths (350 * j + 175))))
fit_middle j h = fits_coordinate (said (leaf [] (hundredths (350 * j + 175)))) (3_500_000 * j + 1_750_000) (middle_reads j h) (omega arith)

fit_speed : (n : ℕ) → n ≤ 35 → Fits profile.speed (said (leaf [] (decimal n)))
fit_speed n h = fits_speed (said (leaf [] (decimal n))) (1_000 * n) (speed_reads n h) (omega arith)

below : (seed k n : ℕ) → 0 < n → draw seed k n < n
below seed k n h = mod-lt _ h

draw_below : (seed k n : ℕ) → 0 < n → draw seed k n ≤ n
draw_below seed k n h = let l : draw seed k n < n = below seed k n h in omega arith

fit_length : Fits profile.size (said (leaf [] (codes "4.5")))
unfolding fraction_of
fit_length = fits_size (said (leaf [] (codes "4.5"))) 4_500_000 refl (omega arith)

fit_width : Fits profile.size (said (leaf [] (codes "1.8")))
unfolding fraction_of
fit_width = fits_size (said (leaf [] (codes "1.8"))) 1_800_000 refl (omega arith)

fit_x : Fits coordinate (said (leaf [] (codes "200")))
unfolding fraction_of
fit_x = fits_coordinate (said (leaf [] (codes "200"))) 200_000_000 refl (omega arith)

fit_y : Fits coordinate (said (leaf [] (codes "1.75")))
unfolding fraction_of
fit_y = fits_coordinate (said (leaf [] (codes "1.75"))) 1_750_000 refl (omega arith)

fit_angle : Fits profile.angle (said (leaf [] (codes "0")))
unfolding fraction_of
fit_angle = fits_angle (said (leaf [] (codes "0"))) 0 refl (omega arith)

fit_thirty : Fits profile.speed (said (leaf [] (codes "30")))
unfolding fraction_of
fit_thirty = fits_speed (said (leaf [] (codes "30"))) 30_000 refl (omega arith)

fit_time : Fits profile.step_number (said (leaf [] (codes "0")))
unfolding fraction_of
fit_time = fits_step (said (leaf [] (codes "0"))) 0 refl (omega arith)

-- ---- a sample

module _ (seed lanes movers : ℕ) (some : 0 < lanes) (few : lanes ≤ 8) where
  by_lanelets : (checks : List Check) (w : Path) → ((j : ℕ) → 1 ≤ j → j ≤ lanes → AllPass checks (walk_made w (lanelet lanes j ∷ []))) → AllPass checks (walk_made w (walk_made lanelets (roads seed lanes movers ∷ [])))
  by_lanelets checks w h = from_found checks w (walk_made lanelets (roads seed lanes movers ∷ [])) (lanelet lanes) (numbers_from 1 lanes) (found_lanelets seed lanes movers) (λ j i. let r = bounds 1 lanes j i in h j r.0 (omega (arith, r.1)))

  by_movers : (checks : List Check) (w : Path) → ((m : ℕ) → AllPass checks (walk_made w (mover seed lanes m ∷ []))) → AllPass checks (walk_made w (walk_made dynamics (roads seed lanes movers ∷ [])))
  by_movers checks w h = from_found checks w (walk_made dynamics (roads seed lanes movers ∷ [])) (mover seed lanes) (numbers_from 0 movers) (found_dynamics seed lanes movers) (λ m i. h m)

  by_statics : (checks : List Check) (w : Path) → AllPass checks (walk_made w (walk_made statics (roads seed lanes movers ∷ [])))
  by_statics checks w = from_found checks w (walk_made statics (roads seed lanes movers ∷ [])) (mover seed lanes) [] (found_statics seed lanes movers) (λ m i. absurd i)

  by_problem : (checks : List Check) (w : Path) → AllPass checks (walk_made w (problem ∷ [])) → AllPass checks (walk_made w (walk_made problems (roads seed lanes movers ∷ [])))
  by_problem checks w h = from_found checks w (walk_made problems (roads seed lanes movers ∷ [])) (λ _. problem) (0 ∷ []) (found_problems seed lanes movers) (λ m i. h)

  lane_below : (m : ℕ) → m % lanes ≤ 7
  lane_below m = let h : m % lanes < lanes = mod-lt m some in omega arith

  speed_below : (m : ℕ) → 20 + draw seed (2 * m + 2) 16 ≤ 35
  speed_below m = let h : draw seed (2 * m + 2) 16 < 16 = below seed (2 * m + 2) 16 (lit< tt) in omega arith

  -- ---- lanelets

  left_points : (j : ℕ) → walk_made left_point (lanelet lanes j ∷ []) ≡ map (λ k. point (decimal (10 * k)) (tenths (35 * j))) (numbers_from 0 41)
  left_points j = refl

  right_points : (j : ℕ) → walk_made right_point (lanelet lanes j ∷ []) ≡ map (λ k. point (decimal (10 * k)) (tenths (35 * (j - 1)))) (numbers_from 0 41)
  right_points j = refl

  on_points : (checks : List Check) (w : Path) (y : List ℕ) (ms : List Made) → ms ≡ map (λ k. point (decimal (10 * k)) y) (numbers_from 0 41) → ((k : ℕ) → k ≤ 40 → AllPass checks (walk_made w (point (decimal (10 * k)) y ∷ []))) → AllPass checks (walk_made w ms)
  on_points checks w y ms e h = from_found checks w ms (λ k. point (decimal (10 * k)) y) (numbers_from 0 41) e (λ k i. let r = bounds 0 41 k i in h k (omega (arith, r.1)))

  pub line_2 : LinePasses (roads seed lanes movers) profile.bound_point_line
  line_2 = (
    (
      by_lanelets x_and_y left_point (λ j l h. on_points x_and_y [] (tenths (35 * j)) (walk_made left_point (lanelet lanes j ∷ [])) (left_points j) (λ k i. ((refl, tt), tt))),
      (by_lanelets x_and_y right_point (λ j l h. on_points x_and_y [] (tenths (35 * (j - 1))) (walk_made right_point (lanelet lanes j ∷ [])) (right_points j) (λ k i. ((refl, tt), tt))), tt),
    ),
    tt,
  )

  x_of_points : (y : List ℕ) (ms : List Made) → ms ≡ map (λ k. point (decimal (10 * k)) y) (numbers_from 0 41) → AllPass (is_number coordinate) (walk_made (first_child (codes "x") ∷ []) ms)
  x_of_points y ms e = on_points (is_number coordinate) (first_child (codes "x") ∷ []) y ms e (λ k i. (number_passes coordinate (codes "x") (decimal (10 * k)) (fit_metres (10 * k) (omega arith)), tt))

  y_of_points : (j : ℕ) → j ≤ 8 → (ms : List Made) → ms ≡ map (λ k. point (decimal (10 * k)) (tenths (35 * j))) (numbers_from 0 41) → AllPass (is_number coordinate) (walk_made (first_child (codes "y") ∷ []) ms)
  y_of_points j h ms e = on_points (is_number coordinate) (first_child (codes "y") ∷ []) (tenths (35 * j)) ms e (λ k i. (number_passes coordinate (codes "y") (tenths (35 * j)) (fit_side j h), tt))

  pub line_17 : LinePasses (roads seed lanes movers) profile.bound_number_line
  line_17 = (
    (
      by_lanelets (is_number coordinate) (left_point ++ first_child (codes "x") ∷ []) (λ j l h. x_of_points (tenths (35 * j)) (walk_made left_point (lanelet lanes j ∷ [])) (left_points j)),
      (
        by_lanelets (is_number coordinate) (left_point ++ first_child (codes "y") ∷ []) (λ j l h. y_of_points j (omega arith) (walk_made left_point (lanelet lanes j ∷ [])) (left_points j)),
        (
          by_lanelets (is_number coordinate) (right_point ++ first_child (codes "x") ∷ []) (λ j l h. x_of_points (tenths (35 * (j - 1))) (walk_made right_point (lanelet lanes j ∷ [])) (right_points j)),
          (by_lanelets (is_number coordinate) (right_point ++ first_child (codes "y") ∷ []) (λ j l h. y_of_points (j - 1) (omega arith) (walk_made right_point (lanelet lanes j ∷ [])) (right_points j)), tt),
        ),
      ),
    ),
    tt,
  )

  -- ---- shapes

  pub line_4 : LinePasses (roads seed lanes movers) profile.shape_line
  line_4 = ((by_statics profile.shape_line.checks (profile.shape), tt), ((by_movers profile.shape_line.checks (profile.shape) (λ m. ((refl, tt), tt)), tt), tt))

  pub line_5 : LinePasses (roads seed lanes movers) profile.rectangle_line
  line_5 = ((by_statics profile.rectangle_line.checks (profile.rectangle), tt), ((by_movers profile.rectangle_line.checks (profile.rectangle) (λ m. ((refl, tt), tt)), tt), tt))

  pub line_6 : LinePasses (roads seed lanes movers) profile.circle_line
  line_6 = ((by_statics profile.circle_line.checks (profile.circle), tt), ((by_movers profile.circle_line.checks (profile.circle) (λ m. tt), tt), tt))

  pub line_7 : LinePasses (roads seed lanes movers) profile.polygon_line
  line_7 = ((by_statics profile.polygon_line.checks (profile.polygon), tt), ((by_movers profile.polygon_line.checks (profile.polygon) (λ m. tt), tt), tt))

  pub line_8 : LinePasses (roads seed lanes movers) profile.shape_point_line
  line_8 = ((by_statics profile.shape_point_line.checks (profile.corner), (by_statics profile.shape_point_line.checks (profile.rectangle_center), (by_statics profile.shape_point_line.checks (profile.circle_center), tt))), ((by_movers profile.shape_point_line.checks (profile.corner) (λ m. tt), (by_movers profile.shape_point_line.checks (profile.rectangle_center) (λ m. tt), (by_movers profile.shape_point_line.checks (profile.circle_center) (λ m. tt), tt))), tt))

  pub line_19 : LinePasses (roads seed lanes movers) profile.shape_number_line
  line_19 = ((by_statics profile.shape_number_line.checks (profile.to_first profile.corner (codes "x")), (by_statics profile.shape_number_line.checks (profile.to_first profile.corner (codes "y")), (by_statics profile.shape_number_line.checks (profile.to_first profile.rectangle_center (codes "x")), (by_statics profile.shape_number_line.checks (profile.to_first profile.rectangle_center (codes "y")), (by_statics profile.shape_number_line.checks (profile.to_first profile.circle_center (codes "x")), (by_statics profile.shape_number_line.checks (profile.to_first profile.circle_center (codes "y")), tt)))))), ((by_movers profile.shape_number_line.checks (profile.to_first profile.corner (codes "x")) (λ m. tt), (by_movers profile.shape_number_line.checks (profile.to_first profile.corner (codes "y")) (λ m. tt), (by_movers profile.shape_number_line.checks (profile.to_first profile.rectangle_center (codes "x")) (λ m. tt), (by_movers profile.shape_number_line.checks (profile.to_first profile.rectangle_center (codes "y")) (λ m. tt), (by_movers profile.shape_number_line.checks (profile.to_first profile.circle_center (codes "x")) (λ m. tt), (by_movers profile.shape_number_line.checks (profile.to_first profile.circle_center (codes "y")) (λ m. tt), tt)))))), tt))

  pub line_20 : LinePasses (roads seed lanes movers) profile.size_line
  line_20 = ((by_statics profile.size_line.checks (profile.to_first profile.rectangle (codes "length")), (by_statics profile.size_line.checks (profile.to_first profile.rectangle (codes "width")), (by_statics profile.size_line.checks (profile.to_first profile.circle (codes "radius")), tt))), ((by_movers profile.size_line.checks (profile.to_first profile.rectangle (codes "length")) (λ m. (number_passes profile.size (codes "length") (codes "4.5") fit_length, tt)), (by_movers profile.size_line.checks (profile.to_first profile.rectangle (codes "width")) (λ m. (number_passes profile.size (codes "width") (codes "1.8") fit_width, tt)), (by_movers profile.size_line.checks (profile.to_first profile.circle (codes "radius")) (λ m. tt), tt))), tt))

  -- ---- states

  pub line_9 : LinePasses (roads seed lanes movers) profile.fixed_start_line
  line_9 = ((by_statics profile.fixed_start_line.checks (first_child (codes "initialState") ∷ []), tt), tt)

  pub line_10 : LinePasses (roads seed lanes movers) profile.moving_start_line
  line_10 = ((by_movers profile.moving_start_line.checks (first_child (codes "initialState") ∷ []) (λ m. ((refl, tt), tt)), tt), ((by_problem profile.moving_start_line.checks (first_child (codes "initialState") ∷ []) ((refl, tt), tt), tt), tt))

  pub line_11 : LinePasses (roads seed lanes movers) profile.recorded_line
  line_11 = ((by_movers profile.recorded_line.checks (first_child (codes "trajectory") ∷ each_child (codes "state") ∷ []) (λ m. tt), tt), tt)

  pub line_12 : LinePasses (roads seed lanes movers) profile.position_line
  line_12 = ((by_statics profile.position_line.checks (first_child (codes "initialState") ∷ profile.position), tt), ((by_movers profile.position_line.checks (first_child (codes "initialState") ∷ profile.position) (λ m. ((refl, tt), tt)), tt), ((by_problem profile.position_line.checks (first_child (codes "initialState") ∷ profile.position) ((refl, tt), tt), tt), ((by_movers profile.position_line.checks (first_child (codes "trajectory") ∷ each_child (codes "state") ∷ profile.position) (λ m. tt), tt), tt))))

  pub line_13 : LinePasses (roads seed lanes movers) profile.position_point_line
  line_13 = ((by_statics profile.position_point_line.checks (first_child (codes "initialState") ∷ profile.position_point), tt), ((by_movers profile.position_point_line.checks (first_child (codes "initialState") ∷ profile.position_point) (λ m. ((refl, tt), tt)), tt), ((by_problem profile.position_point_line.checks (first_child (codes "initialState") ∷ profile.position_point) ((refl, tt), tt), tt), ((by_movers profile.position_point_line.checks (first_child (codes "trajectory") ∷ each_child (codes "state") ∷ profile.position_point) (λ m. tt), tt), tt))))

  pub line_14 : LinePasses (roads seed lanes movers) profile.value_line
  line_14 = ((by_movers profile.value_line.checks (first_child (codes "initialState") ∷ profile.orientation) (λ m. ((refl, tt), tt)), (by_movers profile.value_line.checks (first_child (codes "initialState") ∷ profile.velocity) (λ m. ((refl, tt), tt)), (by_movers profile.value_line.checks (first_child (codes "initialState") ∷ profile.time) (λ m. ((refl, tt), tt)), tt))), ((by_problem profile.value_line.checks (first_child (codes "initialState") ∷ profile.orientation) ((refl, tt), tt), (by_problem profile.value_line.checks (first_child (codes "initialState") ∷ profile.velocity) ((refl, tt), tt), (by_problem profile.value_line.checks (first_child (codes "initialState") ∷ profile.time) ((refl, tt), tt), tt))), tt))

  pub line_15 : LinePasses (roads seed lanes movers) profile.recorded_time_line
  line_15 = ((by_movers profile.recorded_time_line.checks (first_child (codes "trajectory") ∷ each_child (codes "state") ∷ profile.time) (λ m. tt), tt), tt)

  pub line_18 : LinePasses (roads seed lanes movers) profile.position_number_line
  line_18 = ((by_statics profile.position_number_line.checks (first_child (codes "initialState") ∷ profile.to_first profile.position_point (codes "x")), (by_statics profile.position_number_line.checks (first_child (codes "initialState") ∷ profile.to_first profile.position_point (codes "y")), tt)), ((by_movers profile.position_number_line.checks (first_child (codes "initialState") ∷ profile.to_first profile.position_point (codes "x")) (λ m. (number_passes coordinate (codes "x") (decimal (draw seed (2 * m + 1) 400)) (fit_metres (draw seed (2 * m + 1) 400) (draw_below seed (2 * m + 1) 400 (lit< tt))), tt)), (by_movers profile.position_number_line.checks (first_child (codes "initialState") ∷ profile.to_first profile.position_point (codes "y")) (λ m. (number_passes coordinate (codes "y") (hundredths (350 * (m % lanes) + 175)) (fit_middle (m % lanes) (lane_below m)), tt)), tt)), ((by_problem profile.position_number_line.checks (first_child (codes "initialState") ∷ profile.to_first profile.position_point (codes "x")) (number_passes coordinate (codes "x") (codes "200") fit_x, tt), (by_problem profile.position_number_line.checks (first_child (codes "initialState") ∷ profile.to_first profile.position_point (codes "y")) (number_passes coordinate (codes "y") (codes "1.75") fit_y, tt), tt)), ((by_movers profile.position_number_line.checks (first_child (codes "trajectory") ∷ each_child (codes "state") ∷ profile.to_first profile.position_point (codes "x")) (λ m. tt), (by_movers profile.position_number_line.checks (first_child (codes "trajectory") ∷ each_child (codes "state") ∷ profile.to_first profile.position_point (codes "y")) (λ m. tt), tt)), tt))))

  pub line_21 : LinePasses (roads seed lanes movers) profile.orientation_line
  line_21 = ((by_movers profile.orientation_line.checks (first_child (codes "initialState") ∷ profile.to_first profile.orientation (codes "exact")) (λ m. (number_passes profile.angle (codes "exact") (codes "0") fit_angle, tt)), tt), ((by_problem profile.orientation_line.checks (first_child (codes "initialState") ∷ profile.to_first profile.orientation (codes "exact")) (number_passes profile.angle (codes "exact") (codes "0") fit_angle, tt), tt), tt))

  pub line_22 : LinePasses (roads seed lanes movers) profile.velocity_line
  line_22 = ((by_movers profile.velocity_line.checks (first_child (codes "initialState") ∷ profile.to_first profile.velocity (codes "exact")) (λ m. (number_passes profile.speed (codes "exact") (decimal (20 + draw seed (2 * m + 2) 16)) (fit_speed (20 + draw seed (2 * m + 2) 16) (speed_below m)), tt)), tt), ((by_problem profile.velocity_line.checks (first_child (codes "initialState") ∷ profile.to_first profile.velocity (codes "exact")) (number_passes profile.speed (codes "exact") (codes "30") fit_thirty, tt), tt), tt))

  pub line_23 : LinePasses (roads seed lanes movers) profile.time_line
  line_23 = ((by_movers profile.time_line.checks (first_child (codes "initialState") ∷ profile.to_first profile.time (codes "exact")) (λ m. (number_passes profile.step_number (codes "exact") (codes "0") fit_time, tt)), tt), ((by_problem profile.time_line.checks (first_child (codes "initialState") ∷ profile.to_first profile.time (codes "exact")) (number_passes profile.step_number (codes "exact") (codes "0") fit_time, tt), tt), ((by_movers profile.time_line.checks (first_child (codes "trajectory") ∷ each_child (codes "state") ∷ profile.to_first profile.time (codes "exact")) (λ m. tt), tt), tt)))
