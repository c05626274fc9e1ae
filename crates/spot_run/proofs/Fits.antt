-- Each number of a prediction's lines fits its type.
use Rattle.std.proofs.Common.{◌≡◌, ◌∙◌, ℕ, zero, suc, ◌+◌, ◌*◌, ◌==◌, ◌<◌, ◌≤◌, Bool, true, false, cond, List, [], ◌∷◌, ◌++◌, map, length, refl, sym, ap, subst, arith, ℤ, pos, ◌+ℤ◌, FitsSigned, w64}
use Rattle.std.specs.Prelude.{nat_abs, max, ◌≤ℤ◌}
use Rattle.std.specs.List.{flat_map, AllByRecursion}
use Rattle.std.proofs.lemmas.Int.{ints}
use Rattle.spot_terms.specs.Lists.{Pairwise, numbers_from}
use Rattle.spot_terms.specs.Whole.{SizeAtMost}
use Rattle.spot_terms.specs.Ranges.{AreBuildable, IsMoverInRange, IsFixedInRange, IsStart}
use Rattle.spot_terms.specs.Reach.{normals, along, disc_number, interval_numbers, disc_numbers}
use Rattle.spot_terms.specs.Report.{Line, FitsLine, FitsPt, FitsCorners, FitsNumbers, IsReport, mover_line, late_line}
use Rattle.spot_terms.specs.Cells.{Lane, cells}
use Rattle.spot_terms.specs.LanePolygons.{LanePolygon, reach_of, IsFirst, IsReachedIn, AreLanePolygons}
use Rattle.spot_terms.specs.Limits.{HasNetwork}
use Rattle.spot_terms.specs.Participants.{starting}
use Rattle.spot_terms.specs.Routes.{IsRoute}
use Rattle.spot_terms.specs.declared.lines.Mode.{Mode}
use Rattle.spot_terms.specs.declared.plain.Pt.{Pt}
use Rattle.spot_terms.specs.declared.plain.AccStart.{AccStart}
use Rattle.spot_terms.specs.declared.scenario.Mover.{Mover}
use Rattle.spot_terms.specs.declared.scenario.Fixed.{Fixed}
use Rattle.spot_terms.specs.declared.scenario.Scenario.{Scenario}
use Rattle.spot_terms.proofs.Members.{all_in_map}
use Rattle.spot_terms.proofs.ListLemmas.{includes_map, all_append}
use Rattle.spot_terms.proofs.ListLemmas.{below-from}
use Rattle.convex_poly.specs.declared.oct_numbers.OctNumbers.{OctNumbers}
use Rattle.convex_poly.specs.Polygons.{IsPosition}
use Rattle.round_out.proofs.Discs.{disc_number_le}
use Rattle.acc_occupancy.proofs.Sizes.{along_within}
use Rattle.acc_occupancy.proofs.Bodies.{interval_numbers_within}
use Rattle.lane_occupancy.specs.Polygons.{polygon_of}
use Rattle.lane_occupancy.specs.declared.polygons.LanePoly.{LanePoly}
use Rattle.participants.specs.declared.participant.Participant.{Participant}
use Rattle.participants.specs.Predictions.{IsParticipant, IsFixedOctagon, Occupancies}
use Rattle.spot_run.specs.Writes.{IsPredicted}
use Rattle.spot_run.specs.Lines.{line_of, obstacle_lines, octagon_line, polygon_line, lane_lines, octagon_lines, occupancy_lines, traffic_lines, report_lines}
use Rattle.spot_run.proofs.CellSizes.{IsSmall, body_small}
use Rattle.spot_terms.proofs.Unique.{least_one}
use Rattle.spot_terms.proofs.ItemPlaces.{got_below}

-- ---- lists

all_weaker : {X : Type 0} (P Q : X → Type 0) (xs : List X) → ((x : X) → P x → Q x) → AllByRecursion P xs → AllByRecursion Q xs
all_weaker P Q [] h a = tt
all_weaker P Q (x ∷ xs) h a = (h x a.0, all_weaker P Q xs h a.1)

-- ---- numbers

fits_small : (m : ℕ) (z : ℤ) → m ≤ 100_000_000_000_000 → nat_abs z ≤ m → FitsSigned w64 z
fits_small m z a b = omega (arith, ints)

fits_size : (z : ℤ) → SizeAtMost 100_000_000_000_000 z → FitsSigned w64 z
fits_size z h = fits_small 100_000_000_000_000 z (omega arith) h

eight_intervals : (s : AccStart) (k i : ℕ) → length (interval_numbers s k i) ≡ 8
unfolding interval_numbers
eight_intervals s k i = refl

fits_interval : (s : AccStart) (k i : ℕ) → IsStart s → i < 100 → k ≤ 1000 → FitsNumbers (interval_numbers s k i)
fits_interval s k i h a b = (eight_intervals s k i, all_weaker (SizeAtMost 100_000_000_000_000) (FitsSigned w64) (interval_numbers s k i) fits_size (interval_numbers_within s k i h a b))

near : (x : ℤ) (e : ℕ) → nat_abs x ≤ 20_000_000_000_000 → e ≤ 500_000_000 → nat_abs (x +ℤ pos e) ≤ 100_000_000_000_000
near x e a b = omega (arith, ints)

fits_disc : (p : Pt) (r : ℕ) → nat_abs p.x ≤ 10_000_000_000_000 → nat_abs p.y ≤ 10_000_000_000_000 → r ≤ 250_000_000 → FitsNumbers (disc_numbers p r)
unfolding disc_numbers
fits_disc p r a b h = (
  refl,
  all_in_map (FitsSigned w64) (λ n. along n p +ℤ pos (disc_number n r)) normals (λ n i.
      let place : nat_abs (along n p) ≤ 2 * 10_000_000_000_000 = along_within p 10_000_000_000_000 n i a b in
      let reach : disc_number n r ≤ 2 * r = disc_number_le n r (omega (arith, h)) i in
      fits_size (along n p +ℤ pos (disc_number n r)) (near (along n p) (disc_number n r) (omega arith) (omega (arith, h)))),
)

-- ---- lines

start_speed_small : (v : ℤ) (t s : ℕ) → v ≡ pos (max t s) → v ≤ℤ pos 900_000 → s ≤ 900_000
start_speed_small v t s e h = omega (arith, ints, e, h)

fits_start : (p : Pt) → nat_abs p.x ≤ 20_000_000_000_000 → nat_abs p.y ≤ 20_000_000_000_000 → FitsSigned w64 p.x × FitsSigned w64 p.y
fits_start p a b = (fits_small 20_000_000_000_000 p.x (omega arith) a, fits_small 20_000_000_000_000 p.y (omega arith) b)

fits_within : (lo hi z : ℤ) → pos 0 ≤ℤ lo → hi ≤ℤ pos 900_000 → lo ≤ℤ z → z ≤ℤ hi → FitsSigned w64 z
fits_within lo hi z a b c d = omega (arith, ints, a, b, c, d)

fits_mover : (lanes : List Lane) (k steps : ℕ) (m : Mover) (p : Participant) → IsMoverInRange m → IsParticipant lanes k steps m p → FitsLine (mover_line (line_of p))
fits_mover lanes k steps m p range is =
    let start = is.range in
    let speed : p.speed ≤ 900_000 = start_speed_small p.start.v is.start.type.v p.speed is.start.v start.v.high in
    let id : p.id ≤ 4_294_967_295 = subst (λ (x : ℕ). x ≤ 4_294_967_295) (sym is.id) range.id in
    let radius = start.r in (
      omega (arith, id),
      fits_within (pos 1) (pos 20) p.start.a (omega (arith, ints)) (omega (arith, ints)) start.a.low start.a.high,
      fits_within (pos 0) (pos 900_000) p.start.v (omega (arith, ints)) (omega (arith, ints)) start.v.low start.v.high,
      omega (arith, speed),
      omega (arith, radius),
      fits_start p.start.p start.x start.y,
      (fits_small 900_000 p.start.b.xlo (omega arith) start.box.xlo, fits_small 900_000 p.start.b.xhi (omega arith) start.box.xhi, fits_small 900_000 p.start.b.ylo (omega arith) start.box.ylo, fits_small 900_000 p.start.b.yhi (omega arith) start.box.yhi),
    )

fits_late : (m : Mover) → IsMoverInRange m → FitsLine (late_line m.id m.time)
fits_late m range = let id = range.id in let time = range.time in (omega (arith, id), omega (arith, time))

fits_alone : (lanes : List Lane) (k steps : ℕ) (m : Mover) (ms : List Mover) (t : Bool) → IsMoverInRange m → (Pairwise (IsParticipant lanes k steps) (starting ms) [] → IsReport (obstacle_lines ms []))
    → Pairwise (IsParticipant lanes k steps) (cond t (m ∷ starting ms) (starting ms)) [] → IsReport (late_line m.id m.time ∷ obstacle_lines ms [])
fits_alone lanes k steps m ms true range rest pairs = absurd pairs
fits_alone lanes k steps m ms false range rest pairs = (fits_late m range, rest pairs)

fits_either : (lanes : List Lane) (k steps : ℕ) (m : Mover) (ms : List Mover) (p : Participant) (ps : List Participant) (t : Bool) → IsMoverInRange m
    → (Pairwise (IsParticipant lanes k steps) (starting ms) ps → IsReport (obstacle_lines ms ps)) → (Pairwise (IsParticipant lanes k steps) (starting ms) (p ∷ ps) → IsReport (obstacle_lines ms (p ∷ ps)))
    → Pairwise (IsParticipant lanes k steps) (cond t (m ∷ starting ms) (starting ms)) (p ∷ ps)
    → IsReport (cond t (mover_line (line_of p) ∷ obstacle_lines ms ps) (late_line m.id m.time ∷ obstacle_lines ms (p ∷ ps)))
fits_either lanes k steps m ms p ps true range rest same pairs = (fits_mover lanes k steps m p range pairs.0, rest pairs.1)
fits_either lanes k steps m ms p ps false range rest same pairs = (fits_late m range, same pairs)

fits_obstacles : (lanes : List Lane) (k steps : ℕ) (ms : List Mover) (ps : List Participant) → AllByRecursion IsMoverInRange ms → Pairwise (IsParticipant lanes k steps) (starting ms) ps → IsReport (obstacle_lines ms ps)
fits_obstacles lanes k steps [] ps range pairs = tt
fits_obstacles lanes k steps (m ∷ ms) [] range pairs = fits_alone lanes k steps m ms (m.time == 0) range.0 (fits_obstacles lanes k steps ms [] range.1) pairs
fits_obstacles lanes k steps (m ∷ ms) (p ∷ ps) range pairs = fits_either lanes k steps m ms p ps (m.time == 0) range.0 (fits_obstacles lanes k steps ms ps range.1) (fits_obstacles lanes k steps ms (p ∷ ps) range.1) pairs

fits_fixed : (fs : List Fixed) (os : List (ℕ × OctNumbers)) → AllByRecursion IsFixedInRange fs → Pairwise IsFixedOctagon fs os → IsReport (map octagon_line os)
fits_fixed [] [] range pairs = tt
fits_fixed [] (o ∷ os) range pairs = absurd pairs
fits_fixed (f ∷ fs) [] range pairs = absurd pairs
fits_fixed (f ∷ fs) (o ∷ os) range pairs =
    let id : o.0 ≤ 4_294_967_295 = subst (λ (x : ℕ). x ≤ 4_294_967_295) (sym pairs.0.0) range.0.id in
    ((omega (arith, id), subst FitsNumbers (sym pairs.0.1) (fits_disc (record { x = f.x; y = f.y }) f.enclosing range.0.x range.0.y range.0.enclosing)), fits_fixed fs os range.1 pairs.1)

fits_octagons : (s : AccStart) (k id from count : ℕ) (os : List OctNumbers) → IsStart s → k ≤ 1000 → id ≤ 4_294_967_295 → from + count ≤ 100
    → map (λ (o : OctNumbers). o.n) os ≡ map (interval_numbers s k) (numbers_from from count) → IsReport (octagon_lines id from os)
fits_octagons s k id from zero [] h a b d e = tt
fits_octagons s k id from zero (o ∷ os) h a b d e = cc
fits_octagons s k id from (suc count) [] h a b d e = tt
fits_octagons s k id from (suc count) (o ∷ os) h a b d e =
    let first : o.n ≡ interval_numbers s k from = cc in
    let rest : map (λ (x : OctNumbers). x.n) os ≡ map (interval_numbers s k) (numbers_from (from + 1) count) = cc in
    ((omega (arith, b), omega (arith, d), subst FitsNumbers (sym first) (fits_interval s k from h (omega (arith, d)) a)), fits_octagons s k id (from + 1) count os h a b (omega (arith, d)) rest)

fits_occupancies : (lanes : List Lane) (k steps : ℕ) (ms : List Mover) (ps : List Participant) → k ≤ 1000 → steps ≤ 100 → AllByRecursion IsMoverInRange ms → Pairwise (IsParticipant lanes k steps) ms ps → IsReport (flat_map occupancy_lines ps)
fits_occupancies lanes k steps [] [] a b range pairs = tt
fits_occupancies lanes k steps [] (p ∷ ps) a b range pairs = absurd pairs
fits_occupancies lanes k steps (m ∷ ms) [] a b range pairs = absurd pairs
fits_occupancies lanes k steps (m ∷ ms) (p ∷ ps) a b range pairs =
    let is = pairs.0 in
    let id : p.id ≤ 4_294_967_295 = subst (λ (x : ℕ). x ≤ 4_294_967_295) (sym is.id) range.0.id in
    all_append FitsLine (occupancy_lines p) (flat_map occupancy_lines ps)
    (fits_octagons p.start k p.id 0 steps p.octs is.range a id (omega (arith, b)) (is.octagons ∙ ap (map (interval_numbers p.start k)) (below-from steps)))
    (fits_occupancies lanes k steps ms ps a b range.1 pairs.1)

-- ---- lane polygons

first_below : (lanes : List Lane) (s : AccStart) (speed k steps c i j : ℕ) → IsReachedIn lanes s speed k steps c i → IsReachedIn lanes s speed k steps c j → j < steps → i < steps
first_below lanes s speed k steps c i j (a, a_is, i_is) (b, b_is, j_is) h =
    let same : a ≡ b = least_one (IsRoute lanes s.p c) a b a_is b_is in
    let one : i ≡ j = least_one (λ n. b ≤ reach_of s speed ((n + 1) * k)) i j (subst (λ (n : ℕ). IsFirst s speed k n i) same i_is) j_is in
    omega (arith, one, h)

fits_corners : (corners : List Pt) → IsSmall corners → FitsCorners corners
fits_corners corners h = let few = h.few in (omega (arith, few), all_weaker IsPosition FitsPt corners (λ p at. (fits_small 40_000_000_000_000 p.x (omega arith) at.x, fits_small 40_000_000_000_000 p.y (omega arith) at.y)) h.positions)

fits_polygons : (lanes : List Lane) (id : ℕ) (s : AccStart) (speed k steps : ℕ) (xs : List LanePoly) → AreBuildable lanes → HasNetwork lanes → id ≤ 4_294_967_295 → IsStart s → steps ≤ 100
    → AreLanePolygons lanes s speed k steps (map polygon_of xs) → IsReport (map (polygon_line id) xs)
fits_polygons lanes id s speed k steps xs buildable network h start few are = all_in_map FitsLine (polygon_line id) xs (λ x i.
    let j = includes_map polygon_of xs x i in
    let is = are.each (polygon_of x) j in
    let (n, there, low) = are.cells_are.each x.cell (includes_map (λ (y : LanePolygon). y.cell) (map polygon_of xs) (polygon_of x) j) in
    let cell : x.cell < length (cells lanes) = got_below (cells lanes) x.cell is.net_cell is.cell_is in
    let first : x.first < steps = first_below lanes s speed k steps x.cell x.first n is.first_is there low in
    let most = network.few in
    let radius = start.r in
    (omega (arith, h), omega (arith, cell, most), omega (arith, first, few), fits_corners x.poly (body_small lanes x.cell s.r is.net_cell x.poly buildable.each radius is.cell_is is.corners_are)))

fits_participant : (lanes : List Lane) (k steps : ℕ) (m : Mover) (p : Participant) (lane : Bool) → AreBuildable lanes → HasNetwork lanes → steps ≤ 100 → IsMoverInRange m → IsParticipant lanes k steps m p → p.lane ≡ lane → IsReport (lane_lines p)
fits_participant lanes k steps m p true buildable network few range is follows =
    fits_polygons lanes p.id p.start p.speed k steps p.polys buildable network (subst (λ (x : ℕ). x ≤ 4_294_967_295) (sym is.id) range.id) is.range few (is.polygons follows)
fits_participant lanes k steps m p false buildable network few range is free = subst (λ (xs : List LanePoly). IsReport (map (polygon_line p.id) xs)) (sym (is.free free)) tt

fits_lanes : (lanes : List Lane) (k steps : ℕ) (ms : List Mover) (ps : List Participant) → AreBuildable lanes → HasNetwork lanes → steps ≤ 100 → AllByRecursion IsMoverInRange ms → Pairwise (IsParticipant lanes k steps) ms ps → IsReport (flat_map lane_lines ps)
fits_lanes lanes k steps [] [] buildable network few range pairs = tt
fits_lanes lanes k steps [] (p ∷ ps) buildable network few range pairs = absurd pairs
fits_lanes lanes k steps (m ∷ ms) [] buildable network few range pairs = absurd pairs
fits_lanes lanes k steps (m ∷ ms) (p ∷ ps) buildable network few range pairs =
    all_append FitsLine (lane_lines p) (flat_map lane_lines ps) (fits_participant lanes k steps m p p.lane buildable network few range.0 pairs.0 refl) (fits_lanes lanes k steps ms ps buildable network few range.1 pairs.1)

-- ---- the report

starting_in_range : (ms : List Mover) → AllByRecursion IsMoverInRange ms → AllByRecursion IsMoverInRange (starting ms)
starting_in_range [] range = tt
starting_in_range (m ∷ ms) range =
    let rest : AllByRecursion IsMoverInRange (starting ms) = starting_in_range ms range.1 in
    elim (m.time == 0) as (λ t. AllByRecursion IsMoverInRange (cond t (m ∷ starting ms) (starting ms))) [ true ↦ (range.0, rest) | false ↦ rest ]

-- a report with traffic is one whose text tells it, where what follows is
pub fits_report : (mode : Mode) (s : Scenario) (steps : ℕ) (o : Occupancies) (more : List Line) → steps ≤ 100 → IsPredicted s steps o → IsReport more → IsReport (report_lines mode s.step steps s.movers o more)
fits_report mode s steps o more few predicted fits =
    let range = s.in_range in
    let lanes = s.lanelets.entries in
    let is = predicted.is in
    let low = range.step_low in
    let high = range.step_high in
    let starts = starting_in_range s.movers range.each_mover in (
      tt,
      (
        (omega (arith, high), omega (arith, few)),
        all_append FitsLine (traffic_lines s.movers o) more
            (all_append FitsLine (obstacle_lines s.movers o.participants ++ map octagon_line o.fixed ++ flat_map lane_lines o.participants) (flat_map occupancy_lines o.participants)
            (all_append FitsLine (obstacle_lines s.movers o.participants ++ map octagon_line o.fixed) (flat_map lane_lines o.participants)
            (all_append FitsLine (obstacle_lines s.movers o.participants) (map octagon_line o.fixed)
            (fits_obstacles lanes s.step steps s.movers o.participants range.each_mover is.participants)
            (fits_fixed s.fixed o.fixed range.each_fixed is.fixed))
            (fits_lanes lanes s.step steps (starting s.movers) o.participants range.buildable predicted.network few starts is.participants))
            (fits_occupancies lanes s.step steps (starting s.movers) o.participants high few starts is.participants))
            fits,
      ),
    )
