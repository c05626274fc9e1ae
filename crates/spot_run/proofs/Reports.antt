-- The lines of a prediction are the report of the scenario.
use Rattle.std.proofs.Common.{◌≡◌, ◌∙◌, inl, inr, ℕ, zero, suc, ◌+◌, ◌==◌, Bool, true, false, cond, List, [], ◌∷◌, ◌++◌, map, refl, sym, ap, ap₂, ℤ}
use Rattle.std.specs.List.{flat_map, AllByRecursion}
use Rattle.spot_terms.specs.Lists.{Pairwise, numbers_from}
use Rattle.spot_terms.specs.Reach.{interval_numbers}
use Rattle.spot_terms.specs.Report.{Line, mover_line, late_line, fixed_line, occ_line}
use Rattle.spot_terms.specs.LanePolygons.{LanePolygon}
use Rattle.spot_terms.specs.Participants.{starting}
use Rattle.spot_terms.specs.Ranges.{IsMoverInRange}
use Rattle.spot_terms.specs.declared.lines.MoverLine.{MoverLine}
use Rattle.spot_terms.specs.declared.command.Command.{Command}
use Rattle.spot_terms.specs.declared.scenario.Mover.{Mover}
use Rattle.spot_terms.specs.declared.scenario.Fixed.{Fixed}
use Rattle.spot_terms.specs.declared.scenario.Scenario.{Scenario}
use Rattle.spot_terms.proofs.ListLemmas.{pairwise_map, below-from}
use Rattle.convex_poly.specs.declared.oct_numbers.OctNumbers.{OctNumbers}
use Rattle.lane_occupancy.specs.Polygons.{polygon_of}
use Rattle.lane_occupancy.specs.declared.polygons.LanePoly.{LanePoly}
use Rattle.spot_claims.specs.ReportOf.{IsExactMover, IsObstacleLine, fixed_of, movers_in, ArePolygonsOf, polygon_line as line_of_polygon, polygon_lines, occ_lines, IsTraffic, IsPredictReport}
use Rattle.participants.specs.declared.participant.Participant.{Participant}
use Rattle.participants.specs.Predictions.{IsParticipant, IsFixedOctagon, Occupancies, IsPrediction}
use Rattle.spot_run.specs.Lines.{line_of, obstacle_lines, octagon_line, polygon_line, lane_lines, octagon_lines, occupancy_lines, traffic_lines, prediction_lines}
use Rattle.spot_run.proofs.Covers.{Partners, is_mover_line}
use Rattle.spot_terms.proofs.Orders.{zero_of_true, positive_of_false}

-- ---- the obstacles

exact_mover : (s : Scenario) (k steps : ℕ) (m : Mover) (p : Participant) → IsMoverInRange m → IsParticipant s.lanelets.entries k steps m p → IsExactMover s m (line_of p)
exact_mover s k steps m p range is = record {
  line_is = is_mover_line s.lanelets.entries k steps m p range is;
  box = is.start.b;
  lane = is.lane;
}

late_alone : (s : Scenario) (k steps : ℕ) (m : Mover) (ms : List Mover) (t : Bool) → (m.time == 0) ≡ t → (Partners s.lanelets.entries k steps ms [] → Pairwise (IsObstacleLine s) ms (obstacle_lines ms []))
    → Pairwise (IsParticipant s.lanelets.entries k steps) (cond t (m ∷ starting ms) (starting ms)) [] → Pairwise (IsObstacleLine s) (m ∷ ms) (late_line m.id m.time ∷ obstacle_lines ms [])
late_alone s k steps m ms true e rest pairs = absurd pairs
late_alone s k steps m ms false e rest pairs = (inr (positive_of_false m.time e, refl), rest pairs)

mover_or_late : (s : Scenario) (k steps : ℕ) (m : Mover) (ms : List Mover) (p : Participant) (ps : List Participant) (t : Bool) → IsMoverInRange m → (m.time == 0) ≡ t
    → (Partners s.lanelets.entries k steps ms ps → Pairwise (IsObstacleLine s) ms (obstacle_lines ms ps)) → (Partners s.lanelets.entries k steps ms (p ∷ ps) → Pairwise (IsObstacleLine s) ms (obstacle_lines ms (p ∷ ps)))
    → Pairwise (IsParticipant s.lanelets.entries k steps) (cond t (m ∷ starting ms) (starting ms)) (p ∷ ps)
    → Pairwise (IsObstacleLine s) (m ∷ ms) (cond t (mover_line (line_of p) ∷ obstacle_lines ms ps) (late_line m.id m.time ∷ obstacle_lines ms (p ∷ ps)))
mover_or_late s k steps m ms p ps true range e rest same pairs = (inl (zero_of_true m.time e, (line_of p, refl, exact_mover s k steps m p range pairs.0)), rest pairs.1)
mover_or_late s k steps m ms p ps false range e rest same pairs = (inr (positive_of_false m.time e, refl), same pairs)

obstacles_are : (s : Scenario) (k steps : ℕ) (ms : List Mover) (ps : List Participant) → AllByRecursion IsMoverInRange ms → Partners s.lanelets.entries k steps ms ps → Pairwise (IsObstacleLine s) ms (obstacle_lines ms ps)
obstacles_are s k steps [] ps range pairs = tt
obstacles_are s k steps (m ∷ ms) [] range pairs = late_alone s k steps m ms (m.time == 0) refl (obstacles_are s k steps ms [] range.1) pairs
obstacles_are s k steps (m ∷ ms) (p ∷ ps) range pairs = mover_or_late s k steps m ms p ps (m.time == 0) range.0 refl (obstacles_are s k steps ms ps range.1) (obstacles_are s k steps ms (p ∷ ps) range.1) pairs

-- ---- the movers among their lines

no_movers : (s : Scenario) (k steps : ℕ) (m : Mover) (ms : List Mover) (t : Bool) → (Partners s.lanelets.entries k steps ms [] → movers_in (obstacle_lines ms []) ≡ []) → Pairwise (IsParticipant s.lanelets.entries k steps) (cond t (m ∷ starting ms) (starting ms)) []
    → movers_in (late_line m.id m.time ∷ obstacle_lines ms []) ≡ []
no_movers s k steps m ms true rest pairs = absurd pairs
no_movers s k steps m ms false rest pairs = rest pairs

mover_and_rest : (s : Scenario) (k steps : ℕ) (m : Mover) (ms : List Mover) (p : Participant) (ps : List Participant) (t : Bool)
    → (Partners s.lanelets.entries k steps ms ps → movers_in (obstacle_lines ms ps) ≡ map line_of ps) → (Partners s.lanelets.entries k steps ms (p ∷ ps) → movers_in (obstacle_lines ms (p ∷ ps)) ≡ map line_of (p ∷ ps))
    → Pairwise (IsParticipant s.lanelets.entries k steps) (cond t (m ∷ starting ms) (starting ms)) (p ∷ ps)
    → movers_in (cond t (mover_line (line_of p) ∷ obstacle_lines ms ps) (late_line m.id m.time ∷ obstacle_lines ms (p ∷ ps))) ≡ map line_of (p ∷ ps)
mover_and_rest s k steps m ms p ps true rest same pairs = ap (λ (vs : List MoverLine). line_of p ∷ vs) (rest pairs.1)
mover_and_rest s k steps m ms p ps false rest same pairs = same pairs

movers_are : (s : Scenario) (k steps : ℕ) (ms : List Mover) (ps : List Participant) → Partners s.lanelets.entries k steps ms ps → movers_in (obstacle_lines ms ps) ≡ map line_of ps
movers_are s k steps [] [] pairs = refl
movers_are s k steps [] (p ∷ ps) pairs = absurd pairs
movers_are s k steps (m ∷ ms) [] pairs = no_movers s k steps m ms (m.time == 0) (movers_are s k steps ms []) pairs
movers_are s k steps (m ∷ ms) (p ∷ ps) pairs = mover_and_rest s k steps m ms p ps (m.time == 0) (movers_are s k steps ms ps) (movers_are s k steps ms (p ∷ ps)) pairs

-- ---- the lane polygons

polygons_of : Participant → List LanePolygon
polygons_of p = map polygon_of p.polys

polygons_are : (s : Scenario) (c : Command) (ms : List Mover) (ps : List Participant) → Pairwise (IsParticipant s.lanelets.entries s.step c.steps) ms ps → Pairwise (ArePolygonsOf s c) (map line_of ps) (map polygons_of ps)
unfolding polygons_of
polygons_are s c [] [] pairs = tt
polygons_are s c [] (p ∷ ps) pairs = absurd pairs
polygons_are s c (m ∷ ms) [] pairs = absurd pairs
polygons_are s c (m ∷ ms) (p ∷ ps) pairs =
    (record { lane = pairs.0.polygons; free = λ free. ap (map polygon_of) (pairs.0.free free) }, polygons_are s c ms ps pairs.1)

lines_of : (id : ℕ) (xs : List LanePoly) → map (polygon_line id) xs ≡ map (line_of_polygon id) (map polygon_of xs)
lines_of id [] = refl
lines_of id (x ∷ xs) = ap (λ (ls : List Line). polygon_line id x ∷ ls) (lines_of id xs)

all_polygons : (ps : List Participant) → flat_map lane_lines ps ≡ polygon_lines (map line_of ps) (map polygons_of ps)
unfolding polygons_of
all_polygons [] = refl
all_polygons (p ∷ ps) = ap₂ (λ (a b : List Line). a ++ b) (lines_of p.id p.polys) (all_polygons ps)

-- ---- the octagons

octagons_are : (id from count : ℕ) (f : ℕ → List ℤ) (os : List OctNumbers) → map (λ (o : OctNumbers). o.n) os ≡ map f (numbers_from from count)
    → octagon_lines id from os ≡ map (λ i. occ_line id i (f i)) (numbers_from from count)
octagons_are id from zero f [] e = refl
octagons_are id from zero f (o ∷ os) e = cc
octagons_are id from (suc count) f [] e = cc
octagons_are id from (suc count) f (o ∷ os) e =
    let first : o.n ≡ f from = cc in
    let rest : map (λ (x : OctNumbers). x.n) os ≡ map f (numbers_from (from + 1) count) = cc in
    ap₂ (λ (ns : List ℤ) (ls : List Line). occ_line id from ns ∷ ls) first (octagons_are id (from + 1) count f os rest)

occupancies_are : (s : Scenario) (c : Command) (m : Mover) (p : Participant) → IsParticipant s.lanelets.entries s.step c.steps m p → occupancy_lines p ≡ occ_lines s c (line_of p)
occupancies_are s c m p is =
    octagons_are p.id 0 c.steps (interval_numbers p.start s.step) p.octs (is.octagons ∙ ap (map (interval_numbers p.start s.step)) (below-from c.steps))
    ∙ ap (map (λ i. occ_line p.id i (interval_numbers p.start s.step i))) (sym (below-from c.steps))

all_occupancies : (s : Scenario) (c : Command) (ms : List Mover) (ps : List Participant) → Pairwise (IsParticipant s.lanelets.entries s.step c.steps) ms ps → flat_map occupancy_lines ps ≡ flat_map (occ_lines s c) (map line_of ps)
all_occupancies s c [] [] pairs = refl
all_occupancies s c [] (p ∷ ps) pairs = absurd pairs
all_occupancies s c (m ∷ ms) [] pairs = absurd pairs
all_occupancies s c (m ∷ ms) (p ∷ ps) pairs = ap₂ (λ (a b : List Line). a ++ b) (occupancies_are s c m p pairs.0) (all_occupancies s c ms ps pairs.1)

-- ---- the report

fixed_is : (f : Fixed) (o : ℕ × OctNumbers) → IsFixedOctagon f o → fixed_of f ≡ octagon_line o
fixed_is f o h = sym (ap₂ (λ (id : ℕ) (ns : List ℤ). fixed_line id ns) h.0 h.1)

pub is_traffic : (s : Scenario) (c : Command) (o : Occupancies) → IsPrediction s c.steps o → IsTraffic s c (traffic_lines s.movers o)
is_traffic s c o is =
    let obstacles = obstacle_lines s.movers o.participants in
    let movers : movers_in obstacles ≡ map line_of o.participants = movers_are s s.step c.steps s.movers o.participants is.participants in record {
      obstacles = obstacles;
      obstacles_are = obstacles_are s s.step c.steps s.movers o.participants s.in_range.each_mover is.participants;
      polygons = map polygons_of o.participants;
      polygons_are = rw movers (polygons_are s c (starting s.movers) o.participants is.participants);
      lines_are = lines_are movers;
    }
  where
    octagons : map octagon_line o.fixed ≡ map fixed_of s.fixed
    octagons = sym (pairwise_map IsFixedOctagon fixed_of octagon_line s.fixed o.fixed fixed_is is.fixed)

    lines_are : movers_in (obstacle_lines s.movers o.participants) ≡ map line_of o.participants → traffic_lines s.movers o
        ≡ obstacle_lines s.movers o.participants ++ map fixed_of s.fixed ++ polygon_lines (movers_in (obstacle_lines s.movers o.participants)) (map polygons_of o.participants)
        ++ flat_map (occ_lines s c) (movers_in (obstacle_lines s.movers o.participants))
    lines_are movers = rw (movers, octagons) (ap₂ (λ (a b : List Line). obstacle_lines s.movers o.participants ++ map fixed_of s.fixed ++ a ++ b) (all_polygons o.participants)
        (all_occupancies s c (starting s.movers) o.participants is.participants))

pub predict_report : (s : Scenario) (c : Command) (o : Occupancies) → IsPrediction s c.steps o → IsPredictReport s c (prediction_lines s.step c.steps s.movers o)
predict_report s c o is = record { traffic = traffic_lines s.movers o; traffic_is = is_traffic s c o is; lines_are = refl }
