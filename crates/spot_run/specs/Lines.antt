-- The lines of a prediction.
use Rattle.std.specs.Prelude.{ℕ, ◌+◌, ◌==◌, List, [], ◌∷◌, ◌++◌, map, flat_map, if◌then◌else◌}
use Rattle.spot_terms.specs.Report.{Line, head_line, time_line, mover_line, late_line, fixed_line, lane_line, occ_line, last_line}
use Rattle.spot_terms.specs.declared.lines.Mode.{Mode}
use Rattle.spot_terms.specs.declared.lines.Mode.TheVariants as mode
use Rattle.spot_terms.specs.declared.lines.End.TheVariants as end
use Rattle.spot_terms.specs.declared.lines.MoverLine.{MoverLine}
use Rattle.spot_terms.specs.declared.scenario.Mover.{Mover}
use Rattle.spot_terms.specs.declared.scenario.Scenario.{Scenario}
use Rattle.convex_poly.specs.declared.oct_numbers.OctNumbers.{OctNumbers}
use Rattle.lane_occupancy.specs.declared.polygons.LanePoly.{LanePoly}
use Rattle.participants.specs.declared.participant.Participant.{Participant}
use Rattle.participants.specs.Predictions.{Occupancies}

abbrev pub line_of : Participant → MoverLine
line_of p = record { id = p.id; lane = p.lane; a = p.start.a; v = p.start.v; s = p.speed; r = p.start.r; p = p.start.p; b = p.start.b }

-- the lines of the dynamic obstacles: of those whose initial time is 0 the participants' in their order, and else the
-- lines of late ones
abbrev pub obstacle_lines : List Mover → List Participant → List Line
obstacle_lines [] ps = []
obstacle_lines (m ∷ ms) [] = late_line m.id m.time ∷ obstacle_lines ms []
obstacle_lines (m ∷ ms) (p ∷ ps) = if m.time == 0 then mover_line (line_of p) ∷ obstacle_lines ms ps else late_line m.id m.time ∷ obstacle_lines ms (p ∷ ps)

abbrev pub octagon_line : ℕ × OctNumbers → Line
octagon_line o = fixed_line o.0 o.1.n

-- the lane polygons of a participant
abbrev pub polygon_line : ℕ → LanePoly → Line
polygon_line id x = lane_line id x.cell x.first x.poly

abbrev pub lane_lines : Participant → List Line
lane_lines p = map (polygon_line p.id) p.polys

-- the octagons of a participant, from interval i on
abbrev pub octagon_lines : ℕ → ℕ → List OctNumbers → List Line
octagon_lines id i [] = []
octagon_lines id i (o ∷ os) = occ_line id i o.n ∷ octagon_lines id (i + 1) os

abbrev pub occupancy_lines : Participant → List Line
occupancy_lines p = octagon_lines p.id 0 p.octs

-- what stands between the head and the end
abbrev pub traffic_lines : List Mover → Occupancies → List Line
traffic_lines movers o = obstacle_lines movers o.participants ++ map octagon_line o.fixed ++ flat_map lane_lines o.participants ++ flat_map occupancy_lines o.participants

-- what a report with traffic begins with, of steps of k ticks
abbrev pub opening_lines : Mode → ℕ → ℕ → List Mover → Occupancies → List Line
opening_lines mode k steps movers o = head_line mode ∷ time_line k steps ∷ traffic_lines movers o

-- such a report
abbrev pub report_lines : Mode → ℕ → ℕ → List Mover → Occupancies → List Line → List Line
report_lines mode k steps movers o more = opening_lines mode k steps movers o ++ more

-- the whole report of a prediction
abbrev pub prediction_lines : ℕ → ℕ → List Mover → Occupancies → List Line
prediction_lines k steps movers o = report_lines mode.Predict k steps movers o (last_line end.Done ∷ [])

-- what stands before the static obstacles
abbrev pub front_lines : Mode → Scenario → ℕ → List Participant → List Line
front_lines mode s steps ps = head_line mode ∷ time_line s.step steps ∷ obstacle_lines s.movers ps

-- what stands behind them
abbrev pub back_lines : List Participant → List Line
back_lines ps = flat_map lane_lines ps ++ flat_map occupancy_lines ps
