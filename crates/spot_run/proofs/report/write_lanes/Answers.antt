use Rattle.std.proofs.Common.{◌≡◌, ◌∙◌, ◌+◌, ◌<◌, ◌++◌, ℕ, List, drop, get_or, length, map, ap, sym}
use Rattle.std.specs.List.{flat_map}
use Rattle.spot_terms.specs.Report.{report_text}
use Rattle.lane_occupancy.specs.declared.polygons.LanePoly.{LanePoly}
use Rattle.participants.specs.declared.participant.Participant.{Participant}
use Rattle.spot_run.specs.Lines.{polygon_line, lane_lines}
use Rattle.text_report.proofs.ReportLines.{next_lines, no_lines_left}
use Rattle.spot_io.proofs.Writing.{nothing_yet, next_written, fault_next, takes_next, all_written}
use Rattle.spot_run.proofs.report.write_lanes.Goals as goal

-- the polygons of the next participant, as its list gives them
next : (ps : List Participant) (i : ℕ) (p : Participant) (xs : List LanePoly) → i < length ps → p ≡ get_or ps i p → xs ≡ p.polys
    → report_text (flat_map lane_lines (drop i ps)) ≡ report_text (map (polygon_line p.id) xs) ++ report_text (flat_map lane_lines (drop (i + 1) ps))
next ps i p xs h e f = next_lines lane_lines ps i p h e ∙ ap (λ (ys : List LanePoly). report_text (map (polygon_line p.id) ys) ++ report_text (flat_map lane_lines (drop (i + 1) ps))) (sym f)

pub loop-p-init : goal.loop-p-init
loop-p-init g c = nothing_yet _ _

pub write_polygons-requires : goal.write_polygons-requires
write_polygons-requires g c =
    let ps = c.args.participants.now in
    let i = c.loop-p.p-index in
    takes_next (report_text (map (polygon_line c.p-item.result.id) c.list.result.now)) (report_text (flat_map lane_lines (drop (i + 1) ps))) c.loop-p.invariant (next ps i c.p-item.result c.list.result.now c.loop-p-test.true c.p-item.is c.list.ensures) (g.met.K.Sink.fewer c.loop-p.sink) c.requires

pub returns-in_err-write_polygons : goal.returns-in_err-write_polygons
returns-in_err-write_polygons g c =
    let ps = c.args.participants.now in
    let i = c.loop-p.p-index in
    fault_next _ c.from_residual.result c.loop-p.invariant (next ps i c.p-item.result c.list.result.now c.loop-p-test.true c.p-item.is c.list.ensures) c.in_err-write_polygons.ensures c.from_residual.ensures.0

pub loop-p-preserved : goal.loop-p-preserved
loop-p-preserved g c =
    let ps = c.args.participants.now in
    let i = c.loop-p.p-index in
    next_written c.loop-p.invariant (next ps i c.p-item.result c.list.result.now c.loop-p-test.true c.p-item.is c.list.ensures) c.in_ok-write_polygons.ensures

pub returns : goal.returns
returns g c = all_written tt c.loop-p.invariant (no_lines_left lane_lines c.args.participants.now c.loop-p.p-index c.loop-p-test.false)
