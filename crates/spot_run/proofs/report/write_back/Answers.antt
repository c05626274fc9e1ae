use Rattle.std.proofs.Common.{◌≡◌, ◌++◌, List}
use Rattle.std.specs.List.{flat_map}
use Rattle.spot_terms.specs.Report.{report_text}
use Rattle.spot_io.proofs.Writing.{nothing_yet, next_written, last_written, fault_next, takes_next, takes_rest}
use Rattle.participants.specs.declared.participant.Participant.{Participant}
use Rattle.spot_run.specs.Lines.{lane_lines, occupancy_lines, back_lines}
use Rattle.text_report.proofs.ReportLines.{report_text-append}
use Rattle.spot_run.proofs.report.write_back.Goals as goal

-- the lane polygons and the occupancies
parts : (ps : List Participant) → report_text (back_lines ps) ≡ report_text (flat_map lane_lines ps) ++ report_text (flat_map occupancy_lines ps)
parts ps = report_text-append (flat_map lane_lines ps) (flat_map occupancy_lines ps)

pub write_lanes-requires : goal.write_lanes-requires
write_lanes-requires g c =
    takes_next {sink = g.K.Sink} (report_text (flat_map lane_lines c.args.participants.now)) _ (nothing_yet c.args.sink.now _) (parts c.args.participants.now) (g.met.K.Sink.fewer c.args.sink.now) c.requires.room

pub returns-in_err-write_lanes : goal.returns-in_err-write_lanes
returns-in_err-write_lanes g c = fault_next _ c.from_residual.result (nothing_yet _ _) (parts c.args.participants.now) c.in_err-write_lanes.ensures c.from_residual.ensures.0

pub write_occupancies-requires-clause-room : goal.write_occupancies-requires-clause-room
write_occupancies-requires-clause-room g c = takes_rest (next_written (nothing_yet _ _) (parts c.args.participants.now) c.in_ok-write_lanes.ensures) c.requires.room

pub returns : goal.returns
returns g c = last_written (next_written (nothing_yet _ _) (parts c.args.participants.now) c.in_ok-write_lanes.ensures) c.write_occupancies.ensures
