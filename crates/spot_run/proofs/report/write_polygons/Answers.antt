use Rattle.std.proofs.Common.{◌+◌, drop, map}
use Rattle.spot_terms.specs.Report.{line_text, report_text}
use Rattle.spot_run.specs.Lines.{polygon_line}
use Rattle.text_report.proofs.ReportLines.{next_line, no_line_left}
use Rattle.spot_io.proofs.Writing.{nothing_yet, next_written, fault_next, takes_next, all_written}
use Rattle.spot_run.proofs.report.write_polygons.Goals as goal

pub loop-p-init : goal.loop-p-init
loop-p-init g c = nothing_yet _ _

pub write_lane-requires : goal.write_lane-requires
write_lane-requires g c =
    let xs = c.args.polygons.now in
    let i = c.loop-p.p-index in
    let line = polygon_line c.args.id in
    takes_next (line_text (line c.p-item.result)) (report_text (map line (drop (i + 1) xs))) c.loop-p.invariant (next_line line xs i c.p-item.result c.loop-p-test.true c.p-item.is) (g.met.K.Sink.fewer c.loop-p.sink) c.requires

pub returns-in_err-write_lane : goal.returns-in_err-write_lane
returns-in_err-write_lane g c =
    let xs = c.args.polygons.now in
    let i = c.loop-p.p-index in
    let line = polygon_line c.args.id in
    fault_next _ c.from_residual.result c.loop-p.invariant (next_line line xs i c.p-item.result c.loop-p-test.true c.p-item.is) c.in_err-write_lane.ensures c.from_residual.ensures.0

pub loop-p-preserved : goal.loop-p-preserved
loop-p-preserved g c =
    let xs = c.args.polygons.now in
    let i = c.loop-p.p-index in
    let line = polygon_line c.args.id in
    next_written c.loop-p.invariant (next_line line xs i c.p-item.result c.loop-p-test.true c.p-item.is) c.in_ok-write_lane.ensures

pub returns : goal.returns
returns g c = all_written tt c.loop-p.invariant (no_line_left (polygon_line c.args.id) c.args.polygons.now c.loop-p.p-index c.loop-p-test.false)
