use Rattle.std.proofs.Common.{◌+◌, ℕ, [], drop, get_or, map}
use Rattle.spot_terms.specs.Report.{line_text, report_text}
use Rattle.convex_poly.specs.declared.oct_numbers.OctNumbers.{OctNumbers}
use Rattle.spot_run.specs.Lines.{octagon_line}
use Rattle.text_report.proofs.ReportLines.{next_of_map, no_line_left}
use Rattle.spot_io.proofs.Writing.{nothing_yet, next_written, fault_next, takes_next, all_written}
use Rattle.spot_run.proofs.report.write_octagons.Goals as goal

none : ℕ × OctNumbers
none = (0, record { n = [] })

pub loop-id-init : goal.loop-id-init
loop-id-init g c = nothing_yet _ _

pub write_fixed-requires : goal.write_fixed-requires
unfolding none
write_fixed-requires g c =
    let os = c.args.octagons.now in
    let i = c.loop-id.id-index in
    takes_next (line_text (octagon_line (get_or os i none))) (report_text (map octagon_line (drop (i + 1) os))) c.loop-id.invariant (next_of_map octagon_line os i none c.loop-id-test.true) (g.met.K.Sink.fewer c.loop-id.sink) c.requires

pub returns-in_err-write_fixed : goal.returns-in_err-write_fixed
unfolding none
returns-in_err-write_fixed g c =
    let os = c.args.octagons.now in
    let i = c.loop-id.id-index in
    fault_next _ c.from_residual.result c.loop-id.invariant (next_of_map octagon_line os i none c.loop-id-test.true) c.in_err-write_fixed.ensures c.from_residual.ensures.0

pub loop-id-preserved : goal.loop-id-preserved
unfolding none
loop-id-preserved g c =
    let os = c.args.octagons.now in
    let i = c.loop-id.id-index in
    next_written c.loop-id.invariant (next_of_map octagon_line os i none c.loop-id-test.true) c.in_ok-write_fixed.ensures

pub returns : goal.returns
returns g c = all_written tt c.loop-id.invariant (no_line_left octagon_line c.args.octagons.now c.loop-id.id-index c.loop-id-test.false)
