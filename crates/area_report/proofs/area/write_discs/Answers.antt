use Rattle.std.proofs.Common.{ℕ, ◌+◌, drop, get_or, pos}
use Rattle.spot_terms.specs.Report.{Line, disc_line, line_text, report_text}
use Rattle.spot_terms.specs.declared.plain.Disc.{Disc}
use Rattle.spot_io.proofs.Writing.{nothing_yet, next_written, fault_next, takes_next, all_written}
use Rattle.text_report.proofs.ReportLines.{next_of_map, no_line_left}
use Rattle.area_report.specs.Areas.{disc_lines}
use Rattle.area_report.proofs.area.write_discs.Goals as goal

abbrev line_of : ℕ → Disc → Line
line_of i d = disc_line i d.id d.p d.r

abbrev none : Disc
none = record { id = 0; p = record { x = pos 0; y = pos 0 }; r = 0 }

pub loop-d-init : goal.loop-d-init
loop-d-init g c = nothing_yet _ _

pub write_disc-requires : goal.write_disc-requires
write_disc-requires g c =
    let ds = c.args.discs.now in
    let i = c.loop-d.d-index in
    takes_next (line_text (line_of c.args.step (get_or ds i none))) (report_text (disc_lines c.args.step (drop (i + 1) ds))) c.loop-d.invariant (next_of_map (line_of c.args.step) ds i none c.loop-d-test.true) (g.met.K.Sink.fewer c.loop-d.sink) c.requires

pub returns-in_err-write_disc : goal.returns-in_err-write_disc
returns-in_err-write_disc g c =
    let ds = c.args.discs.now in
    let i = c.loop-d.d-index in
    fault_next _ c.from_residual.result c.loop-d.invariant (next_of_map (line_of c.args.step) ds i none c.loop-d-test.true) c.in_err-write_disc.ensures c.from_residual.ensures.0

pub loop-d-preserved : goal.loop-d-preserved
loop-d-preserved g c =
    let ds = c.args.discs.now in
    let i = c.loop-d.d-index in
    next_written c.loop-d.invariant (next_of_map (line_of c.args.step) ds i none c.loop-d-test.true) c.in_ok-write_disc.ensures

pub returns : goal.returns
returns g c = all_written tt c.loop-d.invariant (no_line_left (line_of c.args.step) c.args.discs.now c.loop-d.d-index c.loop-d-test.false)
