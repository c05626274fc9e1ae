use Rattle.std.proofs.Common.{◌+◌, drop, length}
use Rattle.spot_terms.specs.Report.{set_line, line_text, report_text}
use Rattle.base_sets.specs.Values.{value_of}
use Rattle.spot_io.proofs.Writing.{nothing_yet, next_written, last_written, fault_next, takes_next, takes_rest, text_is}
use Rattle.area_report.proofs.StepTexts.{set_lines, step_text, next_set, up_to_count, room_is}
use Rattle.area_report.proofs.area.write_sets.Goals as goal

pub loop-b-init : goal.loop-b-init
loop-b-init g c = nothing_yet _ _

pub write-requires : goal.write-requires
write-requires g c =
    let bs = c.args.sets.now in
    let i = c.loop-b.b-index in
    let n = length bs in
    takes_next (line_text (set_line c.args.step (value_of c.b-item.result))) (report_text (set_lines c.args.step n (drop (i + 1) bs))) c.loop-b.invariant (next_set c.args.step n i bs c.b-item.result c.loop-b-test.true c.b-item.is) (g.met.K.Sink.fewer c.loop-b.sink) (room_is g.K.Sink c.args.sink.now c.args.step bs c.requires)

pub returns-in_err-write : goal.returns-in_err-write
returns-in_err-write g c =
    let bs = c.args.sets.now in
    let i = c.loop-b.b-index in
    text_is (step_text c.args.step bs) (fault_next _ c.from_residual.result c.loop-b.invariant (next_set c.args.step (length bs) i bs c.b-item.result c.loop-b-test.true c.b-item.is) c.in_err-write.ensures c.from_residual.ensures.0)

pub loop-b-preserved : goal.loop-b-preserved
loop-b-preserved g c =
    let bs = c.args.sets.now in
    let i = c.loop-b.b-index in
    next_written c.loop-b.invariant (next_set c.args.step (length bs) i bs c.b-item.result c.loop-b-test.true c.b-item.is) c.in_ok-write.ensures

pub write_count-requires : goal.write_count-requires
write_count-requires g c =
    takes_rest (up_to_count c.args.step c.loop-b.b-index c.args.sets.now c.loop-b-test.false c.loop-b.invariant) (room_is g.K.Sink c.args.sink.now c.args.step c.args.sets.now c.requires)

pub returns : goal.returns
returns g c = text_is (step_text c.args.step c.args.sets.now) (last_written (up_to_count c.args.step c.loop-b.b-index c.args.sets.now c.loop-b-test.false c.loop-b.invariant) c.write_count.ensures)
