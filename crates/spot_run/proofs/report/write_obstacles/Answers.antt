use Rattle.std.proofs.Common.{◌+◌, ◌<◌, drop, length, arith}
use Rattle.spot_terms.specs.Report.{mover_line, late_line, line_text, report_text}
use Rattle.spot_io.proofs.Writing.{nothing_yet, next_written, fault_next, takes_next, all_written}
use Rattle.spot_run.specs.Lines.{obstacle_lines}
use Rattle.spot_run.proofs.Obstacles.{next_mover, next_late, none_left, starting_mover, starting_late}
use Rattle.spot_run.proofs.report.write_obstacles.Goals as goal
use Rattle.spot_run.proofs.report.write_obstacles.Goals.{then-m-eq0+in_ok-write_mover, else-m-eq0+in_ok-write_late}

pub loop-m-init : goal.loop-m-init
loop-m-init g c = record { enough = omega (arith, c.requires.enough); lines = nothing_yet _ _ }

pub write_mover-requires : goal.write_mover-requires
write_mover-requires g c =
    let ms = c.args.movers.now in
    let ps = c.args.participants.now in
    let i = c.loop-m.m-index in
    let j = c.loop-m.next in
    let m = c.m-item.result in
    let below : j < length ps = omega (arith, c.loop-m.invariant.enough, starting_mover ms i m c.loop-m-test.true c.m-item.is c.if-m-eq0.true) in
    takes_next (line_text (mover_line c.line_of.result)) (report_text (obstacle_lines (drop (i + 1) ms) (drop (j + 1) ps))) c.loop-m.invariant.lines
    (next_mover ms ps i j m c.index-participants-next.result c.line_of.result c.loop-m-test.true c.m-item.is c.if-m-eq0.true below c.index-participants-next.is c.line_of.ensures) (g.met.K.Sink.fewer c.loop-m.sink) c.requires.room

pub returns-in_err-write_mover : goal.returns-in_err-write_mover
returns-in_err-write_mover g c =
    let ms = c.args.movers.now in
    let ps = c.args.participants.now in
    let i = c.loop-m.m-index in
    let j = c.loop-m.next in
    let m = c.m-item.result in
    let below : j < length ps = omega (arith, c.loop-m.invariant.enough, starting_mover ms i m c.loop-m-test.true c.m-item.is c.if-m-eq0.true) in
    fault_next _ c.from_residual.result c.loop-m.invariant.lines
    (next_mover ms ps i j m c.index-participants-next.result c.line_of.result c.loop-m-test.true c.m-item.is c.if-m-eq0.true below c.index-participants-next.is c.line_of.ensures) c.in_err-write_mover.ensures c.from_residual.ensures.0

pub write_late-requires : goal.write_late-requires
write_late-requires g c =
    let ms = c.args.movers.now in
    let i = c.loop-m.m-index in
    let m = c.m-item.result in
    let qs = drop c.loop-m.next c.args.participants.now in
    takes_next (line_text (late_line m.id m.time)) (report_text (obstacle_lines (drop (i + 1) ms) qs)) c.loop-m.invariant.lines
    (next_late ms qs i m c.loop-m-test.true c.m-item.is c.if-m-eq0.false) (g.met.K.Sink.fewer c.loop-m.sink) c.requires.room

pub returns-in_err-write_late : goal.returns-in_err-write_late
returns-in_err-write_late g c =
    fault_next _ c.from_residual-in_err-write_late.result c.loop-m.invariant.lines
    (next_late c.args.movers.now (drop c.loop-m.next c.args.participants.now) c.loop-m.m-index c.m-item.result c.loop-m-test.true c.m-item.is c.if-m-eq0.false) c.in_err-write_late.ensures c.from_residual-in_err-write_late.ensures.0

pub loop-m-preserved : goal.loop-m-preserved
loop-m-preserved g c =
    let ms = c.args.movers.now in
    let ps = c.args.participants.now in
    let i = c.loop-m.m-index in
    let j = c.loop-m.next in
    let m = c.m-item.result in
    let enough = c.loop-m.invariant.enough in
    elim c.if-m-eq0.branch [
      | then-m-eq0+in_ok-write_mover w ↦
          let count = starting_mover ms i m c.loop-m-test.true c.m-item.is w.if-m-eq0.true in
          let below : j < length ps = omega (arith, enough, count) in
          rw (w.sink-is, w.next-is) (record {
            enough = omega (arith, enough, count);
            lines = next_written c.loop-m.invariant.lines
                (next_mover ms ps i j m w.index-participants-next.result w.line_of.result c.loop-m-test.true c.m-item.is w.if-m-eq0.true below w.index-participants-next.is w.line_of.ensures)
                w.in_ok-write_mover.ensures;
          })
      | else-m-eq0+in_ok-write_late w ↦
          let count = starting_late ms i m c.loop-m-test.true c.m-item.is w.if-m-eq0.false in
          rw (w.sink-is, w.next-is) (record {
            enough = omega (arith, enough, count);
            lines = next_written c.loop-m.invariant.lines (next_late ms (drop j ps) i m c.loop-m-test.true c.m-item.is w.if-m-eq0.false) w.in_ok-write_late.ensures;
          })
    ]

pub returns : goal.returns
returns g c = all_written tt c.loop-m.invariant.lines (none_left c.args.movers.now (drop c.loop-m.next c.args.participants.now) c.loop-m.m-index c.loop-m-test.false)
