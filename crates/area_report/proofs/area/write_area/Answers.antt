use Rattle.std.proofs.Common.{◌≡◌, true}
use Rattle.area_report.specs.Areas.{GoesOn}
use Rattle.area_report.proofs.RunSteps.{IsAfter}
use Rattle.area_report.proofs.RunTexts.{takes_start, start_written, start_fault, takes_step, step_written, step_fault, takes_last, last_written}
use Rattle.area_report.proofs.area.write_area.Goals as goal

pub write_step-requires : goal.write_step-requires
write_step-requires g c = takes_start g.O.Occupied.count g.O.Occupied.hits (g.R.Recording.recorded c.args.recording.now) g.K.Sink c.args.run.now c.args.sink.now c.at-step.result c.discs.result.now c.sets.result.now c.discs.ensures c.requires.first c.at-step.ensures c.sets.ensures.sets c.sets.ensures.list c.sets.ensures.few c.requires.room

pub returns-in_err-write_step : goal.returns-in_err-write_step
returns-in_err-write_step g c = start_fault g.O.Occupied.count g.O.Occupied.hits (g.R.Recording.recorded c.args.recording.now) g.K.Sink c.args.run.now c.args.sink.now c.write_step.new.sink c.at-step.result _ c.discs.result.now c.sets.result.now _ c.from_residual.result c.discs.ensures c.requires.first c.at-step.ensures c.sets.ensures.sets c.sets.ensures.list c.sets.ensures.few
    c.in_err-write_step.ensures c.from_residual.ensures.0

pub loop-run-init : goal.loop-run-init
loop-run-init g c = start_written g.O.Occupied.count g.O.Occupied.hits (g.R.Recording.recorded c.args.recording.now) g.K.Sink c.args.run.now c.args.sink.now c.write_step.new.sink c.at-step.result c.discs.result.now c.sets.result.now c.discs.ensures c.requires.first c.at-step.ensures c.sets.ensures.sets c.sets.ensures.list c.sets.ensures.few c.sets.ensures.holds
    c.in_ok-write_step.ensures

pub write_step-requires-in-loop-run : goal.write_step-requires-in-loop-run
write_step-requires-in-loop-run g c =
    let after : IsAfter g.O.Occupied.count g.O.Occupied.hits c.loop-run.run c.step.new.self = record { pieces = c.step.ensures.pieces; plan = c.step.ensures.plan; steps = c.step.ensures.steps; at = c.step.ensures.at; list = c.step.ensures.list } in
    takes_step g.O.Occupied.count g.O.Occupied.hits (g.R.Recording.recorded c.args.recording.now) g.K.Sink c.args.run.now c.loop-run.run c.step.new.self c.args.sink.now c.loop-run.sink c.at-step-in-loop-run.result c.discs-in-loop-run.result.now c.sets-in-loop-run.result.now c.discs-in-loop-run.ensures c.loop-run.invariant (c.goes_on.ensures.0 c.loop-run-test.true) after
    c.at-step-in-loop-run.ensures c.sets-in-loop-run.ensures.sets c.sets-in-loop-run.ensures.few c.requires.room

pub loop-run-preserved : goal.loop-run-preserved
loop-run-preserved g c =
    let after : IsAfter g.O.Occupied.count g.O.Occupied.hits c.loop-run.run c.step.new.self = record { pieces = c.step.ensures.pieces; plan = c.step.ensures.plan; steps = c.step.ensures.steps; at = c.step.ensures.at; list = c.step.ensures.list } in
    step_written g.O.Occupied.count g.O.Occupied.hits (g.R.Recording.recorded c.args.recording.now) g.K.Sink c.args.run.now c.loop-run.run c.step.new.self c.args.sink.now c.loop-run.sink c.write_step-in-loop-run.new.sink c.at-step-in-loop-run.result c.discs-in-loop-run.result.now c.sets-in-loop-run.result.now c.discs-in-loop-run.ensures c.loop-run.invariant (c.goes_on.ensures.0 c.loop-run-test.true) after
    c.at-step-in-loop-run.ensures c.sets-in-loop-run.ensures.sets c.sets-in-loop-run.ensures.few c.sets-in-loop-run.ensures.holds c.in_ok-write_step-2.ensures

pub returns-in_err-write_step-2 : goal.returns-in_err-write_step-2
returns-in_err-write_step-2 g c =
    let after : IsAfter g.O.Occupied.count g.O.Occupied.hits c.loop-run.run c.step.new.self = record { pieces = c.step.ensures.pieces; plan = c.step.ensures.plan; steps = c.step.ensures.steps; at = c.step.ensures.at; list = c.step.ensures.list } in
    step_fault g.O.Occupied.count g.O.Occupied.hits (g.R.Recording.recorded c.args.recording.now) g.K.Sink c.args.run.now c.loop-run.run c.step.new.self c.args.sink.now c.loop-run.sink c.write_step-in-loop-run.new.sink c.at-step-in-loop-run.result _ c.discs-in-loop-run.result.now c.sets-in-loop-run.result.now _ c.from_residual-in_err-write_step-2.result c.discs-in-loop-run.ensures c.loop-run.invariant
    (c.goes_on.ensures.0 c.loop-run-test.true) after c.at-step-in-loop-run.ensures c.sets-in-loop-run.ensures.sets c.sets-in-loop-run.ensures.few c.in_err-write_step-2.ensures c.from_residual-in_err-write_step-2.ensures.0

pub write_end-requires : goal.write_end-requires
write_end-requires g c =
    let none : GoesOn c.loop-run.run.at c.loop-run.run.steps c.loop-run.run.sets → ⊥ = λ h. let goes : c.goes_on.result ≡ true = c.goes_on.ensures.1 h in cc (goes, c.loop-run-test.false) in
    takes_last g.O.Occupied.count g.O.Occupied.hits (g.R.Recording.recorded c.args.recording.now) g.K.Sink c.args.run.now c.loop-run.run c.args.sink.now c.loop-run.sink c.end_of.result c.loop-run.invariant none c.end_of.ensures c.requires.room

pub returns : goal.returns
returns g c =
    let none : GoesOn c.loop-run.run.at c.loop-run.run.steps c.loop-run.run.sets → ⊥ = λ h. let goes : c.goes_on.result ≡ true = c.goes_on.ensures.1 h in cc (goes, c.loop-run-test.false) in
    last_written g.O.Occupied.count g.O.Occupied.hits (g.R.Recording.recorded c.args.recording.now) g.K.Sink c.args.run.now c.loop-run.run c.args.sink.now c.loop-run.sink c.write_end.new.sink c.end_of.result c.write_end.result c.loop-run.invariant none c.end_of.ensures c.write_end.ensures
