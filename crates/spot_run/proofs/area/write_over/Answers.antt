use Rattle.std.proofs.Common.{◌++◌, ℕ, List, [], length}
use Rattle.area_run.specs.Plans.{course_of}
use Rattle.area_run.specs.declared.plan.Plan.{Plan}
use Rattle.area_report.specs.Areas.{IsStepsText}
use Rattle.participants.specs.Pieces.{pieces_at}
use Rattle.participants.specs.Predictions.{Occupancies}
use Rattle.spot_run.specs.Areas.{count_at, hits_at, opening_text, HasWrittenAll, HasBegun}
use Rattle.spot_run.proofs.AreaReports.{can_open, area_over}
use Rattle.spot_run.proofs.AreaTells.{of_run, to_run, done_is_written, done_is_no_fault, area_tells, area_room, fault_tells, whole_tells}
use Rattle.spot_run.proofs.Sizes.{enough, few}
use Rattle.spot_run.proofs.area.write_over.Goals as goal

pub open_run-requires : goal.open_run-requires
open_run-requires g c = can_open c.args.scenario.now c.args.command.now c.requires.task c.args.ego.now c.args.prediction.now c.requires.ego c.requires.predicted c.requires.command

pub write_lines-requires-clause-enough : goal.write_lines-requires-clause-enough
write_lines-requires-clause-enough g c = enough c.args.scenario.now c.args.command.now.steps c.args.prediction.now c.requires.predicted.is

pub write_lines-requires-clause-few : goal.write_lines-requires-clause-few
write_lines-requires-clause-few g c = few c.args.scenario.now c.args.command.now.steps c.args.prediction.now c.requires.command.steps.1 c.requires.predicted.is

pub returns-in-Err-clause-tells : goal.returns-in-Err-clause-tells
returns-in-Err-clause-tells g c =
    area_tells c.args.scenario.now c.args.command.now c.args.ego.now c.requires.ego (opening_text c.args.scenario.now c.args.command.now.steps c.args.prediction.now c.args.ego.now) (λ i. []) (pieces_at c.args.prediction.now)
    (area_over c.args.scenario.now c.args.command.now c.requires.task c.args.ego.now c.args.prediction.now c.requires.ego c.requires.predicted c.requires.command c.requires.ids)
    (g.K.Sink.written c.args.sink.now) (g.K.Sink.written c.args.sink.now) c.in-Err.status c.in-Err.ensures.err

pub write_lines-requires-clause-room : goal.write_lines-requires-clause-room
write_lines-requires-clause-room g c =
    of_run count_at hits_at c.args.scenario.now c.args.ego.now c.args.prediction.now c.args.command.now.steps c.in-Ok.run' c.in-Ok.ensures.ok
    (λ (p : Plan) (o : Occupancies) (n : ℕ). (text : List ℕ) → IsStepsText (λ i. []) (course_of p) (count_at o) (hits_at o) n text → g.K.Sink.takes c.args.sink.now (length ((opening_text c.args.scenario.now n c.args.prediction.now c.args.ego.now) ++ text)))
    (area_room c.args.scenario.now c.args.command.now c.args.ego.now c.requires.ego (opening_text c.args.scenario.now c.args.command.now.steps c.args.prediction.now c.args.ego.now) (λ i. []) (pieces_at c.args.prediction.now)
    (area_over c.args.scenario.now c.args.command.now c.requires.task c.args.ego.now c.args.prediction.now c.requires.ego c.requires.predicted c.requires.command c.requires.ids)
    c.in-Ok.ensures.within (λ n. g.K.Sink.takes c.args.sink.now n) c.requires.room)

pub returns-in-Ok-write_lines-clause-tells : goal.returns-in-Ok-write_lines-clause-tells
returns-in-Ok-write_lines-clause-tells g c =
    whole_tells c.args.scenario.now c.args.command.now c.args.ego.now c.requires.ego (opening_text c.args.scenario.now c.args.command.now.steps c.args.prediction.now c.args.ego.now) (λ i. []) (pieces_at c.args.prediction.now)
    (area_over c.args.scenario.now c.args.command.now c.requires.task c.args.ego.now c.args.prediction.now c.requires.ego c.requires.predicted c.requires.command c.requires.ids)
    c.in-Ok.ensures.within (g.K.Sink.written c.args.sink.now) (g.K.Sink.written c.write_lines.new.sink) c.status_of.result c.write_lines.new.run.at c.write_lines.new.run.sets
    (to_run count_at hits_at c.args.scenario.now c.args.ego.now c.args.prediction.now c.args.command.now.steps c.in-Ok.run' c.in-Ok.ensures.ok
    (λ (p : Plan) (o : Occupancies) (n : ℕ). HasWrittenAll (opening_text c.args.scenario.now n c.args.prediction.now c.args.ego.now) (λ i. []) (course_of p) (count_at o) (hits_at o) n (g.K.Sink.written c.args.sink.now) (g.K.Sink.written c.write_lines.new.sink) c.write_lines.new.run.at c.write_lines.new.run.sets)
    c.in-Ok-write_lines.ensures.ok)
    c.status_of.ensures

pub returns-in-Ok-write_lines-clause-kept : goal.returns-in-Ok-write_lines-clause-kept
returns-in-Ok-write_lines-clause-kept g c = λ none. absurd (none (done_is_written c.write_lines.new.run.at c.write_lines.new.run.sets c.status_of.result c.status_of.ensures))

pub returns-in-Ok-write_lines-clause-cause : goal.returns-in-Ok-write_lines-clause-cause
returns-in-Ok-write_lines-clause-cause g c = λ e. absurd (done_is_no_fault c.write_lines.new.run.at c.write_lines.new.run.sets c.status_of.result c.status_of.ensures e)

pub returns-clause-tells : goal.returns-clause-tells
returns-clause-tells g c =
    let (text, is, front) = to_run count_at hits_at c.args.scenario.now c.args.ego.now c.args.prediction.now c.args.command.now.steps c.in-Ok.run' c.in-Ok.ensures.ok
    (λ (p : Plan) (o : Occupancies) (n : ℕ). HasBegun (opening_text c.args.scenario.now n c.args.prediction.now c.args.ego.now) (λ i. []) (course_of p) (count_at o) (hits_at o) n (g.K.Sink.written c.args.sink.now) (g.K.Sink.written c.write_lines.new.sink))
    c.in-Err-write_lines.ensures.err in
    fault_tells c.args.scenario.now c.args.command.now c.args.ego.now c.requires.ego (opening_text c.args.scenario.now c.args.command.now.steps c.args.prediction.now c.args.ego.now) (λ i. []) (pieces_at c.args.prediction.now)
    (area_over c.args.scenario.now c.args.command.now c.requires.task c.args.ego.now c.args.prediction.now c.requires.ego c.requires.predicted c.requires.command c.requires.ids)
    c.in-Ok.ensures.within (g.K.Sink.written c.args.sink.now) (g.K.Sink.written c.write_lines.new.sink) text is front
