use Rattle.std.proofs.Common.{ℕ, List, length, sym, subst}
use Rattle.std.specs.Io.KnownBytes.{Appends}
use Rattle.spot_terms.specs.Causes.{AppendsFront}
use Rattle.spot_run.proofs.AreaTells.{done_is_written, done_is_no_fault}
use Rattle.spot_run.proofs.Drawings.{opens, limit_passed_tells, last_of, drawing_is, drawing_room, fault_tells, drawn_tells}
use Rattle.spot_run.proofs.draw.draw_over.Goals as goal

pub open_run-requires : goal.open_run-requires
open_run-requires g c = opens c.args.scenario.now c.args.command.now c.requires.task c.args.ego.now c.args.prediction.now c.requires.ego c.requires.predicted c.requires.command

pub returns-in-Err-clause-tells : goal.returns-in-Err-clause-tells
returns-in-Err-clause-tells g c = limit_passed_tells c.args.scenario.now c.args.command.now c.requires.task c.args.ego.now c.args.prediction.now c.requires.ego c.requires.predicted (g.K.Sink.written c.args.sink.now) (g.K.Sink.written c.args.sink.now) c.in-Err.status c.in-Err.ensures.err

pub draw_step-requires-clause-room : goal.draw_step-requires-clause-room
draw_step-requires-clause-room g c =
    subst (λ (x : List ℕ). g.K.Sink.takes c.args.sink.now (length x)) (sym (drawing_is c.args.scenario.now c.args.ego.now c.args.prediction.now c.args.command.now.steps c.in-Ok.run' c.go_to_last.new.run c.in-Ok.ensures.ok c.go_to_last.ensures.pieces c.go_to_last.ensures.plan))
    (drawing_room c.args.scenario.now c.args.command.now c.requires.task c.args.ego.now c.args.prediction.now c.requires.ego c.requires.predicted c.go_to_last.new.run.at c.go_to_last.new.run.sets (last_of c.args.scenario.now c.args.ego.now c.args.prediction.now c.args.command.now.steps c.in-Ok.run' c.go_to_last.new.run c.in-Ok.ensures.ok c.go_to_last.ensures.last) c.in-Ok.ensures.within (λ n. g.K.Sink.takes c.args.sink.now n) c.requires.room)

pub returns-in-Ok-draw_step-clause-tells : goal.returns-in-Ok-draw_step-clause-tells
returns-in-Ok-draw_step-clause-tells g c =
    drawn_tells c.args.scenario.now c.args.command.now c.requires.task c.args.ego.now c.args.prediction.now c.requires.ego c.requires.predicted c.go_to_last.new.run.at c.go_to_last.new.run.sets (last_of c.args.scenario.now c.args.ego.now c.args.prediction.now c.args.command.now.steps c.in-Ok.run' c.go_to_last.new.run c.in-Ok.ensures.ok c.go_to_last.ensures.last) c.in-Ok.ensures.within (g.K.Sink.written c.args.sink.now) (g.K.Sink.written c.draw_step.new.sink) c.status_of.result
    (subst (λ (x : List ℕ). Appends (g.K.Sink.written c.args.sink.now) (g.K.Sink.written c.draw_step.new.sink) x) (drawing_is c.args.scenario.now c.args.ego.now c.args.prediction.now c.args.command.now.steps c.in-Ok.run' c.go_to_last.new.run c.in-Ok.ensures.ok c.go_to_last.ensures.pieces c.go_to_last.ensures.plan) c.in-Ok-draw_step.ensures.ok) c.status_of.ensures

pub returns-in-Ok-draw_step-clause-kept : goal.returns-in-Ok-draw_step-clause-kept
returns-in-Ok-draw_step-clause-kept g c = λ none. absurd (none (done_is_written c.go_to_last.new.run.at c.go_to_last.new.run.sets c.status_of.result c.status_of.ensures))

pub returns-in-Ok-draw_step-clause-cause : goal.returns-in-Ok-draw_step-clause-cause
returns-in-Ok-draw_step-clause-cause g c = λ e. absurd (done_is_no_fault c.go_to_last.new.run.at c.go_to_last.new.run.sets c.status_of.result c.status_of.ensures e)

pub returns-clause-tells : goal.returns-clause-tells
returns-clause-tells g c =
    fault_tells c.args.scenario.now c.args.command.now c.requires.task c.args.ego.now c.args.prediction.now c.requires.ego c.requires.predicted c.go_to_last.new.run.at c.go_to_last.new.run.sets (last_of c.args.scenario.now c.args.ego.now c.args.prediction.now c.args.command.now.steps c.in-Ok.run' c.go_to_last.new.run c.in-Ok.ensures.ok c.go_to_last.ensures.last) c.in-Ok.ensures.within (g.K.Sink.written c.args.sink.now) (g.K.Sink.written c.draw_step.new.sink)
    (subst (λ (x : List ℕ). AppendsFront (g.K.Sink.written c.args.sink.now) (g.K.Sink.written c.draw_step.new.sink) x) (drawing_is c.args.scenario.now c.args.ego.now c.args.prediction.now c.args.command.now.steps c.in-Ok.run' c.go_to_last.new.run c.in-Ok.ensures.ok c.go_to_last.ensures.pieces c.go_to_last.ensures.plan) c.in-Err-draw_step.ensures.err)
