use Rattle.std.proofs.Common.{◌++◌, ℕ, List, length}
use Rattle.area_run.specs.Plans.{course_of}
use Rattle.area_run.specs.declared.plan.Plan.{Plan}
use Rattle.area_report.specs.Areas.{IsStepsText}
use Rattle.replay_sets.specs.Discs.{DiscLists, discs_at, pieces_at}
use Rattle.spot_run.specs.Areas.{discs_count, discs_hits, replay_opening, HasWrittenAll, HasBegun}
use Rattle.spot_run.proofs.ReplayReports.{can_open, replay_over}
use Rattle.spot_run.proofs.AreaTells.{of_run, to_run, done_is_written, done_is_no_fault, area_tells, area_room, fault_tells, whole_tells}
use Rattle.spot_run.proofs.replay.write_over.Goals as goal

pub open_run-requires : goal.open_run-requires
open_run-requires g c = can_open c.args.scenario.now c.args.command.now c.args.ego.now c.args.recorded.now c.requires.ego c.requires.recorded c.requires.command

pub returns-in-Err-clause-tells : goal.returns-in-Err-clause-tells
returns-in-Err-clause-tells g c =
    area_tells c.args.scenario.now c.args.command.now c.args.ego.now c.requires.ego (replay_opening c.args.scenario.now c.args.command.now.steps c.args.ego.now) (discs_at c.args.recorded.now) (pieces_at c.args.recorded.now)
    (replay_over c.args.scenario.now c.args.command.now c.requires.task c.args.ego.now c.args.recorded.now c.requires.ego c.requires.recorded c.requires.command)
    (g.K.Sink.written c.args.sink.now) (g.K.Sink.written c.args.sink.now) c.in-Err.status c.in-Err.ensures.err

pub write_lines-requires-clause-room : goal.write_lines-requires-clause-room
write_lines-requires-clause-room g c =
    of_run discs_count discs_hits c.args.scenario.now c.args.ego.now c.args.recorded.now c.args.command.now.steps c.in-Ok.run' c.in-Ok.ensures.ok
    (λ (p : Plan) (o : DiscLists) (n : ℕ). (text : List ℕ) → IsStepsText (discs_at c.args.recorded.now) (course_of p) (discs_count o) (discs_hits o) n text → g.K.Sink.takes c.args.sink.now (length ((replay_opening c.args.scenario.now n c.args.ego.now) ++ text)))
    (area_room c.args.scenario.now c.args.command.now c.args.ego.now c.requires.ego (replay_opening c.args.scenario.now c.args.command.now.steps c.args.ego.now) (discs_at c.args.recorded.now) (pieces_at c.args.recorded.now)
    (replay_over c.args.scenario.now c.args.command.now c.requires.task c.args.ego.now c.args.recorded.now c.requires.ego c.requires.recorded c.requires.command)
    c.in-Ok.ensures.within (λ n. g.K.Sink.takes c.args.sink.now n) c.requires.room)

pub returns-in-Ok-write_lines-clause-tells : goal.returns-in-Ok-write_lines-clause-tells
returns-in-Ok-write_lines-clause-tells g c =
    whole_tells c.args.scenario.now c.args.command.now c.args.ego.now c.requires.ego (replay_opening c.args.scenario.now c.args.command.now.steps c.args.ego.now) (discs_at c.args.recorded.now) (pieces_at c.args.recorded.now)
    (replay_over c.args.scenario.now c.args.command.now c.requires.task c.args.ego.now c.args.recorded.now c.requires.ego c.requires.recorded c.requires.command)
    c.in-Ok.ensures.within (g.K.Sink.written c.args.sink.now) (g.K.Sink.written c.write_lines.new.sink) c.status_of.result c.write_lines.new.run.at c.write_lines.new.run.sets
    (to_run discs_count discs_hits c.args.scenario.now c.args.ego.now c.args.recorded.now c.args.command.now.steps c.in-Ok.run' c.in-Ok.ensures.ok
    (λ (p : Plan) (o : DiscLists) (n : ℕ). HasWrittenAll (replay_opening c.args.scenario.now n c.args.ego.now) (discs_at c.args.recorded.now) (course_of p) (discs_count o) (discs_hits o) n (g.K.Sink.written c.args.sink.now) (g.K.Sink.written c.write_lines.new.sink) c.write_lines.new.run.at c.write_lines.new.run.sets)
    c.in-Ok-write_lines.ensures.ok)
    c.status_of.ensures

pub returns-in-Ok-write_lines-clause-kept : goal.returns-in-Ok-write_lines-clause-kept
returns-in-Ok-write_lines-clause-kept g c = λ none. absurd (none (done_is_written c.write_lines.new.run.at c.write_lines.new.run.sets c.status_of.result c.status_of.ensures))

pub returns-in-Ok-write_lines-clause-cause : goal.returns-in-Ok-write_lines-clause-cause
returns-in-Ok-write_lines-clause-cause g c = λ e. absurd (done_is_no_fault c.write_lines.new.run.at c.write_lines.new.run.sets c.status_of.result c.status_of.ensures e)

pub returns-clause-tells : goal.returns-clause-tells
returns-clause-tells g c =
    let (text, is, front) = to_run discs_count discs_hits c.args.scenario.now c.args.ego.now c.args.recorded.now c.args.command.now.steps c.in-Ok.run' c.in-Ok.ensures.ok
    (λ (p : Plan) (o : DiscLists) (n : ℕ). HasBegun (replay_opening c.args.scenario.now n c.args.ego.now) (discs_at c.args.recorded.now) (course_of p) (discs_count o) (discs_hits o) n (g.K.Sink.written c.args.sink.now) (g.K.Sink.written c.write_lines.new.sink))
    c.in-Err-write_lines.ensures.err in
    fault_tells c.args.scenario.now c.args.command.now c.args.ego.now c.requires.ego (replay_opening c.args.scenario.now c.args.command.now.steps c.args.ego.now) (discs_at c.args.recorded.now) (pieces_at c.args.recorded.now)
    (replay_over c.args.scenario.now c.args.command.now c.requires.task c.args.ego.now c.args.recorded.now c.requires.ego c.requires.recorded c.requires.command)
    c.in-Ok.ensures.within (g.K.Sink.written c.args.sink.now) (g.K.Sink.written c.write_lines.new.sink) text is front
