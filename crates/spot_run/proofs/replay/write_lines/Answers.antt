use Rattle.std.proofs.Common.{◌++◌, ℕ, List, length, sym, subst}
use Rattle.area_run.specs.Plans.{course_of}
use Rattle.replay_sets.specs.Discs.{discs_at}
use Rattle.area_report.specs.Areas.{IsStepsText}
use Rattle.spot_run.specs.Areas.{discs_count, discs_hits, replay_opening, WritesBehind}
use Rattle.spot_run.proofs.AreaTells.{takes_opening, takes_steps, opening_fault, steps_behind}
use Rattle.spot_run.proofs.replay.write_lines.Goals as goal

pub write_opening-requires : goal.write_opening-requires
write_opening-requires g c =
    subst (λ (n : ℕ). g.K.Sink.takes c.args.sink.now (length (replay_opening c.args.scenario.now n c.args.ego.now))) (sym c.steps.ensures)
    (takes_opening g.K.Sink (replay_opening c.args.scenario.now c.args.run.now.steps c.args.ego.now) (discs_at c.args.recorded.now) (course_of c.args.run.now.plan) (discs_count c.args.run.now.o) (discs_hits c.args.run.now.o) c.args.run.now.steps c.args.sink.now
    c.args.run.now.sets c.requires.list (g.met.K.Sink.fewer c.args.sink.now) c.requires.room)

pub returns-in_err-write_opening : goal.returns-in_err-write_opening
returns-in_err-write_opening g c =
    subst (λ (n : ℕ). WritesBehind (replay_opening c.args.scenario.now n c.args.ego.now) (discs_at c.args.recorded.now) (course_of c.args.run.now.plan) (discs_count c.args.run.now.o) (discs_hits c.args.run.now.o) c.args.run.now.steps g.K.Sink c.args.sink.now c.write_opening.new.sink
    c.args.run.now.at c.args.run.now.sets c.from_residual.result) c.steps.ensures
    (opening_fault g.K.Sink (replay_opening c.args.scenario.now c.steps.result c.args.ego.now) (discs_at c.args.recorded.now) (course_of c.args.run.now.plan) (discs_count c.args.run.now.o) (discs_hits c.args.run.now.o) c.args.run.now.steps c.args.sink.now c.write_opening.new.sink
    c.args.run.now.at c.args.run.now.sets c.args.run.now.sets c.from_residual.result c.requires.list c.in_err-write_opening.ensures c.from_residual.ensures.0)

pub write_area-requires-clause-room : goal.write_area-requires-clause-room
write_area-requires-clause-room g c =
    takes_steps g.K.Sink (replay_opening c.args.scenario.now c.steps.result c.args.ego.now) (discs_at c.args.recorded.now) (course_of c.args.run.now.plan) (discs_count c.args.run.now.o) (discs_hits c.args.run.now.o) c.args.run.now.steps c.args.sink.now c.write_opening.new.sink
    c.in_ok-write_opening.ensures
    (subst (λ (n : ℕ). (text : List ℕ) → IsStepsText (discs_at c.args.recorded.now) (course_of c.args.run.now.plan) (discs_count c.args.run.now.o) (discs_hits c.args.run.now.o) c.args.run.now.steps text
    → g.K.Sink.takes c.args.sink.now (length (replay_opening c.args.scenario.now n c.args.ego.now ++ text))) (sym c.steps.ensures) c.requires.room)

pub returns : goal.returns
returns g c =
    subst (λ (n : ℕ). WritesBehind (replay_opening c.args.scenario.now n c.args.ego.now) (discs_at c.args.recorded.now) (course_of c.args.run.now.plan) (discs_count c.args.run.now.o) (discs_hits c.args.run.now.o) c.args.run.now.steps g.K.Sink c.args.sink.now c.write_area.new.sink
    c.write_area.new.run.at c.write_area.new.run.sets c.write_area.result) c.steps.ensures
    (steps_behind g.K.Sink (replay_opening c.args.scenario.now c.steps.result c.args.ego.now) (discs_at c.args.recorded.now) (course_of c.args.run.now.plan) (discs_count c.args.run.now.o) (discs_hits c.args.run.now.o) c.args.run.now.steps c.args.sink.now c.write_opening.new.sink
    c.write_area.new.sink c.write_area.new.run.at c.write_area.new.run.sets c.write_area.result c.in_ok-write_opening.ensures c.write_area.ensures)
