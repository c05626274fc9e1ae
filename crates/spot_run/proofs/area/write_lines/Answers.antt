use Rattle.std.proofs.Common.{◌++◌, ℕ, List, [], length, sym, subst}
use Rattle.area_run.specs.Plans.{course_of}
use Rattle.area_report.specs.Areas.{IsStepsText}
use Rattle.spot_run.specs.Areas.{opening_text, WritesBehind}
use Rattle.spot_run.proofs.AreaTells.{takes_opening, takes_steps, opening_fault, steps_behind}
use Rattle.spot_run.proofs.area.write_lines.Goals as goal

pub write_opening-requires-clause-room : goal.write_opening-requires-clause-room
write_opening-requires-clause-room g c =
    subst (λ (n : ℕ). g.K.Sink.takes c.args.sink.now (length (opening_text c.args.scenario.now n c.args.prediction.now c.args.ego.now))) (sym c.steps.ensures)
    (takes_opening g.K.Sink (opening_text c.args.scenario.now c.args.run.now.steps c.args.prediction.now c.args.ego.now) (λ i. []) (course_of c.args.run.now.plan) (g.O.Occupied.count c.args.run.now.o) (g.O.Occupied.hits c.args.run.now.o) c.args.run.now.steps c.args.sink.now
    c.args.run.now.sets c.requires.list (g.met.K.Sink.fewer c.args.sink.now) c.requires.room)

pub returns-in_err-write_opening : goal.returns-in_err-write_opening
returns-in_err-write_opening g c =
    subst (λ (n : ℕ). WritesBehind (opening_text c.args.scenario.now n c.args.prediction.now c.args.ego.now) (λ i. []) (course_of c.args.run.now.plan) (g.O.Occupied.count c.args.run.now.o) (g.O.Occupied.hits c.args.run.now.o) c.args.run.now.steps g.K.Sink c.args.sink.now c.write_opening.new.sink
    c.args.run.now.at c.args.run.now.sets c.from_residual.result) c.steps.ensures
    (opening_fault g.K.Sink (opening_text c.args.scenario.now c.steps.result c.args.prediction.now c.args.ego.now) (λ i. []) (course_of c.args.run.now.plan) (g.O.Occupied.count c.args.run.now.o) (g.O.Occupied.hits c.args.run.now.o) c.args.run.now.steps c.args.sink.now c.write_opening.new.sink
    c.args.run.now.at c.args.run.now.sets c.args.run.now.sets c.from_residual.result c.requires.list c.in_err-write_opening.ensures c.from_residual.ensures.0)

pub write_area-requires-clause-room : goal.write_area-requires-clause-room
write_area-requires-clause-room g c =
    takes_steps g.K.Sink (opening_text c.args.scenario.now c.steps.result c.args.prediction.now c.args.ego.now) (λ i. []) (course_of c.args.run.now.plan) (g.O.Occupied.count c.args.run.now.o) (g.O.Occupied.hits c.args.run.now.o) c.args.run.now.steps c.args.sink.now c.write_opening.new.sink
    c.in_ok-write_opening.ensures
    (subst (λ (n : ℕ). (text : List ℕ) → IsStepsText (λ i. []) (course_of c.args.run.now.plan) (g.O.Occupied.count c.args.run.now.o) (g.O.Occupied.hits c.args.run.now.o) c.args.run.now.steps text
    → g.K.Sink.takes c.args.sink.now (length (opening_text c.args.scenario.now n c.args.prediction.now c.args.ego.now ++ text))) (sym c.steps.ensures) c.requires.room)

pub returns : goal.returns
returns g c =
    subst (λ (n : ℕ). WritesBehind (opening_text c.args.scenario.now n c.args.prediction.now c.args.ego.now) (λ i. []) (course_of c.args.run.now.plan) (g.O.Occupied.count c.args.run.now.o) (g.O.Occupied.hits c.args.run.now.o) c.args.run.now.steps g.K.Sink c.args.sink.now c.write_area.new.sink
    c.write_area.new.run.at c.write_area.new.run.sets c.write_area.result) c.steps.ensures
    (steps_behind g.K.Sink (opening_text c.args.scenario.now c.steps.result c.args.prediction.now c.args.ego.now) (λ i. []) (course_of c.args.run.now.plan) (g.O.Occupied.count c.args.run.now.o) (g.O.Occupied.hits c.args.run.now.o) c.args.run.now.steps c.args.sink.now c.write_opening.new.sink
    c.write_area.new.sink c.write_area.new.run.at c.write_area.new.run.sets c.write_area.result c.in_ok-write_opening.ensures c.write_area.ensures)
