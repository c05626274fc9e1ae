use Rattle.std.proofs.Common.{◌≡◌, true}
use Rattle.area_report.specs.Areas.{GoesOn}
use Rattle.area_report.proofs.RunSteps.{IsAfter}
use Rattle.area_report.proofs.Totals.{start_counted, step_counted, all_counted}
use Rattle.area_report.proofs.total.total_of.Goals as goal

pub loop-run-init : goal.loop-run-init
loop-run-init g c = start_counted g.O.Occupied.count g.O.Occupied.hits c.args.run.now c.set_count-sets.result c.requires.first c.set_count-sets.ensures.list c.set_count-sets.ensures.count c.set_count-sets.ensures.small

pub loop-run-preserved : goal.loop-run-preserved
loop-run-preserved g c =
    let after : IsAfter g.O.Occupied.count g.O.Occupied.hits c.loop-run.run c.step.new.self = record { pieces = c.step.ensures.pieces; plan = c.step.ensures.plan; steps = c.step.ensures.steps; at = c.step.ensures.at; list = c.step.ensures.list } in
    step_counted g.O.Occupied.count g.O.Occupied.hits c.args.run.now c.loop-run.run c.step.new.self c.loop-run.sets c.set_count-sets-in-loop-run.result c.loop-run.invariant (c.goes_on.ensures.0 c.loop-run-test.true) after
    c.set_count-sets-in-loop-run.ensures.count c.set_count-sets-in-loop-run.ensures.small

pub returns : goal.returns
returns g c =
    let none : GoesOn c.loop-run.run.at c.loop-run.run.steps c.loop-run.run.sets → ⊥ = λ h. let goes : c.goes_on.result ≡ true = c.goes_on.ensures.1 h in cc (goes, c.loop-run-test.false) in
    all_counted g.O.Occupied.count g.O.Occupied.hits c.args.run.now c.loop-run.run (record { sets = c.loop-run.sets; end = c.end_of.result }) c.loop-run.invariant none c.end_of.ensures
