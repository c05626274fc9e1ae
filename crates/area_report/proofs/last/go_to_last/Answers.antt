use Rattle.std.proofs.Common.{◌≡◌, true}
use Rattle.area_report.specs.Areas.{GoesOn}
use Rattle.area_report.proofs.LastSteps.{gone_first, gone_next, gone_last}
use Rattle.area_report.proofs.last.go_to_last.Goals as goal

pub loop-run-init : goal.loop-run-init
loop-run-init g c = gone_first g.O.Occupied.count g.O.Occupied.hits c.args.run.now c.requires.first c.requires.list

pub loop-run-preserved : goal.loop-run-preserved
loop-run-preserved g c =
    gone_next g.O.Occupied.count g.O.Occupied.hits c.args.run.now c.loop-run.run c.step.new.self c.loop-run.invariant (c.goes_on.ensures.0 c.loop-run-test.true) c.step.ensures.pieces c.step.ensures.plan c.step.ensures.steps c.step.ensures.at c.step.ensures.list

pub returns-clause-within : goal.returns-clause-within
returns-clause-within g c = c.loop-run.invariant.step.within

pub returns-clause-last : goal.returns-clause-last
returns-clause-last g c =
    let none : GoesOn c.loop-run.run.at c.loop-run.run.steps c.loop-run.run.sets → ⊥ = λ h. let goes : c.goes_on.result ≡ true = c.goes_on.ensures.1 h in cc (goes, c.loop-run-test.false) in
    gone_last g.O.Occupied.count g.O.Occupied.hits c.args.run.now c.loop-run.run c.loop-run.invariant none
