use Rattle.spot_run.proofs.Sizes.{enough, few}
use Rattle.spot_run.proofs.run.write_report.Goals as goal

pub write_prediction-requires-clause-enough : goal.write_prediction-requires-clause-enough
write_prediction-requires-clause-enough g c = enough c.args.scenario.now c.args.steps c.in-Ok.prediction c.in-Ok.ensures.ok.is

pub write_prediction-requires-clause-few : goal.write_prediction-requires-clause-few
write_prediction-requires-clause-few g c = few c.args.scenario.now c.args.steps c.in-Ok.prediction c.requires.steps.1 c.in-Ok.ensures.ok.is
