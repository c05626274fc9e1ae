use Rattle.spot_run.proofs.Predictions.{predict_room, predict_tells}
use Rattle.spot_run.proofs.run.write_output.Goals as goal

pub write_report-requires-clause-room : goal.write_report-requires-clause-room
write_report-requires-clause-room g c = predict_room c.args.scenario.now c.args.command.now c.in-Predict.is c.requires.command (λ n. g.K.Sink.takes c.args.sink.now n) c.requires.room

pub returns-in-Predict-clause-tells : goal.returns-in-Predict-clause-tells
returns-in-Predict-clause-tells g c =
    predict_tells c.args.scenario.now c.args.command.now c.in-Predict.is c.requires.command (g.K.Sink.written c.args.sink.now) (g.K.Sink.written c.write_report.new.sink) c.write_report.result c.requires.ids c.write_report.ensures.report
