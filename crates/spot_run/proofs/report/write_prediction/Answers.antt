use Rattle.std.proofs.Common.{◌≡◌, ◌∙◌, ◌++◌, ℕ, List, ap}
use Rattle.spot_terms.specs.Report.{last_line, line_text, report_text}
use Rattle.spot_terms.specs.declared.lines.End.TheVariants.{Done}
use Rattle.spot_terms.specs.declared.lines.Mode.TheVariants.{Predict}
use Rattle.spot_terms.specs.declared.scenario.Scenario.{Scenario}
use Rattle.spot_io.proofs.Writing.{nothing_yet, next_written, last_written, fault_next, takes_next, takes_rest}
use Rattle.participants.specs.Predictions.{Occupancies}
use Rattle.spot_run.specs.Lines.{opening_lines}
use Rattle.spot_run.specs.Writes.{report_of}
use Rattle.text_report.proofs.ReportLines.{report_text-append, report_text-one}
use Rattle.spot_run.proofs.report.write_prediction.Goals as goal

-- the traffic and the end
parts : (s : Scenario) (steps : ℕ) (o : Occupancies) → report_of s steps o ≡ report_text (opening_lines Predict s.step steps s.movers o) ++ line_text (last_line Done)
parts s steps o =
    report_text-append (opening_lines Predict s.step steps s.movers o) _
    ∙ ap (λ (x : List ℕ). report_text (opening_lines Predict s.step steps s.movers o) ++ x) (report_text-one (last_line Done))

pub write_traffic-requires-clause-room : goal.write_traffic-requires-clause-room
write_traffic-requires-clause-room g c =
    takes_next {sink = g.K.Sink} (report_text (opening_lines Predict c.args.scenario.now.step c.args.steps c.args.scenario.now.movers c.args.prediction.now)) _ (nothing_yet c.args.sink.now _) (parts c.args.scenario.now c.args.steps c.args.prediction.now)
    (g.met.K.Sink.fewer c.args.sink.now) c.requires.room

pub returns-in_err-write_traffic : goal.returns-in_err-write_traffic
returns-in_err-write_traffic g c = fault_next _ c.from_residual.result (nothing_yet _ _) (parts c.args.scenario.now c.args.steps c.args.prediction.now) c.in_err-write_traffic.ensures c.from_residual.ensures.0

pub write_end-requires : goal.write_end-requires
write_end-requires g c = takes_rest (next_written (nothing_yet _ _) (parts c.args.scenario.now c.args.steps c.args.prediction.now) c.in_ok-write_traffic.ensures) c.requires.room

pub returns : goal.returns
returns g c = last_written (next_written (nothing_yet _ _) (parts c.args.scenario.now c.args.steps c.args.prediction.now) c.in_ok-write_traffic.ensures) c.write_end.ensures
