use Rattle.std.proofs.Common.{◌≡◌, ◌∙◌, ◌++◌, ℕ, List, ap}
use Rattle.spot_terms.specs.Report.{ego_line, line_text, report_text}
use Rattle.spot_terms.specs.declared.lines.Mode.TheVariants.{Area}
use Rattle.spot_terms.specs.declared.scenario.Scenario.{Scenario}
use Rattle.spot_io.proofs.Writing.{nothing_yet, next_written, last_written, fault_next, takes_next, takes_rest}
use Rattle.participants.specs.Predictions.{Occupancies}
use Rattle.text_report.specs.Values.{ego_value}
use Rattle.text_report.specs.declared.ego_line.EgoLine.{EgoLine}
use Rattle.text_report.proofs.ReportLines.{report_text-append, report_text-one}
use Rattle.spot_run.specs.Areas.{opening_text}
use Rattle.spot_run.specs.Lines.{opening_lines}
use Rattle.spot_run.proofs.area.write_opening.Goals as goal

-- the traffic and the ego
parts : (s : Scenario) (steps : ℕ) (o : Occupancies) (e : EgoLine) → opening_text s steps o e ≡ report_text (opening_lines Area s.step steps s.movers o) ++ line_text (ego_line (ego_value e))
parts s steps o e =
    report_text-append (opening_lines Area s.step steps s.movers o) _
    ∙ ap (λ (x : List ℕ). report_text (opening_lines Area s.step steps s.movers o) ++ x) (report_text-one (ego_line (ego_value e)))

pub write_traffic-requires-clause-room : goal.write_traffic-requires-clause-room
write_traffic-requires-clause-room g c =
    takes_next {sink = g.K.Sink} (report_text (opening_lines Area c.args.scenario.now.step c.args.steps c.args.scenario.now.movers c.args.prediction.now)) _ (nothing_yet c.args.sink.now _)
    (parts c.args.scenario.now c.args.steps c.args.prediction.now c.args.ego.now) (g.met.K.Sink.fewer c.args.sink.now) c.requires.room

pub returns-in_err-write_traffic : goal.returns-in_err-write_traffic
returns-in_err-write_traffic g c =
    fault_next _ c.from_residual.result (nothing_yet _ _) (parts c.args.scenario.now c.args.steps c.args.prediction.now c.args.ego.now) c.in_err-write_traffic.ensures c.from_residual.ensures.0

pub write_ego-requires : goal.write_ego-requires
write_ego-requires g c = takes_rest (next_written (nothing_yet _ _) (parts c.args.scenario.now c.args.steps c.args.prediction.now c.args.ego.now) c.in_ok-write_traffic.ensures) c.requires.room

pub returns : goal.returns
returns g c = last_written (next_written (nothing_yet _ _) (parts c.args.scenario.now c.args.steps c.args.prediction.now c.args.ego.now) c.in_ok-write_traffic.ensures) c.write_ego.ensures
