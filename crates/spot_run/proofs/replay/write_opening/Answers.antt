use Rattle.std.proofs.Common.{◌≡◌, ◌∙◌, ◌∷◌, [], ◌++◌, ℕ, List, ap, refl}
use Rattle.spot_terms.specs.Report.{head_line, time_line, ego_line, line_text}
use Rattle.spot_terms.specs.declared.lines.Mode.TheVariants.{Replay}
use Rattle.spot_terms.specs.declared.scenario.Scenario.{Scenario}
use Rattle.spot_io.proofs.Writing.{nothing_yet, next_written, last_written, fault_next, takes_next, takes_rest}
use Rattle.text_report.specs.Values.{ego_value}
use Rattle.text_report.specs.declared.ego_line.EgoLine.{EgoLine}
use Rattle.text_report.proofs.ReportLines.{report_text-cons, report_text-one}
use Rattle.spot_run.specs.Areas.{replay_opening}
use Rattle.spot_run.proofs.replay.write_opening.Goals as goal

-- the head, the time and the ego
parts : (s : Scenario) (steps : ℕ) (e : EgoLine) → replay_opening s steps e ≡ line_text (head_line Replay) ++ (line_text (time_line s.step steps) ++ line_text (ego_line (ego_value e)))
parts s steps e =
    report_text-cons (head_line Replay) (time_line s.step steps ∷ ego_line (ego_value e) ∷ [])
    ∙ ap (λ (x : List ℕ). line_text (head_line Replay) ++ x) (report_text-cons (time_line s.step steps) (ego_line (ego_value e) ∷ []))
    ∙ ap (λ (x : List ℕ). line_text (head_line Replay) ++ (line_text (time_line s.step steps) ++ x)) (report_text-one (ego_line (ego_value e)))

pub write_head-requires : goal.write_head-requires
write_head-requires g c =
    takes_next {sink = g.K.Sink} (line_text (head_line Replay)) _ (nothing_yet c.args.sink.now _) (parts c.args.scenario.now c.args.steps c.args.ego.now) (g.met.K.Sink.fewer c.args.sink.now) c.requires

pub returns-in_err-write_head : goal.returns-in_err-write_head
returns-in_err-write_head g c =
    fault_next _ c.from_residual.result (nothing_yet _ _) (parts c.args.scenario.now c.args.steps c.args.ego.now) c.in_err-write_head.ensures c.from_residual.ensures.0

pub write_time-requires : goal.write_time-requires
write_time-requires g c =
    takes_next (line_text (time_line c.args.scenario.now.step c.args.steps)) _ (next_written (nothing_yet _ _) (parts c.args.scenario.now c.args.steps c.args.ego.now) c.in_ok-write_head.ensures) refl
    (g.met.K.Sink.fewer c.write_head.new.sink) c.requires

pub returns-in_err-write_time : goal.returns-in_err-write_time
returns-in_err-write_time g c =
    fault_next _ c.from_residual-in_err-write_time.result (next_written (nothing_yet _ _) (parts c.args.scenario.now c.args.steps c.args.ego.now) c.in_ok-write_head.ensures) refl c.in_err-write_time.ensures
    c.from_residual-in_err-write_time.ensures.0

pub write_ego-requires : goal.write_ego-requires
write_ego-requires g c =
    takes_rest (next_written (next_written (nothing_yet _ _) (parts c.args.scenario.now c.args.steps c.args.ego.now) c.in_ok-write_head.ensures) refl c.in_ok-write_time.ensures) c.requires

pub returns : goal.returns
returns g c =
    last_written (next_written (next_written (nothing_yet _ _) (parts c.args.scenario.now c.args.steps c.args.ego.now) c.in_ok-write_head.ensures) refl c.in_ok-write_time.ensures)
    c.write_ego.ensures
