use Rattle.std.proofs.Common.{◌≡◌, ◌∙◌, ◌++◌, ℕ, List, ap, sym, refl}
use Rattle.spot_terms.specs.Report.{head_line, time_line, line_text, report_text}
use Rattle.spot_terms.specs.declared.lines.Mode.{Mode}
use Rattle.spot_terms.specs.declared.scenario.Mover.{Mover}
use Rattle.spot_terms.specs.declared.scenario.Scenario.{Scenario}
use Rattle.spot_io.proofs.Writing.{nothing_yet, next_written, last_written, fault_next, takes_next, takes_rest}
use Rattle.participants.specs.declared.participant.Participant.{Participant}
use Rattle.spot_run.specs.Lines.{obstacle_lines, front_lines}
use Rattle.text_report.proofs.ReportLines.{report_text-cons}
use Rattle.spot_run.proofs.report.write_front.Goals as goal

-- the head, the time and the obstacles
parts : (mode : Mode) (s : Scenario) (steps : ℕ) (ps : List Participant) (ms : List Mover) → ms ≡ s.movers
    → report_text (front_lines mode s steps ps) ≡ line_text (head_line mode) ++ (line_text (time_line s.step steps) ++ report_text (obstacle_lines ms ps))
parts mode s steps ps ms e =
    report_text-cons (head_line mode) _ ∙ ap (λ (x : List ℕ). line_text (head_line mode) ++ x) (report_text-cons (time_line s.step steps) (obstacle_lines s.movers ps))
    ∙ ap (λ (ns : List Mover). line_text (head_line mode) ++ (line_text (time_line s.step steps) ++ report_text (obstacle_lines ns ps))) (sym e)

pub write_head-requires : goal.write_head-requires
write_head-requires g c =
    takes_next {sink = g.K.Sink} (line_text (head_line c.args.mode)) _ (nothing_yet c.args.sink.now _) (parts c.args.mode c.args.scenario.now c.args.steps c.args.participants.now _ refl) (g.met.K.Sink.fewer c.args.sink.now) c.requires.room

pub returns-in_err-write_head : goal.returns-in_err-write_head
returns-in_err-write_head g c =
    fault_next _ c.from_residual.result (nothing_yet _ _) (parts c.args.mode c.args.scenario.now c.args.steps c.args.participants.now _ refl) c.in_err-write_head.ensures c.from_residual.ensures.0

pub write_time-requires : goal.write_time-requires
write_time-requires g c =
    takes_next (line_text (time_line c.args.scenario.now.step c.args.steps)) _ (next_written (nothing_yet _ _) (parts c.args.mode c.args.scenario.now c.args.steps c.args.participants.now _ refl) c.in_ok-write_head.ensures) refl
    (g.met.K.Sink.fewer c.write_head.new.sink) c.requires.room

pub returns-in_err-write_time : goal.returns-in_err-write_time
returns-in_err-write_time g c =
    fault_next _ c.from_residual-in_err-write_time.result (next_written (nothing_yet _ _) (parts c.args.mode c.args.scenario.now c.args.steps c.args.participants.now _ refl) c.in_ok-write_head.ensures) refl c.in_err-write_time.ensures
    c.from_residual-in_err-write_time.ensures.0

pub write_obstacles-requires-clause-room : goal.write_obstacles-requires-clause-room
write_obstacles-requires-clause-room g c =
    takes_rest (next_written (next_written (nothing_yet _ _) (parts c.args.mode c.args.scenario.now c.args.steps c.args.participants.now c.list.result.now c.list.ensures) c.in_ok-write_head.ensures) refl c.in_ok-write_time.ensures) c.requires.room

pub returns : goal.returns
returns g c =
    last_written (next_written (next_written (nothing_yet _ _) (parts c.args.mode c.args.scenario.now c.args.steps c.args.participants.now c.list.result.now c.list.ensures) c.in_ok-write_head.ensures) refl c.in_ok-write_time.ensures)
    c.write_obstacles.ensures
