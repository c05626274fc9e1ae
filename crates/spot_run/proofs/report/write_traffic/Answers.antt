use Rattle.std.proofs.Common.{◌≡◌, ◌∙◌, ◌++◌, ◌∷◌, ℕ, List, map, ap, sym, refl, append_assoc}
use Rattle.std.specs.List.{flat_map}
use Rattle.spot_terms.specs.Report.{Line, head_line, time_line, report_text}
use Rattle.spot_terms.specs.declared.lines.Mode.{Mode}
use Rattle.spot_terms.specs.declared.scenario.Scenario.{Scenario}
use Rattle.spot_io.proofs.Writing.{nothing_yet, next_written, last_written, fault_next, takes_next, takes_rest}
use Rattle.convex_poly.specs.declared.oct_numbers.OctNumbers.{OctNumbers}
use Rattle.participants.specs.declared.participant.Participant.{Participant}
use Rattle.participants.specs.Predictions.{Occupancies}
use Rattle.spot_run.specs.Lines.{obstacle_lines, octagon_line, lane_lines, occupancy_lines, opening_lines, front_lines, back_lines}
use Rattle.text_report.proofs.ReportLines.{report_text-append}
use Rattle.spot_run.proofs.report.write_traffic.Goals as goal

four : (a b c d : List Line) → ((a ++ b) ++ c) ++ d ≡ a ++ (b ++ (c ++ d))
four a b c d = append_assoc (a ++ b) c d ∙ append_assoc a b (c ++ d)

-- the front, the static obstacles and the back of a list of lines
lines : (mode : Mode) (s : Scenario) (steps : ℕ) (o : Occupancies) → opening_lines mode s.step steps s.movers o ≡ front_lines mode s steps o.participants ++ (map octagon_line o.fixed ++ back_lines o.participants)
lines mode s steps o = ap (λ (ls : List Line). head_line mode ∷ time_line s.step steps ∷ ls)
    (four (obstacle_lines s.movers o.participants) (map octagon_line o.fixed) (flat_map lane_lines o.participants) (flat_map occupancy_lines o.participants))

-- their texts, over the lists that the prediction gives
parts : (mode : Mode) (s : Scenario) (steps : ℕ) (o : Occupancies) (ps : List Participant) (os : List (ℕ × OctNumbers)) → ps ≡ o.participants → os ≡ o.fixed
    → report_text (opening_lines mode s.step steps s.movers o) ≡ report_text (front_lines mode s steps ps) ++ (report_text (map octagon_line os) ++ report_text (back_lines ps))
parts mode s steps o ps os e f =
    ap report_text (lines mode s steps o) ∙ report_text-append (front_lines mode s steps o.participants) (map octagon_line o.fixed ++ back_lines o.participants)
    ∙ ap (λ (x : List ℕ). report_text (front_lines mode s steps o.participants) ++ x) (report_text-append (map octagon_line o.fixed) (back_lines o.participants))
    ∙ ap (λ (qs : List Participant). report_text (front_lines mode s steps qs) ++ (report_text (map octagon_line o.fixed) ++ report_text (back_lines qs))) (sym e)
    ∙ ap (λ (ns : List (ℕ × OctNumbers)). report_text (front_lines mode s steps ps) ++ (report_text (map octagon_line ns) ++ report_text (back_lines ps))) (sym f)

pub write_front-requires-clause-room : goal.write_front-requires-clause-room
write_front-requires-clause-room g c =
    takes_next {sink = g.K.Sink} (report_text (front_lines c.args.mode c.args.scenario.now c.args.steps c.list-participants.result.now)) _ (nothing_yet c.args.sink.now _) (parts c.args.mode c.args.scenario.now c.args.steps c.args.prediction.now c.list-participants.result.now _ c.list-participants.ensures refl)
    (g.met.K.Sink.fewer c.args.sink.now) c.requires.room

pub returns-in_err-write_front : goal.returns-in_err-write_front
returns-in_err-write_front g c =
    fault_next _ c.from_residual.result (nothing_yet _ _) (parts c.args.mode c.args.scenario.now c.args.steps c.args.prediction.now c.list-participants.result.now _ c.list-participants.ensures refl) c.in_err-write_front.ensures c.from_residual.ensures.0

pub write_octagons-requires : goal.write_octagons-requires
write_octagons-requires g c =
    takes_next (report_text (map octagon_line c.fixed.result.now)) _
    (next_written (nothing_yet _ _) (parts c.args.mode c.args.scenario.now c.args.steps c.args.prediction.now c.list-participants.result.now c.fixed.result.now c.list-participants.ensures c.fixed.ensures) c.in_ok-write_front.ensures) refl
    (g.met.K.Sink.fewer c.write_front.new.sink) c.requires.room

pub returns-in_err-write_octagons : goal.returns-in_err-write_octagons
returns-in_err-write_octagons g c =
    fault_next _ c.from_residual-in_err-write_octagons.result
    (next_written (nothing_yet _ _) (parts c.args.mode c.args.scenario.now c.args.steps c.args.prediction.now c.list-participants.result.now c.fixed.result.now c.list-participants.ensures c.fixed.ensures) c.in_ok-write_front.ensures) refl
    c.in_err-write_octagons.ensures c.from_residual-in_err-write_octagons.ensures.0

pub write_back-requires-clause-room : goal.write_back-requires-clause-room
write_back-requires-clause-room g c =
    takes_rest
    (next_written (next_written (nothing_yet _ _) (parts c.args.mode c.args.scenario.now c.args.steps c.args.prediction.now c.list-participants.result.now c.fixed.result.now c.list-participants.ensures c.fixed.ensures) c.in_ok-write_front.ensures) refl c.in_ok-write_octagons.ensures)
    c.requires.room

pub returns : goal.returns
returns g c =
    last_written
    (next_written (next_written (nothing_yet _ _) (parts c.args.mode c.args.scenario.now c.args.steps c.args.prediction.now c.list-participants.result.now c.fixed.result.now c.list-participants.ensures c.fixed.ensures) c.in_ok-write_front.ensures) refl c.in_ok-write_octagons.ensures)
    c.write_back.ensures
