use Rattle.std.proofs.Common.{◌≡◌, ◌∙◌, ◌+◌, ◌<◌, ◌++◌, ℕ, List, drop, get_or, length, ap, sym}
use Rattle.std.specs.List.{flat_map}
use Rattle.spot_terms.specs.Report.{report_text}
use Rattle.convex_poly.specs.declared.oct_numbers.OctNumbers.{OctNumbers}
use Rattle.participants.specs.declared.participant.Participant.{Participant}
use Rattle.spot_run.specs.Lines.{octagon_lines, occupancy_lines}
use Rattle.text_report.proofs.ReportLines.{next_lines, no_lines_left}
use Rattle.spot_io.proofs.Writing.{nothing_yet, next_written, fault_next, takes_next, all_written}
use Rattle.spot_run.proofs.report.write_occupancies.Goals as goal

-- the octagons of the next participant, as its list gives them
next : (ps : List Participant) (i : ℕ) (p : Participant) (os : List OctNumbers) → i < length ps → p ≡ get_or ps i p → os ≡ p.octs
    → report_text (flat_map occupancy_lines (drop i ps)) ≡ report_text (octagon_lines p.id 0 os) ++ report_text (flat_map occupancy_lines (drop (i + 1) ps))
next ps i p os h e f = next_lines occupancy_lines ps i p h e ∙ ap (λ (ys : List OctNumbers). report_text (octagon_lines p.id 0 ys) ++ report_text (flat_map occupancy_lines (drop (i + 1) ps))) (sym f)

pub loop-p-init : goal.loop-p-init
loop-p-init g c = nothing_yet _ _

pub write_intervals-requires-clause-room : goal.write_intervals-requires-clause-room
write_intervals-requires-clause-room g c =
    let ps = c.args.participants.now in
    let i = c.loop-p.p-index in
    takes_next (report_text (octagon_lines c.p-item.result.id 0 c.list.result.now)) (report_text (flat_map occupancy_lines (drop (i + 1) ps))) c.loop-p.invariant (next ps i c.p-item.result c.list.result.now c.loop-p-test.true c.p-item.is c.list.ensures) (g.met.K.Sink.fewer c.loop-p.sink) c.requires.room

pub returns-in_err-write_intervals : goal.returns-in_err-write_intervals
returns-in_err-write_intervals g c =
    let ps = c.args.participants.now in
    let i = c.loop-p.p-index in
    fault_next _ c.from_residual.result c.loop-p.invariant (next ps i c.p-item.result c.list.result.now c.loop-p-test.true c.p-item.is c.list.ensures) c.in_err-write_intervals.ensures c.from_residual.ensures.0

pub loop-p-preserved : goal.loop-p-preserved
loop-p-preserved g c =
    let ps = c.args.participants.now in
    let i = c.loop-p.p-index in
    next_written c.loop-p.invariant (next ps i c.p-item.result c.list.result.now c.loop-p-test.true c.p-item.is c.list.ensures) c.in_ok-write_intervals.ensures

pub returns : goal.returns
returns g c = all_written tt c.loop-p.invariant (no_lines_left occupancy_lines c.args.participants.now c.loop-p.p-index c.loop-p-test.false)
