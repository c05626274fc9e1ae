use Rattle.std.proofs.Common.{◌≡◌, ◌∙◌, ◌+◌, ◌<◌, ◌≤◌, ℕ, List, [], drop, get_or, length, ap, ◌++◌}
use Rattle.std.proofs.lemmas.List.{drop_more, drop_all}
use Rattle.spot_terms.specs.Report.{occ_line, line_text, report_text}
use Rattle.convex_poly.specs.declared.oct_numbers.OctNumbers.{OctNumbers}
use Rattle.spot_run.specs.Lines.{octagon_lines}
use Rattle.text_report.proofs.ReportLines.{report_text-cons, report_text-nil}
use Rattle.spot_io.proofs.Writing.{nothing_yet, next_written, fault_next, takes_next, all_written}
use Rattle.spot_run.proofs.report.write_intervals.Goals as goal

none : OctNumbers
none = record { n = [] }

next : (id i : ℕ) (os : List OctNumbers) → i < length os
    → report_text (octagon_lines id i (drop i os)) ≡ line_text (occ_line id i (get_or os i none).n) ++ report_text (octagon_lines id (i + 1) (drop (i + 1) os))
next id i os h = ap (λ (xs : List OctNumbers). report_text (octagon_lines id i xs)) (drop_more os i none h) ∙ report_text-cons (occ_line id i (get_or os i none).n) (octagon_lines id (i + 1) (drop (i + 1) os))

past : (id i : ℕ) (os : List OctNumbers) → length os ≤ i → report_text (octagon_lines id i (drop i os)) ≡ []
past id i os h = ap (λ (xs : List OctNumbers). report_text (octagon_lines id i xs)) (drop_all i os h) ∙ report_text-nil

pub loop-i-init : goal.loop-i-init
loop-i-init g c = nothing_yet _ _

pub write_occ-requires : goal.write_occ-requires
unfolding none
write_occ-requires g c =
    let os = c.args.octagons.now in
    let i = c.loop-i.i in
    takes_next (line_text (occ_line c.args.id i (get_or os i none).n)) (report_text (octagon_lines c.args.id (i + 1) (drop (i + 1) os))) c.loop-i.invariant (next c.args.id i os c.loop-i-test.true) (g.met.K.Sink.fewer c.loop-i.sink) c.requires.room

pub returns-in_err-write_occ : goal.returns-in_err-write_occ
unfolding none
returns-in_err-write_occ g c =
    let os = c.args.octagons.now in
    let i = c.loop-i.i in
    fault_next _ c.from_residual.result c.loop-i.invariant (next c.args.id i os c.loop-i-test.true) c.in_err-write_occ.ensures c.from_residual.ensures.0

pub loop-i-preserved : goal.loop-i-preserved
unfolding none
loop-i-preserved g c =
    let os = c.args.octagons.now in
    let i = c.loop-i.i in
    next_written c.loop-i.invariant (next c.args.id i os c.loop-i-test.true) c.in_ok-write_occ.ensures

pub returns : goal.returns
returns g c = all_written tt c.loop-i.invariant (past c.args.id c.loop-i.i c.args.octagons.now c.loop-i-test.false)
