use Rattle.std.proofs.Common.{◌≡◌, ◌∙◌, ◌++◌, ap, sym, append_assoc}
use Rattle.spot_terms.specs.Report.{Text, last_line, line_text}
use Rattle.spot_terms.specs.Summaries.{summary_text}
use Rattle.spot_io.proofs.Writing.{nothing_yet, next_written, last_written, fault_next, takes_next, takes_rest}
use Rattle.text_report.specs.Summaries.{value_of, made_line, lanes_line, sets_line}
use Rattle.text_report.specs.declared.summary.Summary.{Summary}
use Rattle.text_report.proofs.summary.write_summary.Goals as goal

-- what stands behind the first line, and behind the second
abbrev behind_lanes : Summary → Text
behind_lanes s = sets_line s ++ line_text (last_line s.end)

abbrev behind_made : Summary → Text
behind_made s = lanes_line s ++ behind_lanes s

-- its four lines
parts : (s : Summary) → summary_text (value_of s) ≡ made_line s ++ behind_made s
unfolding summary_text
parts s = append_assoc (made_line s ++ lanes_line s) (sets_line s) (line_text (last_line s.end)) ∙ append_assoc (made_line s) (lanes_line s) (behind_lanes s)

-- a line as the buffer has it
next : (line made rest : Text) → made ≡ line → line ++ rest ≡ made ++ rest
next line made rest e = ap (λ (x : Text). x ++ rest) (sym e)

first : (s : Summary) (made : Text) → made ≡ made_line s → summary_text (value_of s) ≡ made ++ behind_made s
first s made e = parts s ∙ next (made_line s) made (behind_made s) e

pub write-requires : goal.write-requires
write-requires g c =
    takes_next {sink = g.K.Sink} c.put_made.new.line _ (nothing_yet c.args.sink.now _) (first c.args.s.now c.put_made.new.line c.put_made.ensures) (g.met.K.Sink.fewer c.args.sink.now) c.requires

pub returns-in_err-write : goal.returns-in_err-write
returns-in_err-write g c = fault_next _ c.from_residual.result (nothing_yet _ _) (first c.args.s.now c.put_made.new.line c.put_made.ensures) c.in_err-write.ensures c.from_residual.ensures.0

pub write-requires-2 : goal.write-requires-2
write-requires-2 g c =
    takes_next c.put_lanes.new.line _ (next_written (nothing_yet _ _) (first c.args.s.now c.put_made.new.line c.put_made.ensures) c.in_ok-write.ensures) (next (lanes_line c.args.s.now) c.put_lanes.new.line (behind_lanes c.args.s.now) c.put_lanes.ensures)
    (g.met.K.Sink.fewer c.write.new.sink) c.requires

pub returns-in_err-write-2 : goal.returns-in_err-write-2
returns-in_err-write-2 g c =
    fault_next _ c.from_residual-in_err-write-2.result (next_written (nothing_yet _ _) (first c.args.s.now c.put_made.new.line c.put_made.ensures) c.in_ok-write.ensures) (next (lanes_line c.args.s.now) c.put_lanes.new.line (behind_lanes c.args.s.now) c.put_lanes.ensures)
    c.in_err-write-2.ensures c.from_residual-in_err-write-2.ensures.0

pub write-requires-3 : goal.write-requires-3
write-requires-3 g c =
    takes_next c.put_sets.new.line _
    (next_written (next_written (nothing_yet _ _) (first c.args.s.now c.put_made.new.line c.put_made.ensures) c.in_ok-write.ensures) (next (lanes_line c.args.s.now) c.put_lanes.new.line (behind_lanes c.args.s.now) c.put_lanes.ensures) c.in_ok-write-2.ensures)
    (next (sets_line c.args.s.now) c.put_sets.new.line (line_text (last_line c.args.s.now.end)) c.put_sets.ensures) (g.met.K.Sink.fewer c.write-2.new.sink) c.requires

pub returns-in_err-write-3 : goal.returns-in_err-write-3
returns-in_err-write-3 g c =
    fault_next _ c.from_residual-in_err-write-3.result
    (next_written (next_written (nothing_yet _ _) (first c.args.s.now c.put_made.new.line c.put_made.ensures) c.in_ok-write.ensures) (next (lanes_line c.args.s.now) c.put_lanes.new.line (behind_lanes c.args.s.now) c.put_lanes.ensures) c.in_ok-write-2.ensures)
    (next (sets_line c.args.s.now) c.put_sets.new.line (line_text (last_line c.args.s.now.end)) c.put_sets.ensures) c.in_err-write-3.ensures c.from_residual-in_err-write-3.ensures.0

pub write_end-requires : goal.write_end-requires
write_end-requires g c =
    takes_rest
    (next_written (next_written (next_written (nothing_yet _ _) (first c.args.s.now c.put_made.new.line c.put_made.ensures) c.in_ok-write.ensures) (next (lanes_line c.args.s.now) c.put_lanes.new.line (behind_lanes c.args.s.now) c.put_lanes.ensures) c.in_ok-write-2.ensures)
    (next (sets_line c.args.s.now) c.put_sets.new.line (line_text (last_line c.args.s.now.end)) c.put_sets.ensures) c.in_ok-write-3.ensures)
    c.requires

pub returns : goal.returns
returns g c =
    last_written
    (next_written (next_written (next_written (nothing_yet _ _) (first c.args.s.now c.put_made.new.line c.put_made.ensures) c.in_ok-write.ensures) (next (lanes_line c.args.s.now) c.put_lanes.new.line (behind_lanes c.args.s.now) c.put_lanes.ensures) c.in_ok-write-2.ensures)
    (next (sets_line c.args.s.now) c.put_sets.new.line (line_text (last_line c.args.s.now.end)) c.put_sets.ensures) c.in_ok-write-3.ensures)
    c.write_end.ensures
