use Rattle.std.proofs.Common.{◌∙◌, [], ◌∷◌, ◌++◌, ap, arith}
use Rattle.spot_terms.specs.Report.{Text}
use Rattle.text_report.proofs.Spaced.{starts, number_stands, ends}
use Rattle.text_report.proofs.writers.put_end.Goals.{in-Done, in-Open, in-Empty}
use Rattle.text_report.proofs.writers.put_end.Goals as goal

pub returns : goal.returns
returns c = elim c.match-e.branch [
  | in-Done w ↦ rw w.in-Done.is (c.end.ensures ∙ ap (λ (t : Text). t ++ 10 ∷ []) (w.line-is ∙ w.start.ensures))
  | in-Open w ↦ rw w.in-Open.is (c.end.ensures ∙ ap (λ (t : Text). t ++ 10 ∷ []) (w.line-is ∙ w.start-in-Open.ensures))
  | in-Empty w ↦ rw w.in-Empty.is ((starts w.start-in-Empty.ensures
      (number_stands w.in-Empty.step (omega arith) w.number.ensures.bytes
      (ends (c.end.ensures ∙ ap (λ (t : Text). t ++ 10 ∷ []) w.line-is)))).is)
]
