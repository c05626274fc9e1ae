use Rattle.text_report.proofs.Spaced.{starts, word_stands, ends}
use Rattle.text_report.proofs.summary.put_made.Goals as goal

pub returns : goal.returns
returns c =
    (starts c.start.ensures
    (word_stands c.number.ensures.bytes
    (word_stands c.number-2.ensures.bytes
    (word_stands c.number-3.ensures.bytes
    (word_stands c.number-4.ensures.bytes
    (ends c.end.ensures)))))).is
