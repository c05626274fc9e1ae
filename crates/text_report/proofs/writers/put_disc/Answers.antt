use Rattle.std.proofs.Common.{arith}
use Rattle.spot_terms.specs.Report.{pt_words}
use Rattle.text_report.proofs.Spaced.{starts, number_stands, words_stand, ends}
use Rattle.text_report.proofs.writers.put_disc.Goals as goal

pub returns : goal.returns
returns c =
    (starts c.start.ensures
    (number_stands c.args.step (omega arith) c.number.ensures.bytes
    (number_stands c.args.id (omega arith) c.number-2.ensures.bytes
    (words_stand (pt_words c.args.p) c.point.ensures.bytes
    (number_stands c.args.r (omega arith) c.number-3.ensures.bytes
    (ends c.end.ensures)))))).is
