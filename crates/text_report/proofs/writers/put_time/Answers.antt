use Rattle.std.proofs.Common.{arith}
use Rattle.text_report.proofs.Spaced.{starts, number_stands, ends}
use Rattle.text_report.proofs.writers.put_time.Goals as goal

pub returns : goal.returns
returns c =
    (starts c.start.ensures
    (number_stands c.args.k (omega arith) c.number.ensures.bytes
    (number_stands c.args.steps (omega arith) c.number-2.ensures.bytes
    (ends c.end.ensures)))).is
