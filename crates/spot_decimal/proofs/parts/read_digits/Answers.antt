use Rattle.std.proofs.Common.{refl}
use Rattle.spot_decimal.proofs.Texts.{digits_short}
use Rattle.spot_decimal.proofs.parts.read_digits.Goals as goal

pub returns-then-cut-part-gt0-clause-short : goal.returns-then-cut-part-gt0-clause-short
returns-then-cut-part-gt0-clause-short c = digits_short c.args.text.now c.cut_at_point-cut.result.head.now c.cut_at_point-cut.result.tail _ c.unwrap_or-part.result refl c.unwrap_or-part.ensures c.cut_at_point-cut.ensures.head c.cut_at_point-cut.ensures.tail
