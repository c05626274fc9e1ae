use Rattle.std.proofs.Common.{arith}
use Rattle.scenario.proofs.Parts.{distance_small}
use Rattle.scenario.proofs.Readings.{abs_held}
use Rattle.scenario.proofs.shapes.distance.Goals as goal

pub returns-clause-within : goal.returns-clause-within
returns-clause-within c =
    distance_small c.unsigned_abs-x.result c.unsigned_abs-y.result c.isqrt_ceil.result
    (abs_held c.args.p.x c.unsigned_abs-x.result 100_000_000 c.requires.x (omega arith) c.unsigned_abs-x.ensures.value)
    (abs_held c.args.p.y c.unsigned_abs-y.result 100_000_000 c.requires.y (omega arith) c.unsigned_abs-y.ensures.value)
    c.isqrt_ceil.ensures.least
