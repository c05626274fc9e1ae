use Rattle.std.proofs.Common.{◌+◌, ◌*◌, ◌<◌, ◌≤◌, arith}
use Rattle.spot_terms.proofs.Roots.{root_floor-unique}
use Rattle.spot_num.proofs.isqrt_floor.Goals as goal

pub returns-in-Ok-clause-value : goal.returns-in-Ok-clause-value
returns-in-Ok-clause-value c =
    let low : c.narrow_root.result * c.narrow_root.result ≤ c.args.n = omega (arith, c.narrow_root.ensures.square_le) in
    let high : c.args.n < (c.narrow_root.result + 1) * (c.narrow_root.result + 1) = omega (arith, c.narrow_root.ensures.next_square_gt) in
    root_floor-unique _ _ (omega arith) low high

pub returns-in-Err-clause-value : goal.returns-in-Err-clause-value
returns-in-Err-clause-value c = root_floor-unique _ _ (omega arith) c.isqrt.ensures.square_le c.isqrt.ensures.next_square_gt
