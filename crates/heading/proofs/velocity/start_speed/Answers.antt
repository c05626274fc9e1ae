use Rattle.std.proofs.Common.{arith, to_z-of_z, FitsSigned}
use Rattle.std.proofs.lemmas.Int.{ints}
use Rattle.std.specs.Int.{w64}
use Rattle.heading.proofs.Speeds.{IsGreatestSize, start_speed-is, start_speed-small}
use Rattle.heading.proofs.velocity.start_speed.Goals as goal
use Rattle.heading.proofs.velocity.start_speed.Goals.{After-isqrt_ceil}

longest_x : (c : After-isqrt_ceil) → IsGreatestSize c.args.b.now.xlo c.args.b.now.xhi c.max-x.result
longest_x c =
    let low_fits : FitsSigned w64 c.args.b.now.xlo = omega (arith, ints) in
    let high_fits : FitsSigned w64 c.args.b.now.xhi = omega (arith, ints) in
    let low = simp to_z-of_z at c.unsigned_abs.ensures.value in
    let high = simp to_z-of_z at c.unsigned_abs-2.ensures.value in
    rw (low, high) at c.max-x.ensures

longest_y : (c : After-isqrt_ceil) → IsGreatestSize c.args.b.now.ylo c.args.b.now.yhi c.max-y.result
longest_y c =
    let low_fits : FitsSigned w64 c.args.b.now.ylo = omega (arith, ints) in
    let high_fits : FitsSigned w64 c.args.b.now.yhi = omega (arith, ints) in
    let low = simp to_z-of_z at c.unsigned_abs-3.ensures.value in
    let high = simp to_z-of_z at c.unsigned_abs-4.ensures.value in
    rw (low, high) at c.max-y.ensures

pub returns-clause-least : goal.returns-clause-least
returns-clause-least c = start_speed-is _ c.args.b.now c.max-x.result c.max-y.result c.isqrt_ceil.result c.requires (longest_x c) (longest_y c) c.isqrt_ceil.ensures.least

pub returns-clause-small : goal.returns-clause-small
returns-clause-small c = λ w. start_speed-small c.args.b.now c.max-x.result c.max-y.result c.isqrt_ceil.result w (longest_x c) (longest_y c) c.isqrt_ceil.ensures.least
