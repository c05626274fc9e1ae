use Rattle.std.proofs.Common.{rules, ℤ, ◌-ℤ◌, nat_abs, arith, w64, FitsSigned, to_z-of_z, ◌≤◌}
use Rattle.std.proofs.lemmas.Int.{ints}
use Rattle.replay_sets.proofs.runs.greater_rise.Goals as goal

fits : (a b : ℤ) → nat_abs a ≤ 40_000_000_000_000 → nat_abs b ≤ 40_000_000_000_000 → FitsSigned w64 (a -ℤ b)
fits a b h k = omega (arith, ints)

pub returns : goal.returns
returns c =
    let f : FitsSigned w64 c.args.y = c.ranges.y in
    let f0 : FitsSigned w64 c.args.y0 = c.ranges.y0 in
    let f1 : FitsSigned w64 c.args.y1 = c.ranges.y1 in
    let d0 : FitsSigned w64 (c.args.y0 -ℤ c.args.y) = fits c.args.y0 c.args.y c.requires.y0 c.requires.y in
    let d1 : FitsSigned w64 (c.args.y1 -ℤ c.args.y) = fits c.args.y1 c.args.y c.requires.y1 c.requires.y in
    let a = simp to_z-of_z at c.unsigned_abs.ensures.value in
    let b = simp to_z-of_z at c.unsigned_abs-2.ensures.value in
    search (rules, a, b, c.max.ensures)
