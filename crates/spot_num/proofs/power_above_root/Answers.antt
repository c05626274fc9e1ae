use Rattle.std.proofs.Common.{◌≡◌, ℕ, ◌+◌, ◌*◌, ◌/◌, ◌%◌, ◌^◌, ◌<◌, arith, subst}
use Rattle.spot_num.proofs.Newton.{power_above, power_fits}
use Rattle.spot_num.proofs.power_above_root.Goals as goal

pub returns-clause-above : goal.returns-clause-above
returns-clause-above c =
    let l = c.ilog2.result in
    let e : 2 ^ (l / 2 + 1) ≡ 1 * 2 ^ (l / 2 + 1) % 18446744073709551616 = omega (arith, power_fits l c.ilog2.ensures.bound) in
    subst (λ (z : ℕ). c.args.n < (z + 1) * (z + 1)) e (power_above c.args.n l c.ilog2.ensures.next_power_gt)
