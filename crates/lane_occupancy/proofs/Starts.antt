-- Start speeds.
use Rattle.std.proofs.Common.{◌≡◌, ℕ, ◌*◌, ◌≤◌, arith, mul-le-mul, nat_abs}
use Rattle.std.proofs.lemmas.Int.{ints}
use lib.IntN.{ℤ}
use Rattle.spot_terms.specs.Motions.{IsStartSpeed}
use Rattle.spot_terms.specs.Ranges.{IsStart}
use Rattle.spot_terms.specs.Whole.{Within, square}
use Rattle.spot_terms.specs.declared.plain.AccStart.{AccStart}
use Rattle.spot_terms.specs.declared.plain.VBox.{VBox}

between : (lo hi z : ℤ) → nat_abs lo ≤ 900000 → nat_abs hi ≤ 900000 → Within lo hi z → nat_abs z ≤ 900000
between lo hi z h k w = let low = w.low in let high = w.high in omega (arith, ints, h, k, low, high)

square_small : (z : ℤ) → nat_abs z ≤ 900000 → square z ≤ 810000000000
square_small z h = let m : nat_abs z * nat_abs z ≤ 900000 * 900000 = mul-le-mul h h in omega (arith, m)

-- the start speed is small
pub slow_start : (s : AccStart) (speed : ℕ) → IsStart s → IsStartSpeed s.b speed → speed ≤ 2000000
slow_start s speed start h =
    h.least 2000000 (λ v i. let x = square_small v.x (between s.b.xlo s.b.xhi v.x start.box.xlo start.box.xhi i.x) in let y = square_small v.y (between s.b.ylo s.b.yhi v.y start.box.ylo start.box.yhi i.y) in omega (arith, x, y))
