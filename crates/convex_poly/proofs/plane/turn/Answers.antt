use Rattle.std.proofs.Common.{◌≡◌, ◌*ℤ◌, w64, FitsSigned, to_z-of_z, arith}
use Rattle.std.proofs.lemmas.Int.{ints}
use Rattle.convex_poly.proofs.Wide.{minus_of, minus_size}
use Rattle.convex_poly.proofs.plane.turn.Goals as goal

pub returns-clause-value : goal.returns-clause-value
returns-clause-value c =
    let ux : FitsSigned w64 c.args.u.now.x = omega (arith, ints, c.requires.u_in.x) in
    let uy : FitsSigned w64 c.args.u.now.y = omega (arith, ints, c.requires.u_in.y) in
    let vx : FitsSigned w64 c.args.v.now.x = omega (arith, ints, c.requires.v_in.x) in
    let vy : FitsSigned w64 c.args.v.now.y = omega (arith, ints, c.requires.v_in.y) in
    let first : c.times.result ≡ c.args.u.now.x *ℤ c.args.v.now.y = simp to_z-of_z at c.times.ensures.value in
    let second : c.times-2.result ≡ c.args.u.now.y *ℤ c.args.v.now.x = simp to_z-of_z at c.times-2.ensures.value in
    minus_of c.times.result c.times-2.result (c.args.u.now.x *ℤ c.args.v.now.y) (c.args.u.now.y *ℤ c.args.v.now.x) c.times.ensures.within c.times-2.ensures.within first second

pub returns-clause-within : goal.returns-clause-within
returns-clause-within c = minus_size c.times.result c.times-2.result c.times.ensures.within c.times-2.ensures.within
