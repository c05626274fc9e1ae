use lib.IntN.{◌*ℤ◌}
use Rattle.convex_poly.proofs.Short.{minus_is, minus_size, product_of}
use Rattle.convex_poly.proofs.plane.short_turn.Goals as goal

pub returns-clause-value : goal.returns-clause-value
returns-clause-value c =
    let u = c.args.u.now in
    let v = c.args.v.now in
    minus_is c.short_times.result c.short_times-2.result (u.x *ℤ v.y) (u.y *ℤ v.x) c.short_times.ensures.within c.short_times-2.ensures.within
    (product_of c.short_times.result u.x v.y c.requires.u_in.x c.requires.v_in.y c.short_times.ensures.value)
    (product_of c.short_times-2.result u.y v.x c.requires.u_in.y c.requires.v_in.x c.short_times-2.ensures.value)

pub returns-clause-within : goal.returns-clause-within
returns-clause-within c = minus_size c.short_times.result c.short_times-2.result c.short_times.ensures.within c.short_times-2.ensures.within
