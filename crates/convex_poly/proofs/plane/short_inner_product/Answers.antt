use lib.IntN.{◌*ℤ◌}
use Rattle.convex_poly.proofs.Short.{plus_is, product_of}
use Rattle.convex_poly.proofs.plane.short_inner_product.Goals as goal

pub returns-clause-value : goal.returns-clause-value
returns-clause-value c =
    let u = c.args.u.now in
    let v = c.args.v.now in
    plus_is c.short_times.result c.short_times-2.result (u.x *ℤ v.x) (u.y *ℤ v.y) c.short_times.ensures.within c.short_times-2.ensures.within
    (product_of c.short_times.result u.x v.x c.requires.u_in.x c.requires.v_in.x c.short_times.ensures.value)
    (product_of c.short_times-2.result u.y v.y c.requires.u_in.y c.requires.v_in.y c.short_times-2.ensures.value)
