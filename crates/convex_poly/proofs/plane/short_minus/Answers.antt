use Rattle.std.proofs.Common.{rules}
use Rattle.convex_poly.proofs.Short.{vector_is}
use Rattle.convex_poly.proofs.plane.short_minus.Goals as goal

pub returns : goal.returns
returns c = vector_is c.args.p.now c.args.q.now c.requires (search rules) (search rules) (search rules) (search rules)
