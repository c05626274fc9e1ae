use Rattle.convex_poly.proofs.Short.{product_is, product_size}
use Rattle.convex_poly.proofs.plane.short_times.Goals as goal

pub returns-clause-value : goal.returns-clause-value
returns-clause-value c = product_is c.args.a c.args.b c.requires.a_in c.requires.b_in

pub returns-clause-within : goal.returns-clause-within
returns-clause-within c = product_size _ c.args.a c.args.b c.requires.a_in c.requires.b_in (product_is c.args.a c.args.b c.requires.a_in c.requires.b_in)
