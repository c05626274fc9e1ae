use Rattle.std.proofs.Common.{arith}
use Rattle.std.proofs.lemmas.Int.{ints}
use Rattle.convex_poly.proofs.Wide.{dot_is, dot_fits}
use Rattle.convex_poly.proofs.support.dot.Goals as goal

pub overflow_add-result : goal.overflow_add-result
overflow_add-result c = let small = dot_fits c.args.nx c.args.ny c.args.p.now.x c.args.p.now.y c.requires.nx_in c.requires.ny_in c.requires.p_in.x c.requires.p_in.y in omega (arith, ints)

pub returns : goal.returns
returns c = dot_is c.args.nx c.args.ny c.args.p.now.x c.args.p.now.y c.requires.nx_in c.requires.ny_in c.requires.p_in.x c.requires.p_in.y
