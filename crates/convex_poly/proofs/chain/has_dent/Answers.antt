use Rattle.std.proofs.Common.{pos, ◌≤ℤ◌, arith}
use Rattle.std.proofs.lemmas.Int.{ints}
use Rattle.convex_poly.proofs.Corners.{origin}
use Rattle.convex_poly.proofs.Trims.{dent_is}
use Rattle.convex_poly.proofs.Wide.{test_not_above}
use Rattle.convex_poly.proofs.chain.has_dent.Goals as goal

pub returns-then-n-ge2 : goal.returns-then-n-ge2
returns-then-n-ge2 c =
    let h = dent_is c.args.chain.now c.args.next.now origin c.cross.result c.if-n-ge2.true c.cross.ensures in
    ((λ yes. let low : c.cross.result ≤ℤ pos 0 = omega (arith, ints) in h.0 low), (λ dent. test_not_above c.cross.result c.cross.type_inv (h.1 dent)))
