use Rattle.std.proofs.Common.{pos, ◌≤ℤ◌, arith}
use Rattle.std.proofs.lemmas.Int.{ints}
use Rattle.convex_poly.proofs.Merges.{goes_of}
use Rattle.convex_poly.proofs.Wide.{test_not_below}
use Rattle.convex_poly.proofs.sums.goes_first.Goals as goal

pub returns-else-j-b : goal.returns-else-j-b
returns-else-j-b c =
    let h = goes_of c.args.a.now c.args.b.now c.args.i c.args.j c.turn.result c.minus.result c.minus-else-j-b.result _ c.if-i-a.true c.if-j-b.false c.minus.ensures.value c.minus-else-j-b.ensures.value c.turn.ensures.value in
    ((λ yes. let up : pos 0 ≤ℤ c.turn.result = omega (arith, ints) in h.0 up), (λ goes. test_not_below c.turn.result c.turn.type_inv (h.1 goes)))
