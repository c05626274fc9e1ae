use Rattle.convex_poly.proofs.Disjoint.{leftwards_disjoint, disjoint_pivot}
use Rattle.convex_poly.proofs.apart.are_disjoint.Goals as goal

pub returns : goal.returns
returns c = (
  (λ yes. leftwards_disjoint c.args.a.now c.args.b.now c.rightmost-vector.result (c.are_all_left.ensures.0 yes)),
  (λ apart. let v = disjoint_pivot c.args.a.now c.args.b.now c.requires.a_some c.requires.b_some apart in c.are_all_left.ensures.1 (c.rightmost-vector.ensures.right v.0 v.1)),
)
