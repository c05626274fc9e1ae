use Rattle.convex_poly.proofs.Wide.{offset_back}
use Rattle.convex_poly.proofs.plane.minus.Goals as goal
use Rattle.spot_terms.proofs.OneHull.{same_pt}

pub returns-clause-value : goal.returns-clause-value
returns-clause-value c =
    same_pt _ _ (offset_back c.offset.result c.args.q.now.x c.args.p.now.x c.requires.q_in.x c.requires.p_in.x c.offset.ensures.value)
    (offset_back c.offset-2.result c.args.q.now.y c.args.p.now.y c.requires.q_in.y c.requires.p_in.y c.offset-2.ensures.value)
