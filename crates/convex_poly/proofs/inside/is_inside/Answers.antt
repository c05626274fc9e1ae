use Rattle.convex_poly.proofs.Corners.{origin, inside_one, inside_two, inside_many}
use Rattle.convex_poly.proofs.inside.is_inside.Goals as goal

pub returns-in-len1 : goal.returns-in-len1
returns-in-len1 c =
    let h = inside_one c.args.corners.now c.args.p.now origin c.in-len1.len_at_least c.in-len1.len_below in
    ((λ yes. h.0 (c.is_same.ensures.0 yes)), (λ i. c.is_same.ensures.1 (h.1 i)))

pub returns-in-len2 : goal.returns-in-len2
returns-in-len2 c =
    let h = inside_two c.args.corners.now c.args.p.now origin c.requires.polygon.convex c.in-len2.len_at_least c.in-len2.len_below in
    ((λ yes. h.0 (c.is_on.ensures.0 yes)), (λ i. c.is_on.ensures.1 (h.1 i)))

pub returns-in_default : goal.returns-in_default
returns-in_default c =
    let h = inside_many c.args.corners.now c.args.p.now c.requires.polygon.convex c.in_default.len_at_least in
    ((λ yes. h.0 (c.is_left_of_edges.ensures.0 yes)), (λ i. c.is_left_of_edges.ensures.1 (h.1 i)))
