use Rattle.convex_poly.proofs.Positions.{position_in}
use Rattle.convex_poly.proofs.poly.Poly.contains.Goals as goal

pub returns-else-is_position : goal.returns-else-is_position
returns-else-is_position c =
    let no = c.if-is_position.false in
    ((λ t. absurd (let q : ⊥ = cc in q)), (λ h. c.is_position.ensures.1 (position_in c.args.self.now c.args.p c.corners-corners.ensures.polygon.positions h)))
