use Rattle.convex_poly.proofs.BoxLaws.{box_has}
use Rattle.lanelets.proofs.search.holds.Goals as goal

pub returns-else-covers : goal.returns-else-covers
returns-else-covers c =
    let f = c.if-covers.false in
    ((λ t. absurd (let q : ⊥ = cc in q)), (λ h. c.covers.ensures.1 (box_has c.args.poly.now c.args.around.now c.args.p c.requires h)))
