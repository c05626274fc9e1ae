use Rattle.std.proofs.Common.{arith, refl, sym, ◌∙◌}
use Rattle.scenario.proofs.Facts.{mover_is}
use Rattle.scenario.proofs.Readings.{held_in}
use Rattle.scenario.proofs.items.mover_at.Goals as goal

pub returns-clause-is : goal.returns-clause-is
returns-clause-is c =
    mover_is c.args.tree.now c.args.e _ c.in-Some-child-2.start c.in-Some-child.shape c.position_at-position.result.x c.position_at-position.result.y c.speed_at.result c.angle_at.result refl
    (held_in c.position_at-position.result.x 10_000_000_000_000 c.position_at-position.ensures.x_within (omega arith))
    (held_in c.position_at-position.result.y 10_000_000_000_000 c.position_at-position.ensures.y_within (omega arith))
    (held_in c.speed_at.result 200_000 c.speed_at.ensures.within (omega arith))
    (held_in c.angle_at.result 7_000_000 c.angle_at.ensures.within (omega arith))
    (sym c.id_at.ensures ∙ c.in-Some.is) c.kind_at.ensures (sym c.child.ensures.first ∙ c.in-Some-child.is) c.in_ok-radii.ensures.is (sym c.child-2.ensures.first ∙ c.in-Some-child-2.is)
    c.position_at-position.ensures.holds c.speed_at.ensures.holds c.angle_at.ensures.holds c.time_at.ensures.holds c.requires.track
