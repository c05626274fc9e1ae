use Rattle.std.proofs.Common.{arith, refl, sym, ◌∙◌}
use Rattle.scenario.proofs.Facts.{problem_is}
use Rattle.scenario.proofs.Readings.{held_in}
use Rattle.scenario.proofs.items.problem_at.Goals as goal

pub returns-clause-is : goal.returns-clause-is
returns-clause-is c =
    problem_is c.args.tree.now c.args.e _ c.in-Some-child.start c.position_at-position.result.x c.position_at-position.result.y c.speed_at.result c.angle_at.result refl
    (held_in c.position_at-position.result.x 10_000_000_000_000 c.position_at-position.ensures.x_within (omega arith))
    (held_in c.position_at-position.result.y 10_000_000_000_000 c.position_at-position.ensures.y_within (omega arith))
    (held_in c.speed_at.result 200_000 c.speed_at.ensures.within (omega arith))
    (held_in c.angle_at.result 7_000_000 c.angle_at.ensures.within (omega arith))
    (sym c.id_at.ensures ∙ c.in-Some.is) (sym c.child.ensures.first ∙ c.in-Some-child.is) c.position_at-position.ensures.holds c.speed_at.ensures.holds c.angle_at.ensures.holds c.time_at.ensures.holds
