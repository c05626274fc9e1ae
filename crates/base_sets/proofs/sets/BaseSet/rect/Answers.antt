use Rattle.std.proofs.Common.{◌≡◌, ◌∙◌, ◌≤◌, refl, sym, subst, to_z, of_z, w64, pos, get_or, ℤ}
use Rattle.std.specs.Prelude.{nat_abs}
use Rattle.convex_poly.proofs.Wide.{back}
use Rattle.spot_terms.specs.BaseSets.{least_place, greatest_place}
use Rattle.base_sets.proofs.Places.{first_place, first_size, last_place, support_size}
use Rattle.base_sets.proofs.sets.BaseSet.rect.Goals as goal

pub returns-clause-exact : goal.returns-clause-exact
returns-clause-exact c =
    let xlo : to_z w64 (of_z w64 (get_or c.corners.result.now 0 (record { x = pos 0; y = pos 0 })).x) ≡ least_place c.args.self.now.x = first_place c.args.self.now.x c.corners.result.now (record { x = pos 0; y = pos 0 }) c.corners.ensures.items c.corners.ensures.polygon in
    let xhi : to_z w64 (of_z w64 c.support.result) ≡ greatest_place c.args.self.now.x = back c.support.result c.support.type_inv ∙ last_place c.args.self.now.x c.support.result c.support.ensures in
    let ylo : to_z w64 (of_z w64 (get_or c.corners-2.result.now 0 (record { x = pos 0; y = pos 0 })).x) ≡ least_place c.args.self.now.y = first_place c.args.self.now.y c.corners-2.result.now (record { x = pos 0; y = pos 0 }) c.corners-2.ensures.items c.corners-2.ensures.polygon in
    let yhi : to_z w64 (of_z w64 c.support-2.result) ≡ greatest_place c.args.self.now.y = back c.support-2.result c.support-2.type_inv ∙ last_place c.args.self.now.y c.support-2.result c.support-2.ensures in
    rw (xlo, xhi, ylo, yhi) refl

pub returns-clause-least_x : goal.returns-clause-least_x
returns-clause-least_x c = first_size c.args.self.now.x c.corners.result.now (record { x = pos 0; y = pos 0 }) c.corners.ensures.items c.corners.ensures.polygon

pub returns-clause-greatest_x : goal.returns-clause-greatest_x
returns-clause-greatest_x c = subst (λ (z : ℤ). nat_abs z ≤ 40_000_000_000_000) (sym (back c.support.result c.support.type_inv)) (support_size c.args.self.now.x c.support.result c.corners.ensures.polygon c.support.ensures)

pub returns-clause-least_y : goal.returns-clause-least_y
returns-clause-least_y c = first_size c.args.self.now.y c.corners-2.result.now (record { x = pos 0; y = pos 0 }) c.corners-2.ensures.items c.corners-2.ensures.polygon

pub returns-clause-greatest_y : goal.returns-clause-greatest_y
returns-clause-greatest_y c = subst (λ (z : ℤ). nat_abs z ≤ 40_000_000_000_000) (sym (back c.support-2.result c.support-2.type_inv)) (support_size c.args.self.now.y c.support-2.result c.corners-2.ensures.polygon c.support-2.ensures)
