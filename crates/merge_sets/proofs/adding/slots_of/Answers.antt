use Rattle.std.proofs.Common.{◌≡◌, ◌∙◌, ◌≤◌, ◌≤ℤ◌, ◌<ℤ◌, arith, ap, refl, sym, subst, to_z, of_z, w64, pos, get_or, ℤ}
use Rattle.std.specs.Prelude.{nat_abs}
use Rattle.std.specs.Int.{int_div_euclid}
use Rattle.std.proofs.lemmas.Int.{ints}
use Rattle.spot_terms.proofs.Quotients.{int_div_euclid-floor}
use Rattle.spot_terms.specs.BaseSets.{least_place, greatest_place}
use Rattle.spot_terms.specs.Courses.{slots_met}
use Rattle.convex_poly.proofs.Wide.{back}
use Rattle.base_sets.proofs.Places.{first_place, last_place, support_size}
use Rattle.merge_sets.proofs.PolyEnds.{places_order}
use Rattle.merge_sets.proofs.adding.slots_of.Goals as goal

pub slots_met-requires-clause-order : goal.slots_met-requires-clause-order
slots_met-requires-clause-order c =
    subst (λ (z : ℤ). z ≤ℤ to_z w64 (of_z w64 c.support-greatest.result)) (sym (first_place c.args.p.now c.corners.result.now (record { x = pos 0; y = pos 0 }) c.corners.ensures.items c.corners.ensures.polygon))
    (subst (λ (z : ℤ). least_place c.args.p.now ≤ℤ z) (sym (back c.support-greatest.result c.support-greatest.type_inv ∙ last_place c.args.p.now c.support-greatest.result c.support-greatest.ensures)) (places_order c.args.p.now))

pub slots_met-requires-clause-high : goal.slots_met-requires-clause-high
slots_met-requires-clause-high c = subst (λ (z : ℤ). nat_abs z ≤ 40_000_000_000_000) (sym (back c.support-greatest.result c.support-greatest.type_inv)) (support_size c.args.p.now c.support-greatest.result c.corners.ensures.polygon c.support-greatest.ensures)

met_same : (w a b w' a' b' : ℤ) → w ≡ w' → a ≡ a' → b ≡ b' → slots_met w a b ≡ slots_met w' a' b'
met_same w a b w' a' b' e f g = rw (e, f, g) refl

pub returns-clause-count : goal.returns-clause-count
returns-clause-count c =
    let least : to_z w64 (of_z w64 (get_or c.corners.result.now 0 (record { x = pos 0; y = pos 0 })).x) ≡ least_place c.args.p.now = first_place c.args.p.now c.corners.result.now (record { x = pos 0; y = pos 0 }) c.corners.ensures.items c.corners.ensures.polygon in
    let greatest : to_z w64 (of_z w64 c.support-greatest.result) ≡ greatest_place c.args.p.now = back c.support-greatest.result c.support-greatest.type_inv ∙ last_place c.args.p.now c.support-greatest.result c.support-greatest.ensures in
    let width : to_z w64 (of_z w64 c.args.width) ≡ c.args.width = back c.args.width c.ranges.width.sfits in
    c.slots_met.ensures.value ∙ met_same _ _ _ _ _ _ width least greatest

pub returns-clause-first : goal.returns-clause-first
returns-clause-first c =
    let least : to_z w64 (of_z w64 (get_or c.corners.result.now 0 (record { x = pos 0; y = pos 0 })).x) ≡ least_place c.args.p.now = first_place c.args.p.now c.corners.result.now (record { x = pos 0; y = pos 0 }) c.corners.ensures.items c.corners.ensures.polygon in
    let width : to_z w64 (of_z w64 c.args.width) ≡ c.args.width = back c.args.width c.ranges.width.sfits in
    let low = c.requires.width.low in
    let some : pos 0 <ℤ c.args.width = omega (arith, ints, low) in
    back c.div_euclid.result c.div_euclid.type_inv ∙ c.div_euclid.ensures ∙ ap (λ (z : ℤ). int_div_euclid z (to_z w64 (of_z w64 c.args.width))) least ∙ ap (λ (z : ℤ). int_div_euclid (least_place c.args.p.now) z) width
    ∙ int_div_euclid-floor (least_place c.args.p.now) c.args.width some
