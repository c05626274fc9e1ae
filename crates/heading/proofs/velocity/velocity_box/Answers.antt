use Rattle.std.proofs.Common.{to_z-of_z, FitsSigned, rules, subst, sym}
use Rattle.std.specs.Int.{w128, w64}
use Rattle.spot_terms.specs.declared.plain.VBox.{VBox}
use Rattle.spot_terms.specs.Motions.{InBox}
use Rattle.heading.proofs.Boxes.{box_holds, box_is}
use Rattle.heading.proofs.velocity.velocity_box.Goals as goal

pub returns-clause-value : goal.returns-clause-value
returns-clause-value c =
    let speed_fits : FitsSigned w64 c.args.speed = c.ranges.speed in
    let angle_fits : FitsSigned w64 c.args.angle = c.ranges.angle in
    let cosine_fits : FitsSigned w128 c.cosine_of.result = search rules in
    let sine_fits : FitsSigned w128 c.sine_of.result = search rules in
    let xlo_fits : FitsSigned w64 c.side-x.result.lo = search rules in
    let xhi_fits : FitsSigned w64 c.side-x.result.hi = search rules in
    let ylo_fits : FitsSigned w64 c.side-y.result.lo = search rules in
    let yhi_fits : FitsSigned w64 c.side-y.result.hi = search rules in
    let cosine_is = simp to_z-of_z at c.cosine_of.ensures.value in
    let sine_is = simp to_z-of_z at c.sine_of.ensures.value in
    let xlo_is = rw cosine_is at (simp to_z-of_z at c.side-x.ensures.least) in
    let xhi_is = rw cosine_is at (simp to_z-of_z at c.side-x.ensures.greatest) in
    let ylo_is = rw sine_is at (simp to_z-of_z at c.side-y.ensures.least) in
    let yhi_is = rw sine_is at (simp to_z-of_z at c.side-y.ensures.greatest) in
    simp to_z-of_z (box_is c.args.speed c.args.angle _ _ _ _ xlo_is xhi_is ylo_is yhi_is)

pub returns-clause-holds : goal.returns-clause-holds
returns-clause-holds c = λ vx vy v. subst (λ (b : VBox). InBox b (record { x = vx; y = vy })) (sym (returns-clause-value c)) (box_holds c.args.speed c.args.angle vx vy c.requires.speed c.requires.angle v)
