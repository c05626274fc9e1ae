use Rattle.std.proofs.Common.{◌∙◌, sym, subst, List, ℤ, arith, to_z-of_z, FitsSigned, w64}
use Rattle.std.proofs.lemmas.Int.{ints}
use Rattle.spot_terms.specs.Reach.{InOctagon}
use Rattle.round_out.proofs.Discs.{disc_in_octagon}
use Rattle.round_out.proofs.Octagons.{disc_numbers-is, reach_small}
use Rattle.round_out.proofs.octagon.octagon_at.Goals as goal

pub octagon_about-requires-clause-axis : goal.octagon_about-requires-clause-axis
octagon_about-requires-clause-axis c =
    let small = reach_small 0 c.args.r c.disc_number.result (omega arith) c.requires.radius c.disc_number.ensures in
    omega (arith, ints)

pub octagon_about-requires-clause-diagonal : goal.octagon_about-requires-clause-diagonal
octagon_about-requires-clause-diagonal c =
    let small = reach_small 1 c.args.r c.disc_number-2.result (omega arith) c.requires.radius c.disc_number-2.ensures in
    omega (arith, ints)

pub returns-clause-value : goal.returns-clause-value
returns-clause-value c =
    let small_x = c.requires.x in
    let small_y = c.requires.y in
    let fits_x : FitsSigned w64 c.args.p.x = omega (arith, ints) in
    let fits_y : FitsSigned w64 c.args.p.y = omega (arith, ints) in
    let small_axis = reach_small 0 c.args.r c.disc_number.result (omega arith) c.requires.radius c.disc_number.ensures in
    let small_diagonal = reach_small 1 c.args.r c.disc_number-2.result (omega arith) c.requires.radius c.disc_number-2.ensures in
    let fits_axis : FitsSigned w64 c.disc_number.result = omega (arith, ints) in
    let fits_diagonal : FitsSigned w64 c.disc_number-2.result = omega (arith, ints) in
    (simp to_z-of_z at c.octagon_about.ensures)
    ∙ disc_numbers-is c.args.p c.args.r c.disc_number.result c.disc_number-2.result c.disc_number.ensures c.disc_number-2.ensures

pub returns-clause-holds : goal.returns-clause-holds
returns-clause-holds c = λ q h.
    subst (λ (numbers : List ℤ). InOctagon numbers q) (sym (returns-clause-value c)) (disc_in_octagon c.args.p q c.args.r (omega arith) h)
