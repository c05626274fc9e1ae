use Rattle.std.proofs.Common.{pos, ◌-ℤ◌, ◌+◌, ◌≤◌, ◌++◌, List, take, length, subst, sym, arith}
use Rattle.spot_terms.specs.declared.plain.Pt.{Pt}
use Rattle.convex_poly.specs.Chains.{between_ends}
use Rattle.convex_poly.specs.Sums.{IsPart, IsSumSide}
use Rattle.convex_poly.proofs.HullCorners.{far}
use Rattle.convex_poly.proofs.PolygonParts.{AreParts, parts}
use Rattle.convex_poly.proofs.SumSides.{few_sum_corners, hull_of_sum_sides}
use Rattle.convex_poly.proofs.Tops.{summand_positions}
use Rattle.convex_poly.proofs.sums.put_sum_corners.Goals as goal
use Rattle.convex_poly.proofs.sums.put_sum_corners.Goals.{After-as_slice-4}

parts_a : (c : After-as_slice-4) → AreParts c.args.a.now (take (c.top_of-a_top.result + 1) c.args.a.now) c.put_part_back.new.part.items
parts_a c = parts c.args.a.now (summand_positions c.args.a.now c.requires.a_in) c.requires.a_corners c.top_of-a_top.result c.top_of-a_top.ensures c.put_part_back.new.part.items c.put_part_back.ensures.one c.put_part_back.ensures.more

parts_b : (c : After-as_slice-4) → AreParts c.args.b.now (take (c.top_of-b_top.result + 1) c.args.b.now) c.put_part_back-2.new.part.items
parts_b c = parts c.args.b.now (summand_positions c.args.b.now c.requires.b_in) c.requires.b_corners c.top_of-b_top.result c.top_of-b_top.ensures c.put_part_back-2.new.part.items c.put_part_back-2.ensures.one c.put_part_back-2.ensures.more

side_there : (c : After-as_slice-4) → IsSumSide far (pos 1) c.args.a.now c.args.b.now (take (c.top_of-a_top.result + 1) c.args.a.now) (take (c.top_of-b_top.result + 1) c.args.b.now) c.put_side.new.chain.items
side_there c = c.put_side.ensures far (pos 1) c.args.a.now c.args.b.now (parts_a c).part_there (parts_b c).part_there

side_back : (c : After-as_slice-4) → IsSumSide (pos 0 -ℤ far) (pos 0 -ℤ pos 1) c.args.a.now c.args.b.now c.put_part_back.new.part.items c.put_part_back-2.new.part.items c.put_side-2.new.chain.items
side_back c =
    subst (λ (z : List Pt). IsSumSide (pos 0 -ℤ far) (pos 0 -ℤ pos 1) c.args.a.now c.args.b.now z c.put_part_back-2.new.part.items c.put_side-2.new.chain.items) c.as_slice.ensures.value
    (subst (λ (z : List Pt). IsSumSide (pos 0 -ℤ far) (pos 0 -ℤ pos 1) c.args.a.now c.args.b.now c.as_slice.result.now z c.put_side-2.new.chain.items) c.as_slice-2.ensures.value
    (c.put_side-2.ensures (pos 0 -ℤ far) (pos 0 -ℤ pos 1) c.args.a.now c.args.b.now
    (subst (IsPart (pos 0 -ℤ far) (pos 0 -ℤ pos 1) c.args.a.now) (sym c.as_slice.ensures.value) (parts_a c).part_back)
    (subst (IsPart (pos 0 -ℤ far) (pos 0 -ℤ pos 1) c.args.b.now) (sym c.as_slice-2.ensures.value) (parts_b c).part_back)))

few : (c : After-as_slice-4) → length (c.put_side.new.chain.items ++ between_ends c.put_side-2.new.chain.items) ≤ 20
few c =
    let most : length (c.put_side.new.chain.items ++ between_ends c.put_side-2.new.chain.items) ≤ length c.args.a.now + length c.args.b.now =
    few_sum_corners c.args.a.now c.args.b.now _ _ _ _ c.put_side.new.chain.items c.put_side-2.new.chain.items (parts_a c) (parts_b c) (side_there c) (side_back c) in
    omega (arith, most, c.requires.few)

pub put_joined-requires : goal.put_joined-requires
put_joined-requires c = rw (c.as_slice-3.ensures.value, c.as_slice-4.ensures.value) (few c)

pub returns-clause-hull : goal.returns-clause-hull
returns-clause-hull c =
    let d : After-as_slice-4 = (goal.at.returns-clause-hull c).After-as_slice-4 in
    rw (c.put_joined.ensures, c.as_slice-3.ensures.value, c.as_slice-4.ensures.value)
    (hull_of_sum_sides c.args.a.now c.args.b.now _ _ _ _ c.put_side.new.chain.items c.put_side-2.new.chain.items (parts_a d) (parts_b d) (side_there d) (side_back d) c.requires.a_in c.requires.b_in)

pub returns-clause-few : goal.returns-clause-few
returns-clause-few c = rw (c.put_joined.ensures, c.as_slice-3.ensures.value, c.as_slice-4.ensures.value) (few (goal.at.returns-clause-few c).After-as_slice-4)
