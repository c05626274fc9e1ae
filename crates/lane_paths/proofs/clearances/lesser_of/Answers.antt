use Rattle.std.proofs.Common.{subst}
use lib.Signed.{◌≤ℤ◌}
use Rattle.spot_terms.specs.declared.plain.Pt.{Pt}
use Rattle.convex_poly.specs.Vectors.{turn_of, inner_product}
use Rattle.lane_paths.proofs.LeastClearances.{lesser_same, lesser_clearance_is}
use Rattle.lane_paths.proofs.Numbers.{square_is, least_size, length_is, le_is, ge_is}
use Rattle.lane_paths.proofs.ClearanceLaws.{off_first, off_swap, clearance_inside, inner_product_swap}
use Rattle.lane_paths.proofs.clearances.lesser_of.Goals as goal
use Rattle.lane_paths.proofs.clearances.lesser_of.Goals.{then-uu-uv-via-then-uu-uv, then-uu-uv-via-else-uu-uv+then-vv-uv}

pub returns-then-uu-uv : goal.returns-then-uu-uv
returns-then-uu-uv c =
    let u : Pt = c.args.u.now in
    let v : Pt = c.args.v.now in
    let uu = c.short_inner_product-uu in
    let uv = c.short_inner_product-uv in
    let vv = c.short_inner_product-vv in
    lesser_same c.args.least u v (elim c.then-uu-uv.branch [
      | then-uu-uv-via-then-uu-uv w ↦ off_first u v c.args.least c.requires.u_reached
          (le_is uu.result uv.result (inner_product u u) (inner_product u v) uu.ensures.within uv.ensures.within uu.ensures.value uv.ensures.value w.if-uu-uv.true)
      | then-uu-uv-via-else-uu-uv+then-vv-uv w ↦ off_swap v u c.args.least (off_first v u c.args.least c.requires.v_reached
          (subst (λ z. inner_product v v ≤ℤ z) (inner_product_swap u v) (le_is vv.result uv.result (inner_product v v) (inner_product u v) vv.ensures.within uv.ensures.within vv.ensures.value uv.ensures.value w.if-vv-uv.true)))
    ])

pub lesser_quotient-requires-clause-least_in : goal.lesser_quotient-requires-clause-least_in
lesser_quotient-requires-clause-least_in c = least_size c.args.least c.short_inner_product-uu.result (inner_product c.args.u.now c.args.u.now) c.short_inner_product-uu.ensures.within c.short_inner_product-uu.ensures.value c.requires.u_reached

pub returns : goal.returns
returns c =
    let u : Pt = c.args.u.now in
    let v : Pt = c.args.v.now in
    let uu = c.short_inner_product-uu in
    let uv = c.short_inner_product-uv in
    let vv = c.short_inner_product-vv in
    lesser_clearance_is c.args.least u v _ c.lesser_quotient.result
    (clearance_inside u v c.square.result c.square_length.result c.square_length.ensures.some
    (square_is c.square.result c.short_turn.result (turn_of u v) c.short_turn.ensures.within c.square.ensures c.short_turn.ensures.value)
    (length_is c.square_length.result uu.result uv.result vv.result (inner_product u u) (inner_product u v) (inner_product v v) uu.ensures.within uv.ensures.within vv.ensures.within uu.ensures.value uv.ensures.value vv.ensures.value c.square_length.ensures.value)
    (ge_is uu.result uv.result (inner_product u u) (inner_product u v) uu.ensures.within uv.ensures.within uu.ensures.value uv.ensures.value c.if-uu-uv.false)
    (ge_is vv.result uv.result (inner_product v v) (inner_product u v) vv.ensures.within uv.ensures.within vv.ensures.value uv.ensures.value c.if-vv-uv.false))
    c.lesser_quotient.ensures
