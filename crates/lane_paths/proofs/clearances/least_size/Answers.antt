use Rattle.std.proofs.Common.{slice_index_or}
use Rattle.spot_terms.specs.declared.plain.Pt.{Pt}
use Rattle.convex_poly.specs.Vectors.{inner_product}
use Rattle.convex_poly.proofs.Corners.{origin}
use Rattle.lane_paths.proofs.LeastClearances.{size_none, size_more, size_all}
use Rattle.lane_paths.proofs.Numbers.{size_is}
use Rattle.lane_paths.proofs.clearances.least_size.Goals as goal

pub loop-u-init : goal.loop-u-init
loop-u-init c = size_none c.args.vectors.now origin c.size-least.result c.requires.some
    (size_is c.size-least.result c.short_inner_product.result (inner_product (slice_index_or c.args.vectors.now 0 origin) (slice_index_or c.args.vectors.now 0 origin)) c.short_inner_product.ensures.within c.size-least.ensures c.short_inner_product.ensures.value)

pub loop-u-preserved : goal.loop-u-preserved
loop-u-preserved c =
    let u : Pt = slice_index_or c.args.vectors.now c.loop-u.u-index origin in
    size_more c.args.vectors.now c.loop-u.u-index origin c.loop-u.least c.size.result c.min-least.result c.loop-u-test.true c.loop-u.invariant
    (size_is c.size.result c.short_inner_product-in-loop-u.result (inner_product u u) c.short_inner_product-in-loop-u.ensures.within c.size.ensures c.short_inner_product-in-loop-u.ensures.value) c.min-least.ensures

pub returns : goal.returns
returns c = size_all c.args.vectors.now c.loop-u.u-index c.loop-u.least c.loop-u-test.false c.loop-u.invariant
