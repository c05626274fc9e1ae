use Rattle.std.proofs.Common.{arith, to_z-of_z}
use Rattle.spot_terms.proofs.Quotients.{product_le_at, next_product_gt_at, int_div_euclid-floor}
use Rattle.spot_num.proofs.div_floor.Goals as goal

pub returns-clause-product_le : goal.returns-clause-product_le
returns-clause-product_le c = grind (arith, to_z-of_z, product_le_at, int_div_euclid-floor)

pub returns-clause-next_product_gt : goal.returns-clause-next_product_gt
returns-clause-next_product_gt c = grind (arith, to_z-of_z, next_product_gt_at, int_div_euclid-floor)
