use Rattle.std.proofs.Common.{◌≡◌, ◌≤◌, ℤ, arith, subst, sym, to_z, of_z, w64}
use Rattle.std.specs.Prelude.{nat_abs}
use Rattle.std.proofs.lemmas.Int.{ints}
use Rattle.convex_poly.proofs.Wide.{back}
use Rattle.spot_terms.specs.Whole.{Within}
use Rattle.merge_sets.proofs.PartSlots.{read}
use Rattle.merge_sets.proofs.AddCalls.{small_read}
use Rattle.merge_sets.proofs.places.BoxSlots.has.Goals as goal

plain : (lo hi z : ℤ) → nat_abs lo ≤ 400_000_000 → nat_abs hi ≤ 400_000_000 → read z ≡ z → Within (read lo) (read hi) (read z) → Within lo hi z
plain lo hi z h k e w = subst (λ (y : ℤ). Within y hi z) (small_read lo h) (subst (λ (y : ℤ). Within (read lo) y z) (small_read hi k) (subst (Within (read lo) (read hi)) e w))

as_read : (lo hi z : ℤ) → nat_abs lo ≤ 400_000_000 → nat_abs hi ≤ 400_000_000 → read z ≡ z → Within lo hi z → Within (read lo) (read hi) (read z)
as_read lo hi z h k e w = subst (λ (y : ℤ). Within y (read hi) (read z)) (sym (small_read lo h)) (subst (λ (y : ℤ). Within lo y (read z)) (sym (small_read hi k)) (subst (Within lo hi) (sym e) w))

pub returns-then-is_between : goal.returns-then-is_between
returns-then-is_between c = (
  λ row_in. (
    plain c.args.self.now.first_col c.args.self.now.last_col c.args.col c.requires.first_col c.requires.last_col (back c.args.col c.ranges.col.sfits) (c.is_between.ensures.0 c.if-is_between.true),
    plain c.args.self.now.first_row c.args.self.now.last_row c.args.row c.requires.first_row c.requires.last_row (back c.args.row c.ranges.row.sfits) (c.is_between-then-is_between.ensures.0 row_in),
  ),
  λ has. c.is_between-then-is_between.ensures.1 (as_read c.args.self.now.first_row c.args.self.now.last_row c.args.row c.requires.first_row c.requires.last_row (back c.args.row c.ranges.row.sfits) has.1),
)
