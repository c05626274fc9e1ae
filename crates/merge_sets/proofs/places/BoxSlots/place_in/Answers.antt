use Rattle.std.proofs.Common.{◌≡◌, ◌∙◌, ℤ, ap, subst, to_z, of_z, w64}
use Rattle.convex_poly.proofs.Wide.{back}
use Rattle.merge_sets.specs.BoxSlots.{HasCell, place_in as place_of}
use Rattle.merge_sets.proofs.places.BoxSlots.place_in.Goals as goal

pub returns-then-has-clause-some : goal.returns-then-has-clause-some
returns-then-has-clause-some c =
    let col : to_z w64 (of_z w64 c.args.col) ≡ c.args.col = back c.args.col c.ranges.col.sfits in
    let row : to_z w64 (of_z w64 c.args.row) ≡ c.args.row = back c.args.row c.ranges.row.sfits in (
      subst (λ (z : ℤ). HasCell c.args.self.now z c.args.row) col (subst (λ (z : ℤ). HasCell c.args.self.now (to_z w64 (of_z w64 c.args.col)) z) row (c.has.ensures.0 c.if-has.true)),
      c.place.ensures ∙ ap (λ (z : ℤ). place_of c.args.self.now z (to_z w64 (of_z w64 c.args.row))) col ∙ ap (λ (z : ℤ). place_of c.args.self.now c.args.col z) row,
    )
