use Rattle.std.proofs.Common.{FitsSigned, w64, to_z-of_z, ◌≡◌, ◌∙◌, arith}
use Rattle.spot_terms.specs.Grid.{slot, slot_high, slot_low}
use Rattle.carve.proofs.RowPlaces.{fits_place, fits_wide}
use Rattle.area_run.proofs.Starting.{row_asked, low_near, high_near}
use Rattle.area_run.proofs.first.start_row.Goals as goal

pub row_ends-requires-clause-low : goal.row_ends-requires-clause-low
row_ends-requires-clause-low c =
    let fits_g : FitsSigned w64 c.args.plan.now.grid.g = fits_wide _ c.requires.plan.grid.g in
    let fits_y : FitsSigned w64 c.args.plan.now.s.p.y = fits_place _ (omega (arith, c.requires.plan.start.y)) in
    let fits_row : FitsSigned w64 c.row.result = record { sfits = c.row.type_inv } in
    let row : c.row.result ≡ slot c.args.plan.now.grid.g c.args.plan.now.s.p.y = simp to_z-of_z at c.row.ensures in
    row_asked c.args.plan.now.grid.g c.args.plan.now.s.p.y _ _ c.requires.plan.grid.g c.requires.plan.start.y (to_z-of_z fits_g) (to_z-of_z fits_row ∙ row)

pub returns-clause-low_near : goal.returns-clause-low_near
returns-clause-low_near c =
    let fits_g : FitsSigned w64 c.args.plan.now.grid.g = fits_wide _ c.requires.plan.grid.g in
    let fits_y : FitsSigned w64 c.args.plan.now.s.p.y = fits_place _ (omega (arith, c.requires.plan.start.y)) in
    let fits_row : FitsSigned w64 c.row.result = record { sfits = c.row.type_inv } in
    let row : c.row.result ≡ slot c.args.plan.now.grid.g c.args.plan.now.s.p.y = simp to_z-of_z at c.row.ensures in
    let low : c.row_ends.result.0 ≡ slot_low c.args.plan.now.grid.g c.row.result = simp to_z-of_z at c.row_ends.ensures.low in
    low_near c.args.plan.now.grid.g c.args.plan.now.s.p.y c.row_ends.result.0 c.requires.plan.grid.g c.requires.plan.start.y (rw row at low)

pub returns-clause-high_near : goal.returns-clause-high_near
returns-clause-high_near c =
    let fits_g : FitsSigned w64 c.args.plan.now.grid.g = fits_wide _ c.requires.plan.grid.g in
    let fits_y : FitsSigned w64 c.args.plan.now.s.p.y = fits_place _ (omega (arith, c.requires.plan.start.y)) in
    let fits_row : FitsSigned w64 c.row.result = record { sfits = c.row.type_inv } in
    let row : c.row.result ≡ slot c.args.plan.now.grid.g c.args.plan.now.s.p.y = simp to_z-of_z at c.row.ensures in
    let high : c.row_ends.result.1 ≡ slot_high c.args.plan.now.grid.g c.row.result = simp to_z-of_z at c.row_ends.ensures.high in
    high_near c.args.plan.now.grid.g c.args.plan.now.s.p.y c.row_ends.result.1 c.requires.plan.grid.g c.requires.plan.start.y (rw row at high)
