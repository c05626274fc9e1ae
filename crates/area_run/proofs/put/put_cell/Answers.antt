use Rattle.std.proofs.Common.{◌≡◌, ◌≤◌, ℕ, ℤ, List, length, arith, refl, sym, subst, w64, to_z-of_z, FitsSigned, None, Some}
use Rattle.std.specs.Prelude.{slice_get}
use Rattle.spot_terms.specs.BaseSets.{SetValue}
use Rattle.spot_terms.specs.declared.plain.Pt.{Pt}
use Rattle.carve.proofs.RowPlaces.{fits_wide}
use Rattle.merge_sets.specs.Tables.{IsMergedIn, Table}
use Rattle.area_run.specs.Columns.{IsColumnOf}
use Rattle.area_run.proofs.Putting.{in_turn, cell_near, cell_runs, cell_put, nothing_put, merged_back}
use Rattle.area_run.proofs.put.put_cell.Goals as goal

pub column_runs-requires-clause-order : goal.column_runs-requires-clause-order
column_runs-requires-clause-order g c = in_turn c.args.at.now.plan c.args.at.now.step (g.O.Occupied.count c.args.at.now.o.now c.args.at.now.step) (g.O.Occupied.hits c.args.at.now.o.now c.args.at.now.step) (g.O.Occupied.range c.args.at.now.o.now c.args.at.now.step) c.args.row c.args.runs.now c.requires.runs

pub column_runs-requires-clause-low : goal.column_runs-requires-clause-low
column_runs-requires-clause-low g c =
    let fits_col : FitsSigned w64 c.args.col = c.ranges.col in
    let fits_w : FitsSigned w64 c.args.at.now.plan.grid.w = fits_wide _ c.requires.stage.plan_is.grid.w in
    let near = cell_near c.args.at.now.plan c.args.at.now.step (g.O.Occupied.count c.args.at.now.o.now c.args.at.now.step) (g.O.Occupied.hits c.args.at.now.o.now c.args.at.now.step) (g.O.Occupied.range c.args.at.now.o.now c.args.at.now.step) c.args.at.now.b c.args.at.now.free.items c.args.at.now.ends.items c.args.col c.args.row c.requires.stage c.requires.cell in
    simp to_z-of_z near.low

pub column_runs-requires-clause-high : goal.column_runs-requires-clause-high
column_runs-requires-clause-high g c =
    let fits_col : FitsSigned w64 c.args.col = c.ranges.col in
    let fits_w : FitsSigned w64 c.args.at.now.plan.grid.w = fits_wide _ c.requires.stage.plan_is.grid.w in
    let near = cell_near c.args.at.now.plan c.args.at.now.step (g.O.Occupied.count c.args.at.now.o.now c.args.at.now.step) (g.O.Occupied.hits c.args.at.now.o.now c.args.at.now.step) (g.O.Occupied.range c.args.at.now.o.now c.args.at.now.step) c.args.at.now.b c.args.at.now.free.items c.args.at.now.ends.items c.args.col c.args.row c.requires.stage c.requires.cell in
    simp to_z-of_z near.next

pub column_runs-requires-clause-col : goal.column_runs-requires-clause-col
column_runs-requires-clause-col g c =
    let fits_col : FitsSigned w64 c.args.col = c.ranges.col in
    let near = cell_near c.args.at.now.plan c.args.at.now.step (g.O.Occupied.count c.args.at.now.o.now c.args.at.now.step) (g.O.Occupied.hits c.args.at.now.o.now c.args.at.now.step) (g.O.Occupied.range c.args.at.now.o.now c.args.at.now.step) c.args.at.now.b c.args.at.now.free.items c.args.at.now.ends.items c.args.col c.args.row c.requires.stage c.requires.cell in
    let small = near.col_small in
    simp to_z-of_z (omega (arith, small))

pub cut_parts-requires-clause-places : goal.cut_parts-requires-clause-places
cut_parts-requires-clause-places g c =
    let fits_col : FitsSigned w64 c.args.col = c.ranges.col in
    let fits_w : FitsSigned w64 c.args.at.now.plan.grid.w = fits_wide _ c.requires.stage.plan_is.grid.w in
    let column : IsColumnOf c.args.at.now.plan.grid.w c.args.col c.args.runs.now c.column_runs.result.now = simp to_z-of_z at c.column_runs.ensures in
    let near = cell_near c.args.at.now.plan c.args.at.now.step (g.O.Occupied.count c.args.at.now.o.now c.args.at.now.step) (g.O.Occupied.hits c.args.at.now.o.now c.args.at.now.step) (g.O.Occupied.range c.args.at.now.o.now c.args.at.now.step) c.args.at.now.b c.args.at.now.free.items c.args.at.now.ends.items c.args.col c.args.row c.requires.stage c.requires.cell in
    near.places c.column_runs.result.now (cell_runs c.args.at.now.plan c.args.at.now.step (g.O.Occupied.count c.args.at.now.o.now c.args.at.now.step) (g.O.Occupied.hits c.args.at.now.o.now c.args.at.now.step) (g.O.Occupied.range c.args.at.now.o.now c.args.at.now.step) c.args.col c.args.row c.args.runs.now c.column_runs.result.now c.requires.stage.plan_is.grid c.requires.cell c.requires.runs column).free

pub cut_parts-requires-clause-room : goal.cut_parts-requires-clause-room
cut_parts-requires-clause-room g c =
    let fits_col : FitsSigned w64 c.args.col = c.ranges.col in
    let fits_w : FitsSigned w64 c.args.at.now.plan.grid.w = fits_wide _ c.requires.stage.plan_is.grid.w in
    let column : IsColumnOf c.args.at.now.plan.grid.w c.args.col c.args.runs.now c.column_runs.result.now = simp to_z-of_z at c.column_runs.ensures in
    c.requires.room c.column_runs.result.now (cell_runs c.args.at.now.plan c.args.at.now.step (g.O.Occupied.count c.args.at.now.o.now c.args.at.now.step) (g.O.Occupied.hits c.args.at.now.o.now c.args.at.now.step) (g.O.Occupied.range c.args.at.now.o.now c.args.at.now.step) c.args.col c.args.row c.args.runs.now c.column_runs.result.now c.requires.stage.plan_is.grid c.requires.cell c.requires.runs column).free

-- the set of the cell, by the polygons that are kept
kept_set : (t : Table) (c r col row : ℤ) (x y kept_x : List Pt) (ys : List (List Pt)) (j : ℕ) → c ≡ col → r ≡ row → x ≡ kept_x → ((z : List Pt) → slice_get ys j ≡ Some z → y ≡ z)
    → (z : List Pt) × (slice_get ys j ≡ Some z) × IsMergedIn t c r (Some (record { col = c; row = r; x = kept_x; y = z })) → IsMergedIn t col row (Some (record { col = col; row = row; x = x; y = y }))
kept_set t c r col row x y kept_x ys j e f is_x is_y (z, got, m) =
    subst (λ (v : List Pt). IsMergedIn t col row (Some (record { col = col; row = row; x = x; y = v }))) (sym (is_y z got))
    (subst (λ (u : List Pt). IsMergedIn t col row (Some (record { col = col; row = row; x = u; y = z }))) (sym is_x)
    (subst (λ (b : ℤ). IsMergedIn t col b (Some (record { col = col; row = b; x = kept_x; y = z }))) f
    (subst (λ (a : ℤ). IsMergedIn t a r (Some (record { col = a; row = r; x = kept_x; y = z }))) e m)))

few_corners : (t : Table) (col row : ℤ) (b : SetValue) → IsMergedIn t col row (Some b) → length b.x ≤ 18
few_corners t col row b (o, grid, k, numbers, step, holds, e, f, m) = let few = m.few_x in omega (arith, few)

pub cut_parts-requires-clause-corners : goal.cut_parts-requires-clause-corners
cut_parts-requires-clause-corners g c =
    let fits_col : FitsSigned w64 c.args.col = c.ranges.col in
    let fits_row : FitsSigned w64 c.args.row = c.ranges.row in
    let merged = kept_set c.args.table.now _ _ c.args.col c.args.row c.x.result.now c.y.result.now _ _ c.args.j (to_z-of_z fits_col) (to_z-of_z fits_row) c.x.ensures c.y.ensures c.if-go_to.ensures.merged in
    few_corners c.args.table.now c.args.col c.args.row _ merged

pub returns-then-go_to-clause-advances : goal.returns-then-go_to-clause-advances
returns-then-go_to-clause-advances g c =
    let fits_col : FitsSigned w64 c.args.col = c.ranges.col in
    let fits_row : FitsSigned w64 c.args.row = c.ranges.row in
    let fits_w : FitsSigned w64 c.args.at.now.plan.grid.w = fits_wide _ c.requires.stage.plan_is.grid.w in
    let column : IsColumnOf c.args.at.now.plan.grid.w c.args.col c.args.runs.now c.column_runs.result.now = simp to_z-of_z at c.column_runs.ensures in
    let merged = kept_set c.args.table.now _ _ c.args.col c.args.row c.x.result.now c.y.result.now _ _ c.args.j (to_z-of_z fits_col) (to_z-of_z fits_row) c.x.ensures c.y.ensures c.if-go_to.ensures.merged in
    cell_put c.args.at.now.plan c.args.at.now.step (g.O.Occupied.count c.args.at.now.o.now c.args.at.now.step) (g.O.Occupied.hits c.args.at.now.o.now c.args.at.now.step) (g.O.Occupied.range c.args.at.now.o.now c.args.at.now.step) c.args.table.now c.requires.stage.plan_is.grid c.args.col c.args.row _ c.column_runs.result.now c.args.out.now.sets c.cut_parts.new.out.sets merged
    (cell_runs c.args.at.now.plan c.args.at.now.step (g.O.Occupied.count c.args.at.now.o.now c.args.at.now.step) (g.O.Occupied.hits c.args.at.now.o.now c.args.at.now.step) (g.O.Occupied.range c.args.at.now.o.now c.args.at.now.step) c.args.col c.args.row c.args.runs.now c.column_runs.result.now c.requires.stage.plan_is.grid c.requires.cell c.requires.runs column) (simp to_z-of_z at c.cut_parts.ensures.sets)

pub returns-else-go_to-clause-advances : goal.returns-else-go_to-clause-advances
returns-else-go_to-clause-advances g c =
    let fits_col : FitsSigned w64 c.args.col = c.ranges.col in
    let fits_row : FitsSigned w64 c.args.row = c.ranges.row in
    let merged : IsMergedIn c.args.table.now c.args.col c.args.row None = merged_back c.args.table.now _ _ c.args.col c.args.row None (to_z-of_z fits_col) (to_z-of_z fits_row) c.if-go_to.ensures.merged in
    nothing_put c.args.at.now.plan c.args.at.now.step (g.O.Occupied.count c.args.at.now.o.now c.args.at.now.step) (g.O.Occupied.hits c.args.at.now.o.now c.args.at.now.step) (g.O.Occupied.range c.args.at.now.o.now c.args.at.now.step) c.args.table.now c.requires.stage.plan_is.grid c.args.col c.args.row c.args.out.now.sets c.args.out.now.sets merged refl
