use Rattle.std.proofs.Common.{rules, ◌≡◌, ◌∙◌, ◌≤◌, ◌<◌, ℕ, ℤ, ◌+ℤ◌, pos, arith, refl, ap, sym, subst, w64, to_z, of_z, to_z-of_z, FitsSigned, length}
use Rattle.std.specs.Prelude.{nat_abs}
use Rattle.std.proofs.lemmas.Int.{ints}
use Rattle.spot_terms.specs.Courses.{slots_met}
use Rattle.spot_terms.specs.Grid.{slot}
use Rattle.spot_terms.specs.Whole.{Within}
use Rattle.carve.proofs.RowPlaces.{fits_place}
use Rattle.area_run.specs.Plans.{course_of}
use Rattle.area_run.specs.Rows.{AreRunsOf}
use Rattle.area_run.specs.Stages.{Advances, HasCellRoom, HasSetsBefore}
use Rattle.spot_terms.proofs.Orders.{plus_zero}
use Rattle.area_run.proofs.Putting.{advance_none, row_put, cell_room, ticks_of}
use Rattle.carve.proofs.RowNumbers.{read, number_back, number_fits}
use Rattle.area_run.proofs.RowCodes.{low_small, rows_few, rows_counted, cell_in, order_of, column_over}
use Rattle.area_run.proofs.put.put_column.Goals as goal

pub loop-j-init : goal.loop-j-init
loop-j-init g c = record {
  advances = advance_none c.args.at.now.plan c.args.at.now.step (g.O.Occupied.count c.args.at.now.o.now c.args.at.now.step) (g.O.Occupied.hits c.args.at.now.o.now c.args.at.now.step) (g.O.Occupied.range c.args.at.now.o.now c.args.at.now.step) c.args.table.now c.requires.stage.plan_is.grid (to_z w64 (of_z w64 c.args.col)) (slot c.args.at.now.plan.grid.g c.args.at.now.b.ylo) _ c.args.out.now.sets (plus_zero _);
  ticks = refl;
  planes = refl;
  room = refl;
}

pub overflow_add-first : goal.overflow_add-first
overflow_add-first g c =
    let fits_lo : FitsSigned w64 c.args.at.now.b.ylo = fits_place _ c.requires.stage.reach.ylo in
    let first : c.row-first.result ≡ slot c.args.at.now.plan.grid.g c.args.at.now.b.ylo = simp to_z-of_z at c.row-first.ensures in
    let small : nat_abs c.row-first.result ≤ 400_000_000 = subst (λ (z : ℤ). nat_abs z ≤ 400_000_000) (sym first) (low_small c.args.at.now.plan c.args.at.now.step (g.O.Occupied.count c.args.at.now.o.now c.args.at.now.step) (g.O.Occupied.hits c.args.at.now.o.now c.args.at.now.step) (g.O.Occupied.range c.args.at.now.o.now c.args.at.now.step) c.args.at.now.b c.requires.stage.exact c.requires.stage.reach c.requires.stage.near c.requires.stage.plan_is.grid) in
    let few = rows_few c.args.at.now.plan c.args.at.now.step (g.O.Occupied.count c.args.at.now.o.now c.args.at.now.step) (g.O.Occupied.hits c.args.at.now.o.now c.args.at.now.step) (g.O.Occupied.range c.args.at.now.o.now c.args.at.now.step) c.args.at.now.b c.requires.stage.exact c.requires.stage.reach c.requires.stage.near c.requires.stage.plan_is.grid in
    let counted : length c.args.at.now.ends.items ≡ slots_met c.args.at.now.plan.grid.g c.args.at.now.b.ylo c.args.at.now.b.yhi = rows_counted c.args.at.now.plan c.args.at.now.step (g.O.Occupied.count c.args.at.now.o.now c.args.at.now.step) (g.O.Occupied.hits c.args.at.now.o.now c.args.at.now.step) (g.O.Occupied.range c.args.at.now.o.now c.args.at.now.step) c.args.at.now.b c.requires.stage.exact c.requires.stage.reach c.requires.stage.near c.requires.stage.plan_is.grid c.args.at.now.free.items c.args.at.now.ends.items c.requires.stage.listed in
    let end : c.len-j-end.result ≡ length c.args.at.now.ends.items = search (rules, c.len-j-end.ensures) in
    let same_col : to_z w64 (of_z w64 c.args.col) ≡ c.args.col = to_z-of_z c.ranges.col in
    number_fits c.row-first.result c.loop-j.j small (omega (arith, c.loop-j-test.true, end, counted, few))

pub put_cell-requires-clause-cell : goal.put_cell-requires-clause-cell
put_cell-requires-clause-cell g c =
    let fits_lo : FitsSigned w64 c.args.at.now.b.ylo = fits_place _ c.requires.stage.reach.ylo in
    let first : c.row-first.result ≡ slot c.args.at.now.plan.grid.g c.args.at.now.b.ylo = simp to_z-of_z at c.row-first.ensures in
    let small : nat_abs c.row-first.result ≤ 400_000_000 = subst (λ (z : ℤ). nat_abs z ≤ 400_000_000) (sym first) (low_small c.args.at.now.plan c.args.at.now.step (g.O.Occupied.count c.args.at.now.o.now c.args.at.now.step) (g.O.Occupied.hits c.args.at.now.o.now c.args.at.now.step) (g.O.Occupied.range c.args.at.now.o.now c.args.at.now.step) c.args.at.now.b c.requires.stage.exact c.requires.stage.reach c.requires.stage.near c.requires.stage.plan_is.grid) in
    let few = rows_few c.args.at.now.plan c.args.at.now.step (g.O.Occupied.count c.args.at.now.o.now c.args.at.now.step) (g.O.Occupied.hits c.args.at.now.o.now c.args.at.now.step) (g.O.Occupied.range c.args.at.now.o.now c.args.at.now.step) c.args.at.now.b c.requires.stage.exact c.requires.stage.reach c.requires.stage.near c.requires.stage.plan_is.grid in
    let counted : length c.args.at.now.ends.items ≡ slots_met c.args.at.now.plan.grid.g c.args.at.now.b.ylo c.args.at.now.b.yhi = rows_counted c.args.at.now.plan c.args.at.now.step (g.O.Occupied.count c.args.at.now.o.now c.args.at.now.step) (g.O.Occupied.hits c.args.at.now.o.now c.args.at.now.step) (g.O.Occupied.range c.args.at.now.o.now c.args.at.now.step) c.args.at.now.b c.requires.stage.exact c.requires.stage.reach c.requires.stage.near c.requires.stage.plan_is.grid c.args.at.now.free.items c.args.at.now.ends.items c.requires.stage.listed in
    let end : c.len-j-end.result ≡ length c.args.at.now.ends.items = search (rules, c.len-j-end.ensures) in
    let same_col : to_z w64 (of_z w64 c.args.col) ≡ c.args.col = to_z-of_z c.ranges.col in
    let inside : c.loop-j.j < slots_met c.args.at.now.plan.grid.g c.args.at.now.b.ylo c.args.at.now.b.yhi = omega (arith, c.loop-j-test.true, end, counted) in
    let at : read (read c.row-first.result +ℤ to_z w64 c.loop-j.j) ≡ slot c.args.at.now.plan.grid.g c.args.at.now.b.ylo +ℤ pos c.loop-j.j =
    number_back c.row-first.result c.loop-j.j small (omega (arith, inside, few)) ∙ ap (λ (z : ℤ). z +ℤ pos c.loop-j.j) first in
    cell_in c.args.at.now.plan c.args.at.now.step (g.O.Occupied.count c.args.at.now.o.now c.args.at.now.step) (g.O.Occupied.hits c.args.at.now.o.now c.args.at.now.step) (g.O.Occupied.range c.args.at.now.o.now c.args.at.now.step) c.args.at.now.b c.requires.stage.exact c.requires.stage.reach c.requires.stage.near c.requires.stage.plan_is.grid (to_z w64 (of_z w64 c.args.col)) (read (read c.row-first.result +ℤ to_z w64 c.loop-j.j)) c.loop-j.j (subst (λ (z : ℤ). Within (slot c.args.at.now.plan.grid.w c.args.at.now.b.xlo) (slot c.args.at.now.plan.grid.w c.args.at.now.b.xhi) z) (sym same_col) c.requires.col) at inside

pub put_cell-requires-clause-runs : goal.put_cell-requires-clause-runs
put_cell-requires-clause-runs g c =
    let fits_lo : FitsSigned w64 c.args.at.now.b.ylo = fits_place _ c.requires.stage.reach.ylo in
    let first : c.row-first.result ≡ slot c.args.at.now.plan.grid.g c.args.at.now.b.ylo = simp to_z-of_z at c.row-first.ensures in
    let small : nat_abs c.row-first.result ≤ 400_000_000 = subst (λ (z : ℤ). nat_abs z ≤ 400_000_000) (sym first) (low_small c.args.at.now.plan c.args.at.now.step (g.O.Occupied.count c.args.at.now.o.now c.args.at.now.step) (g.O.Occupied.hits c.args.at.now.o.now c.args.at.now.step) (g.O.Occupied.range c.args.at.now.o.now c.args.at.now.step) c.args.at.now.b c.requires.stage.exact c.requires.stage.reach c.requires.stage.near c.requires.stage.plan_is.grid) in
    let few = rows_few c.args.at.now.plan c.args.at.now.step (g.O.Occupied.count c.args.at.now.o.now c.args.at.now.step) (g.O.Occupied.hits c.args.at.now.o.now c.args.at.now.step) (g.O.Occupied.range c.args.at.now.o.now c.args.at.now.step) c.args.at.now.b c.requires.stage.exact c.requires.stage.reach c.requires.stage.near c.requires.stage.plan_is.grid in
    let counted : length c.args.at.now.ends.items ≡ slots_met c.args.at.now.plan.grid.g c.args.at.now.b.ylo c.args.at.now.b.yhi = rows_counted c.args.at.now.plan c.args.at.now.step (g.O.Occupied.count c.args.at.now.o.now c.args.at.now.step) (g.O.Occupied.hits c.args.at.now.o.now c.args.at.now.step) (g.O.Occupied.range c.args.at.now.o.now c.args.at.now.step) c.args.at.now.b c.requires.stage.exact c.requires.stage.reach c.requires.stage.near c.requires.stage.plan_is.grid c.args.at.now.free.items c.args.at.now.ends.items c.requires.stage.listed in
    let end : c.len-j-end.result ≡ length c.args.at.now.ends.items = search (rules, c.len-j-end.ensures) in
    let same_col : to_z w64 (of_z w64 c.args.col) ≡ c.args.col = to_z-of_z c.ranges.col in
    let inside : c.loop-j.j < slots_met c.args.at.now.plan.grid.g c.args.at.now.b.ylo c.args.at.now.b.yhi = omega (arith, c.loop-j-test.true, end, counted) in
    let at : read (read c.row-first.result +ℤ to_z w64 c.loop-j.j) ≡ slot c.args.at.now.plan.grid.g c.args.at.now.b.ylo +ℤ pos c.loop-j.j =
    number_back c.row-first.result c.loop-j.j small (omega (arith, inside, few)) ∙ ap (λ (z : ℤ). z +ℤ pos c.loop-j.j) first in
    subst (λ (z : ℤ). AreRunsOf (course_of c.args.at.now.plan) c.args.at.now.step (g.O.Occupied.count c.args.at.now.o.now c.args.at.now.step) (g.O.Occupied.hits c.args.at.now.o.now c.args.at.now.step) (g.O.Occupied.range c.args.at.now.o.now c.args.at.now.step) z c.row.result.now) (sym at) c.row.ensures

pub put_cell-requires-clause-room : goal.put_cell-requires-clause-room
put_cell-requires-clause-room g c =
    let fits_lo : FitsSigned w64 c.args.at.now.b.ylo = fits_place _ c.requires.stage.reach.ylo in
    let first : c.row-first.result ≡ slot c.args.at.now.plan.grid.g c.args.at.now.b.ylo = simp to_z-of_z at c.row-first.ensures in
    let small : nat_abs c.row-first.result ≤ 400_000_000 = subst (λ (z : ℤ). nat_abs z ≤ 400_000_000) (sym first) (low_small c.args.at.now.plan c.args.at.now.step (g.O.Occupied.count c.args.at.now.o.now c.args.at.now.step) (g.O.Occupied.hits c.args.at.now.o.now c.args.at.now.step) (g.O.Occupied.range c.args.at.now.o.now c.args.at.now.step) c.args.at.now.b c.requires.stage.exact c.requires.stage.reach c.requires.stage.near c.requires.stage.plan_is.grid) in
    let few = rows_few c.args.at.now.plan c.args.at.now.step (g.O.Occupied.count c.args.at.now.o.now c.args.at.now.step) (g.O.Occupied.hits c.args.at.now.o.now c.args.at.now.step) (g.O.Occupied.range c.args.at.now.o.now c.args.at.now.step) c.args.at.now.b c.requires.stage.exact c.requires.stage.reach c.requires.stage.near c.requires.stage.plan_is.grid in
    let counted : length c.args.at.now.ends.items ≡ slots_met c.args.at.now.plan.grid.g c.args.at.now.b.ylo c.args.at.now.b.yhi = rows_counted c.args.at.now.plan c.args.at.now.step (g.O.Occupied.count c.args.at.now.o.now c.args.at.now.step) (g.O.Occupied.hits c.args.at.now.o.now c.args.at.now.step) (g.O.Occupied.range c.args.at.now.o.now c.args.at.now.step) c.args.at.now.b c.requires.stage.exact c.requires.stage.reach c.requires.stage.near c.requires.stage.plan_is.grid c.args.at.now.free.items c.args.at.now.ends.items c.requires.stage.listed in
    let end : c.len-j-end.result ≡ length c.args.at.now.ends.items = search (rules, c.len-j-end.ensures) in
    let same_col : to_z w64 (of_z w64 c.args.col) ≡ c.args.col = to_z-of_z c.ranges.col in
    let inside : c.loop-j.j < slots_met c.args.at.now.plan.grid.g c.args.at.now.b.ylo c.args.at.now.b.yhi = omega (arith, c.loop-j-test.true, end, counted) in
    let at : read (read c.row-first.result +ℤ to_z w64 c.loop-j.j) ≡ slot c.args.at.now.plan.grid.g c.args.at.now.b.ylo +ℤ pos c.loop-j.j =
    number_back c.row-first.result c.loop-j.j small (omega (arith, inside, few)) ∙ ap (λ (z : ℤ). z +ℤ pos c.loop-j.j) first in
    let cell = cell_in c.args.at.now.plan c.args.at.now.step (g.O.Occupied.count c.args.at.now.o.now c.args.at.now.step) (g.O.Occupied.hits c.args.at.now.o.now c.args.at.now.step) (g.O.Occupied.range c.args.at.now.o.now c.args.at.now.step) c.args.at.now.b c.requires.stage.exact c.requires.stage.reach c.requires.stage.near c.requires.stage.plan_is.grid (to_z w64 (of_z w64 c.args.col)) (read (read c.row-first.result +ℤ to_z w64 c.loop-j.j)) c.loop-j.j (subst (λ (z : ℤ). Within (slot c.args.at.now.plan.grid.w c.args.at.now.b.xlo) (slot c.args.at.now.plan.grid.w c.args.at.now.b.xhi) z) (sym same_col) c.requires.col) at inside in
    let begun : HasSetsBefore c.args.at.now.plan c.args.at.now.step (g.O.Occupied.count c.args.at.now.o.now c.args.at.now.step) (g.O.Occupied.hits c.args.at.now.o.now c.args.at.now.step) (g.O.Occupied.range c.args.at.now.o.now c.args.at.now.step) c.args.table.now (to_z w64 (of_z w64 c.args.col)) (slot c.args.at.now.plan.grid.g c.args.at.now.b.ylo) c.args.out.now.sets = subst (λ (z : ℤ). HasSetsBefore c.args.at.now.plan c.args.at.now.step (g.O.Occupied.count c.args.at.now.o.now c.args.at.now.step) (g.O.Occupied.hits c.args.at.now.o.now c.args.at.now.step) (g.O.Occupied.range c.args.at.now.o.now c.args.at.now.step) c.args.table.now z (slot c.args.at.now.plan.grid.g c.args.at.now.b.ylo) c.args.out.now.sets) (sym same_col) c.requires.begun in
    let adv : Advances c.args.at.now.plan c.args.at.now.step (g.O.Occupied.count c.args.at.now.o.now c.args.at.now.step) (g.O.Occupied.hits c.args.at.now.o.now c.args.at.now.step) (g.O.Occupied.range c.args.at.now.o.now c.args.at.now.step) c.args.table.now (to_z w64 (of_z w64 c.args.col)) (slot c.args.at.now.plan.grid.g c.args.at.now.b.ylo) c.args.out.now.sets (to_z w64 (of_z w64 c.args.col)) (read (read c.row-first.result +ℤ to_z w64 c.loop-j.j)) c.loop-j.out.sets = subst (λ (z : ℤ). Advances c.args.at.now.plan c.args.at.now.step (g.O.Occupied.count c.args.at.now.o.now c.args.at.now.step) (g.O.Occupied.hits c.args.at.now.o.now c.args.at.now.step) (g.O.Occupied.range c.args.at.now.o.now c.args.at.now.step) c.args.table.now (to_z w64 (of_z w64 c.args.col)) (slot c.args.at.now.plan.grid.g c.args.at.now.b.ylo) c.args.out.now.sets (to_z w64 (of_z w64 c.args.col)) z c.loop-j.out.sets) (sym at) c.loop-j.invariant.advances in
    subst (λ (n : ℕ). HasCellRoom c.args.at.now.plan c.args.at.now.step (g.O.Occupied.count c.args.at.now.o.now c.args.at.now.step) (g.O.Occupied.hits c.args.at.now.o.now c.args.at.now.step) (g.O.Occupied.range c.args.at.now.o.now c.args.at.now.step) (to_z w64 (of_z w64 c.args.col)) (read (read c.row-first.result +ℤ to_z w64 c.loop-j.j)) c.loop-j.out.sets n) (sym c.loop-j.invariant.room)
    (cell_room c.args.at.now.plan c.args.at.now.step (g.O.Occupied.count c.args.at.now.o.now c.args.at.now.step) (g.O.Occupied.hits c.args.at.now.o.now c.args.at.now.step) (g.O.Occupied.range c.args.at.now.o.now c.args.at.now.step) c.args.table.now c.requires.stage.plan_is.grid (to_z w64 (of_z w64 c.args.col)) (read (read c.row-first.result +ℤ to_z w64 c.loop-j.j)) (slot c.args.at.now.plan.grid.g c.args.at.now.b.ylo) c.args.out.now.sets c.loop-j.out.sets c.args.out.now.room c.args.at.now.free.items c.args.at.now.ends.items (order_of c.args.at.now.plan c.args.at.now.step (g.O.Occupied.count c.args.at.now.o.now c.args.at.now.step) (g.O.Occupied.hits c.args.at.now.o.now c.args.at.now.step) (g.O.Occupied.range c.args.at.now.o.now c.args.at.now.step) c.args.at.now.b c.requires.stage.exact c.requires.stage.reach c.requires.stage.near c.requires.stage.plan_is.grid) c.requires.stage.listed cell begun c.requires.room adv)

pub loop-j-preserved : goal.loop-j-preserved
loop-j-preserved g c =
    let fits_lo : FitsSigned w64 c.args.at.now.b.ylo = fits_place _ c.requires.stage.reach.ylo in
    let first : c.row-first.result ≡ slot c.args.at.now.plan.grid.g c.args.at.now.b.ylo = simp to_z-of_z at c.row-first.ensures in
    let small : nat_abs c.row-first.result ≤ 400_000_000 = subst (λ (z : ℤ). nat_abs z ≤ 400_000_000) (sym first) (low_small c.args.at.now.plan c.args.at.now.step (g.O.Occupied.count c.args.at.now.o.now c.args.at.now.step) (g.O.Occupied.hits c.args.at.now.o.now c.args.at.now.step) (g.O.Occupied.range c.args.at.now.o.now c.args.at.now.step) c.args.at.now.b c.requires.stage.exact c.requires.stage.reach c.requires.stage.near c.requires.stage.plan_is.grid) in
    let few = rows_few c.args.at.now.plan c.args.at.now.step (g.O.Occupied.count c.args.at.now.o.now c.args.at.now.step) (g.O.Occupied.hits c.args.at.now.o.now c.args.at.now.step) (g.O.Occupied.range c.args.at.now.o.now c.args.at.now.step) c.args.at.now.b c.requires.stage.exact c.requires.stage.reach c.requires.stage.near c.requires.stage.plan_is.grid in
    let counted : length c.args.at.now.ends.items ≡ slots_met c.args.at.now.plan.grid.g c.args.at.now.b.ylo c.args.at.now.b.yhi = rows_counted c.args.at.now.plan c.args.at.now.step (g.O.Occupied.count c.args.at.now.o.now c.args.at.now.step) (g.O.Occupied.hits c.args.at.now.o.now c.args.at.now.step) (g.O.Occupied.range c.args.at.now.o.now c.args.at.now.step) c.args.at.now.b c.requires.stage.exact c.requires.stage.reach c.requires.stage.near c.requires.stage.plan_is.grid c.args.at.now.free.items c.args.at.now.ends.items c.requires.stage.listed in
    let end : c.len-j-end.result ≡ length c.args.at.now.ends.items = search (rules, c.len-j-end.ensures) in
    let same_col : to_z w64 (of_z w64 c.args.col) ≡ c.args.col = to_z-of_z c.ranges.col in
    let inside : c.loop-j.j < slots_met c.args.at.now.plan.grid.g c.args.at.now.b.ylo c.args.at.now.b.yhi = omega (arith, c.loop-j-test.true, end, counted) in
    let at : read (read c.row-first.result +ℤ to_z w64 c.loop-j.j) ≡ slot c.args.at.now.plan.grid.g c.args.at.now.b.ylo +ℤ pos c.loop-j.j =
    number_back c.row-first.result c.loop-j.j small (omega (arith, inside, few)) ∙ ap (λ (z : ℤ). z +ℤ pos c.loop-j.j) first in
    record {
      advances = row_put c.args.at.now.plan c.args.at.now.step (g.O.Occupied.count c.args.at.now.o.now c.args.at.now.step) (g.O.Occupied.hits c.args.at.now.o.now c.args.at.now.step) (g.O.Occupied.range c.args.at.now.o.now c.args.at.now.step) c.args.table.now c.requires.stage.plan_is.grid (to_z w64 (of_z w64 c.args.col)) (read (read c.row-first.result +ℤ to_z w64 c.loop-j.j)) (slot c.args.at.now.plan.grid.g c.args.at.now.b.ylo) c.loop-j.j c.args.out.now.sets c.loop-j.out.sets c.put_cell.new.out.sets at c.loop-j.invariant.advances c.put_cell.ensures.advances;
      ticks = c.put_cell.ensures.ticks ∙ c.loop-j.invariant.ticks;
      planes = c.put_cell.ensures.planes ∙ c.loop-j.invariant.planes;
      room = c.put_cell.ensures.room ∙ c.loop-j.invariant.room;
    }

pub returns-clause-advances : goal.returns-clause-advances
returns-clause-advances g c =
    let fits_lo : FitsSigned w64 c.args.at.now.b.ylo = fits_place _ c.requires.stage.reach.ylo in
    let first : c.row-first.result ≡ slot c.args.at.now.plan.grid.g c.args.at.now.b.ylo = simp to_z-of_z at c.row-first.ensures in
    let small : nat_abs c.row-first.result ≤ 400_000_000 = subst (λ (z : ℤ). nat_abs z ≤ 400_000_000) (sym first) (low_small c.args.at.now.plan c.args.at.now.step (g.O.Occupied.count c.args.at.now.o.now c.args.at.now.step) (g.O.Occupied.hits c.args.at.now.o.now c.args.at.now.step) (g.O.Occupied.range c.args.at.now.o.now c.args.at.now.step) c.args.at.now.b c.requires.stage.exact c.requires.stage.reach c.requires.stage.near c.requires.stage.plan_is.grid) in
    let few = rows_few c.args.at.now.plan c.args.at.now.step (g.O.Occupied.count c.args.at.now.o.now c.args.at.now.step) (g.O.Occupied.hits c.args.at.now.o.now c.args.at.now.step) (g.O.Occupied.range c.args.at.now.o.now c.args.at.now.step) c.args.at.now.b c.requires.stage.exact c.requires.stage.reach c.requires.stage.near c.requires.stage.plan_is.grid in
    let counted : length c.args.at.now.ends.items ≡ slots_met c.args.at.now.plan.grid.g c.args.at.now.b.ylo c.args.at.now.b.yhi = rows_counted c.args.at.now.plan c.args.at.now.step (g.O.Occupied.count c.args.at.now.o.now c.args.at.now.step) (g.O.Occupied.hits c.args.at.now.o.now c.args.at.now.step) (g.O.Occupied.range c.args.at.now.o.now c.args.at.now.step) c.args.at.now.b c.requires.stage.exact c.requires.stage.reach c.requires.stage.near c.requires.stage.plan_is.grid c.args.at.now.free.items c.args.at.now.ends.items c.requires.stage.listed in
    let end : c.len-j-end.result ≡ length c.args.at.now.ends.items = search (rules, c.len-j-end.ensures) in
    let same_col : to_z w64 (of_z w64 c.args.col) ≡ c.args.col = to_z-of_z c.ranges.col in
    let over = column_over c.args.at.now.plan c.args.at.now.step (g.O.Occupied.count c.args.at.now.o.now c.args.at.now.step) (g.O.Occupied.hits c.args.at.now.o.now c.args.at.now.step) (g.O.Occupied.range c.args.at.now.o.now c.args.at.now.step) c.args.at.now.b c.requires.stage.exact c.requires.stage.reach c.requires.stage.near c.requires.stage.plan_is.grid c.args.table.now (to_z w64 (of_z w64 c.args.col)) c.loop-j.j c.args.out.now.sets c.loop-j.out.sets (let l = c.loop-j-test.false in let k = c.loop-j.auto.j-end in omega (arith, l, k, end, counted)) c.loop-j.invariant.advances in
    subst (λ (z : ℤ). Advances c.args.at.now.plan c.args.at.now.step (g.O.Occupied.count c.args.at.now.o.now c.args.at.now.step) (g.O.Occupied.hits c.args.at.now.o.now c.args.at.now.step) (g.O.Occupied.range c.args.at.now.o.now c.args.at.now.step) c.args.table.now z (slot c.args.at.now.plan.grid.g c.args.at.now.b.ylo) c.args.out.now.sets (z +ℤ pos 1) (slot c.args.at.now.plan.grid.g c.args.at.now.b.ylo) c.loop-j.out.sets) same_col over

pub put_cell-requires-clause-ticks : goal.put_cell-requires-clause-ticks
put_cell-requires-clause-ticks g c =
    ticks_of c.args.at.now.plan c.args.at.now.step (g.O.Occupied.count c.args.at.now.o.now c.args.at.now.step) (g.O.Occupied.hits c.args.at.now.o.now c.args.at.now.step) (g.O.Occupied.range c.args.at.now.o.now c.args.at.now.step) c.args.table.now c.requires.stage.plan_is.grid c.args.col (slot c.args.at.now.plan.grid.g c.args.at.now.b.ylo) c.args.out.now.sets c.loop-j.planes.k (c.loop-j.invariant.ticks ∙ c.requires.ticks) c.requires.begun

pub put_cell-requires-clause-planes : goal.put_cell-requires-clause-planes
put_cell-requires-clause-planes g c =
    let end : c.len-j-end.result ≡ length c.args.at.now.ends.items = search (rules, c.len-j-end.ensures) in
    omega (arith, c.loop-j-test.true, end, c.requires.planes, c.loop-j.invariant.planes)
