use Rattle.std.proofs.Common.{◌≡◌, ◌∙◌, ◌+◌, ◌≤◌, ℕ, ℤ, List, Some, ap, arith, length, refl, subst, sym, to_z, of_z, w64}
use Rattle.std.specs.Prelude.{slice_get}
use Rattle.std.specs.Vec.{with_items}
use Rattle.std.proofs.lemmas.List.{with_items_is}
use Rattle.convex_poly.proofs.Wide.{back}
use Rattle.merge_sets.specs.BoxSlots.{HasCell, place_in}
use Rattle.merge_sets.specs.Cells.{IsTable, JoinsColumn}
use Rattle.merge_sets.specs.Tables.{JoinsRows, Table}
use Rattle.merge_sets.specs.declared.cells.Cell.{Cell}
use Rattle.merge_sets.specs.declared.places.BoxSlots.{BoxSlots}
use Rattle.merge_sets.proofs.Joins.{both_eight}
use Rattle.merge_sets.proofs.KnownRows.{known_fit, known_joins, known_none, known_table, same_joins}
use Rattle.merge_sets.proofs.Steps.{StepOf, table_of}
use Rattle.spot_terms.proofs.Orders.{natural_trans}
use Rattle.merge_sets.proofs.table.CellTable.join_rows.Goals as goal

-- a cell by the numbers that the call reads
at_cell : (s : BoxSlots) (col row p q : ℤ) → p ≡ col → q ≡ row → HasCell s p q → HasCell s col row
at_cell s col row p q e f h = subst (λ (z : ℤ). HasCell s z row) e (subst (λ (z : ℤ). HasCell s p z) f h)

at_place : (s : BoxSlots) (col row p q : ℤ) (at : ℕ) → p ≡ col → q ≡ row → at ≡ place_in s p q → at ≡ place_in s col row
at_place s col row p q at e f h = h ∙ ap (λ (z : ℤ). place_in s z q) e ∙ ap (λ (z : ℤ). place_in s col z) f

pub join_column-requires-clause-room : goal.join_column-requires-clause-room
join_column-requires-clause-room c =
    let col = back c.args.col c.ranges.col.sfits in
    let low = back c.args.low c.ranges.low.sfits in
    let step : c.self.inside.step ≡ Some (c.requires.o, c.requires.grid, c.requires.k) = ap (λ (v : Table). v.step) c.self.view_is ∙ c.requires.step in
    let held = subst (λ (s : StepOf). IsTable s c.self.inside.slots c.self.inside.used c.self.inside.cells.items c.self.inside.rows.items) step c.self.invariant in
    let fits : place_in c.self.inside.slots c.args.col c.args.low + length c.args.rows.now ≤ c.self.inside.used =
    known_fit c.requires.o c.requires.grid c.requires.k c.self.inside.slots c.self.inside.used c.self.inside.cells.items c.self.inside.rows.items held c.args.col c.args.low c.args.x.now.n c.args.rows.now c.requires.cells
    (at_cell c.self.inside.slots c.args.col c.args.low _ _ col low c.in-Some.ensures.some.0) in
    let at = at_place c.self.inside.slots c.args.col c.args.low _ _ c.in-Some.at col low c.in-Some.ensures.some.1 in
    subst (λ (z : List Cell). c.in-Some.at + length c.args.rows.now ≤ length z) (sym c.deref_mut.ensures.value)
    (subst (λ (p : ℕ). p + length c.args.rows.now ≤ length c.self.inside.cells.items) (sym at) (let f = c.self.invariant.few in natural_trans (place_in c.self.inside.slots c.args.col c.args.low + length c.args.rows.now) c.self.inside.used (length c.self.inside.cells.items) fits f))

pub join_column-requires-clause-cells : goal.join_column-requires-clause-cells
join_column-requires-clause-cells c = λ i d got.
    let step : c.self.inside.step ≡ Some (c.requires.o, c.requires.grid, c.requires.k) = ap (λ (v : Table). v.step) c.self.view_is ∙ c.requires.step in
    both_eight c.requires.k _ ((c.self.invariant.in_step c.requires.o c.requires.grid c.requires.k step).sound i d (subst (λ (z : List Cell). slice_get z i ≡ Some d) c.deref_mut.ensures.value got))

pub join_column-requires-clause-x : goal.join_column-requires-clause-x
join_column-requires-clause-x c = c.requires.sound.eight

pub join_column-requires-clause-eights : goal.join_column-requires-clause-eights
join_column-requires-clause-eights c = λ j f l got. (c.requires.each j f got).eight

pub invariant_of-self : goal.invariant_of-self
invariant_of-self c =
    let col = back c.args.col c.ranges.col.sfits in
    let low = back c.args.low c.ranges.low.sfits in
    let step : c.self.inside.step ≡ Some (c.requires.o, c.requires.grid, c.requires.k) = ap (λ (v : Table). v.step) c.self.view_is ∙ c.requires.step in
    let held = subst (λ (s : StepOf). IsTable s c.self.inside.slots c.self.inside.used c.self.inside.cells.items c.self.inside.rows.items) step c.self.invariant in
    let at = at_place c.self.inside.slots c.args.col c.args.low _ _ c.in-Some.at col low c.in-Some.ensures.some.1 in
    let joins = subst (λ (p : ℕ). JoinsColumn p (length c.args.rows.now) c.args.x.now.n c.args.rows.now c.self.inside.cells.items c.join_column.new.cells) at
    (subst (λ (z : List Cell). JoinsColumn c.in-Some.at (length c.args.rows.now) c.args.x.now.n c.args.rows.now z c.join_column.new.cells) c.deref_mut.ensures.value c.join_column.ensures) in
    subst (λ (z : List Cell). IsTable c.self.inside.step c.self.inside.slots c.self.inside.used z c.self.inside.rows.items) (sym (with_items_is c.self.inside.cells c.join_column.new.cells (c.join_column.ensures.count ∙ c.deref_mut.ensures.len)))
    (subst (λ (s : StepOf). IsTable s c.self.inside.slots c.self.inside.used c.join_column.new.cells c.self.inside.rows.items) (sym step)
    (known_table c.requires.o c.requires.grid c.requires.k c.self.inside.slots c.self.inside.used c.self.inside.cells.items c.self.inside.rows.items held c.args.col c.args.low c.args.x.now.n c.args.rows.now c.requires.cells
    (at_cell c.self.inside.slots c.args.col c.args.low _ _ col low c.in-Some.ensures.some.0) c.join_column.new.cells joins c.requires.sound c.requires.each))

pub returns-in-Some : goal.returns-in-Some
returns-in-Some c =
    let col = back c.args.col c.ranges.col.sfits in
    let low = back c.args.low c.ranges.low.sfits in
    let step : c.self.inside.step ≡ Some (c.requires.o, c.requires.grid, c.requires.k) = ap (λ (v : Table). v.step) c.self.view_is ∙ c.requires.step in
    let held = subst (λ (s : StepOf). IsTable s c.self.inside.slots c.self.inside.used c.self.inside.cells.items c.self.inside.rows.items) step c.self.invariant in
    let at = at_place c.self.inside.slots c.args.col c.args.low _ _ c.in-Some.at col low c.in-Some.ensures.some.1 in
    let joins = subst (λ (p : ℕ). JoinsColumn p (length c.args.rows.now) c.args.x.now.n c.args.rows.now c.self.inside.cells.items c.join_column.new.cells) at
    (subst (λ (z : List Cell). JoinsColumn c.in-Some.at (length c.args.rows.now) c.args.x.now.n c.args.rows.now z c.join_column.new.cells) c.deref_mut.ensures.value c.join_column.ensures) in
    subst (λ (v : Table). JoinsRows v (table_of (length (with_items c.self.inside.cells c.join_column.new.cells).items) c.self.inside.step (with_items c.self.inside.cells c.join_column.new.cells).items) c.args.col c.args.low c.args.x.now.n c.args.rows.now) c.self.view_is
    (subst (λ (z : List Cell). JoinsRows (table_of (length c.self.inside.cells.items) c.self.inside.step c.self.inside.cells.items) (table_of (length z) c.self.inside.step z) c.args.col c.args.low c.args.x.now.n c.args.rows.now) (sym (with_items_is c.self.inside.cells c.join_column.new.cells (c.join_column.ensures.count ∙ c.deref_mut.ensures.len)))
    (subst (λ (s : StepOf). JoinsRows (table_of (length c.self.inside.cells.items) s c.self.inside.cells.items) (table_of (length c.join_column.new.cells) s c.join_column.new.cells) c.args.col c.args.low c.args.x.now.n c.args.rows.now) (sym step)
    (known_joins c.requires.o c.requires.grid c.requires.k c.self.inside.slots c.self.inside.used c.self.inside.cells.items c.self.inside.rows.items held c.args.col c.args.low c.args.x.now.n c.args.rows.now c.requires.cells
    (at_cell c.self.inside.slots c.args.col c.args.low _ _ col low c.in-Some.ensures.some.0) c.join_column.new.cells joins (length c.self.inside.cells.items) (length c.join_column.new.cells) joins.count)))

pub returns-in_default : goal.returns-in_default
returns-in_default c =
    let col = back c.args.col c.ranges.col.sfits in
    let low = back c.args.low c.ranges.low.sfits in
    let step : c.self.inside.step ≡ Some (c.requires.o, c.requires.grid, c.requires.k) = ap (λ (v : Table). v.step) c.self.view_is ∙ c.requires.step in
    let held = subst (λ (s : StepOf). IsTable s c.self.inside.slots c.self.inside.used c.self.inside.cells.items c.self.inside.rows.items) step c.self.invariant in
    let none = known_none c.requires.o c.requires.grid c.requires.k c.self.inside.slots c.self.inside.used c.self.inside.cells.items c.self.inside.rows.items held c.args.col c.args.low c.args.x.now.n c.args.rows.now c.requires.cells
    (λ has. c.in_default.ensures.none (at_cell c.self.inside.slots _ _ c.args.col c.args.low (sym col) (sym low) has)) in
    subst (λ (v : Table). JoinsRows v v c.args.col c.args.low c.args.x.now.n c.args.rows.now) c.self.view_is
    (subst (λ (s : StepOf). JoinsRows (table_of (length c.self.inside.cells.items) s c.self.inside.cells.items) (table_of (length c.self.inside.cells.items) s c.self.inside.cells.items) c.args.col c.args.low c.args.x.now.n c.args.rows.now) (sym step)
    (same_joins c.requires.o c.requires.grid c.requires.k c.self.inside.slots c.self.inside.used c.self.inside.cells.items c.self.inside.rows.items held c.args.col c.args.low c.args.x.now.n c.args.rows.now c.requires.cells (length c.self.inside.cells.items) none))
