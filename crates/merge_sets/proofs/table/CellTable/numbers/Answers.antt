use Rattle.std.proofs.Common.{◌≡◌, ◌∙◌, ◌<◌, ℕ, ℤ, List, None, Some, ap, arith, length, refl, subst, sym, to_z, of_z, w64}
use Rattle.std.specs.Prelude.{Option, option_map, slice_get}
use Rattle.std.proofs.lemmas.Option.{slice_get-get_or}
use Rattle.convex_poly.proofs.Wide.{back}
use Rattle.spot_terms.specs.CellNumbers.{Numbers}
use Rattle.merge_sets.specs.BoxSlots.{HasCell, place_in}
use Rattle.merge_sets.specs.Tables.{AreSoundIn, Holds, Table}
use Rattle.merge_sets.specs.Cells.{pair_of}
use Rattle.merge_sets.specs.declared.cells.Cell.{Cell}
use Rattle.merge_sets.specs.declared.places.BoxSlots.{BoxSlots}
use Rattle.merge_sets.proofs.KnownRows.{holds_in, holds_none, sound_in, within}
use Rattle.merge_sets.proofs.Steps.{table_of}
use Rattle.merge_sets.proofs.table.CellTable.numbers.Goals as goal

-- a cell by the numbers that the call reads
at_cell : (s : BoxSlots) (col row p q : ℤ) → p ≡ col → q ≡ row → HasCell s p q → HasCell s col row
at_cell s col row p q e f h = subst (λ (z : ℤ). HasCell s z row) e (subst (λ (z : ℤ). HasCell s p z) f h)

at_place : (s : BoxSlots) (col row p q : ℤ) (at : ℕ) → p ≡ col → q ≡ row → at ≡ place_in s p q → at ≡ place_in s col row
at_place s col row p q at e f h = h ∙ ap (λ (z : ℤ). place_in s z q) e ∙ ap (λ (z : ℤ). place_in s col z) f

pub index-requires : goal.index-requires
index-requires c =
    let col = back c.args.col c.ranges.col.sfits in
    let row = back c.args.row c.ranges.row.sfits in
    subst (λ (n : ℕ). c.in-Some.place < n) (sym c.self.inside.cells.ok.0)
    (subst (λ (p : ℕ). p < length c.self.inside.cells.items) (sym (at_place c.self.inside.slots c.args.col c.args.row _ _ c.in-Some.place col row c.in-Some.ensures.some.1))
    (within c.self.inside.step c.self.inside.slots c.self.inside.used c.self.inside.cells.items c.self.inside.rows.items c.self.invariant 0 c.args.col c.args.row (at_cell c.self.inside.slots c.args.col c.args.row _ _ col row c.in-Some.ensures.some.0)))

pub returns-in-Some-clause-exact : goal.returns-in-Some-clause-exact
returns-in-Some-clause-exact c =
    let col = back c.args.col c.ranges.col.sfits in
    let row = back c.args.row c.ranges.row.sfits in
    let has = at_cell c.self.inside.slots c.args.col c.args.row _ _ col row c.in-Some.ensures.some.0 in
    let place : c.in-Some.place ≡ place_in c.self.inside.slots c.args.col c.args.row = at_place c.self.inside.slots c.args.col c.args.row _ _ c.in-Some.place col row c.in-Some.ensures.some.1 in
    let less : place_in c.self.inside.slots c.args.col c.args.row < length c.self.inside.cells.items = within c.self.inside.step c.self.inside.slots c.self.inside.used c.self.inside.cells.items c.self.inside.rows.items c.self.invariant 0 c.args.col c.args.row has in
    let got : slice_get c.self.inside.cells.items c.in-Some.place ≡ Some c.index.result.now = slice_get-get_or c.self.inside.cells.items c.in-Some.place c.index.result.now (subst (λ (p : ℕ). p < length c.self.inside.cells.items) (sym place) less) ∙ ap (λ (z : Cell). Some z) (sym c.index.ensures) in
    subst (λ (v : Table). Holds v c.args.col c.args.row (option_map pair_of c.numbers_in.result)) c.self.view_is
    (subst (Holds (table_of (length c.self.inside.cells.items) c.self.inside.step c.self.inside.cells.items) c.args.col c.args.row) (sym c.numbers_in.ensures)
    (holds_in c.self.inside.step c.self.inside.slots c.self.inside.used c.self.inside.cells.items c.self.inside.rows.items c.self.invariant (length c.self.inside.cells.items) c.args.col c.args.row c.index.result.now has
    (subst (λ (p : ℕ). slice_get c.self.inside.cells.items p ≡ Some c.index.result.now) place got)))

pub returns-in-Some-clause-sound : goal.returns-in-Some-clause-sound
returns-in-Some-clause-sound c =
    let col = back c.args.col c.ranges.col.sfits in
    let row = back c.args.row c.ranges.row.sfits in
    let has = at_cell c.self.inside.slots c.args.col c.args.row _ _ col row c.in-Some.ensures.some.0 in
    let place : c.in-Some.place ≡ place_in c.self.inside.slots c.args.col c.args.row = at_place c.self.inside.slots c.args.col c.args.row _ _ c.in-Some.place col row c.in-Some.ensures.some.1 in
    let less : place_in c.self.inside.slots c.args.col c.args.row < length c.self.inside.cells.items = within c.self.inside.step c.self.inside.slots c.self.inside.used c.self.inside.cells.items c.self.inside.rows.items c.self.invariant 0 c.args.col c.args.row has in
    let got : slice_get c.self.inside.cells.items c.in-Some.place ≡ Some c.index.result.now = slice_get-get_or c.self.inside.cells.items c.in-Some.place c.index.result.now (subst (λ (p : ℕ). p < length c.self.inside.cells.items) (sym place) less) ∙ ap (λ (z : Cell). Some z) (sym c.index.ensures) in
    subst (λ (v : Table). AreSoundIn v c.numbers_in.result) c.self.view_is
    (sound_in c.self.inside.step c.self.inside.slots c.self.inside.used c.self.inside.cells.items c.self.inside.rows.items c.self.invariant (length c.self.inside.cells.items) c.args.col c.args.row c.index.result.now c.numbers_in.result has
    (subst (λ (p : ℕ). slice_get c.self.inside.cells.items p ≡ Some c.index.result.now) place got) c.numbers_in.ensures)

pub returns-in-None-clause-exact : goal.returns-in-None-clause-exact
returns-in-None-clause-exact c =
    let col = back c.args.col c.ranges.col.sfits in
    let row = back c.args.row c.ranges.row.sfits in
    subst (λ (v : Table). Holds v c.args.col c.args.row None) c.self.view_is
    (holds_none c.self.inside.step c.self.inside.slots c.self.inside.used c.self.inside.cells.items c.self.inside.rows.items c.self.invariant (length c.self.inside.cells.items) c.args.col c.args.row
    (λ has. c.in-None.ensures.none (at_cell c.self.inside.slots _ _ c.args.col c.args.row (sym col) (sym row) has)))
