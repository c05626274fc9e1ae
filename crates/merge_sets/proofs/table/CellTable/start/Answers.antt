use Rattle.std.proofs.Common.{◌≡◌, ◌∙◌, ◌≤◌, ℕ, ℤ, List, None, Some, ap, arith, length, refl, subst, sym}
use Rattle.std.proofs.lemmas.List.{with_items_is}
use Rattle.spot_terms.specs.Courses.{cells_of}
use Rattle.base_sets.specs.Values.{rect_of_box}
use Rattle.merge_sets.specs.Cells.{IsCleared, IsTable}
use Rattle.merge_sets.specs.Tables.{Holds, Table}
use Rattle.merge_sets.specs.declared.cells.Cell.{Cell}
use Rattle.merge_sets.proofs.Steps.{begun_empty, begun_table, table_of}
use Rattle.merge_sets.proofs.table.CellTable.start.Goals as goal

pub invariant_of-self : goal.invariant_of-self
invariant_of-self c =
    subst (λ (z : List Cell). IsTable (Some (c.args.o.now, c.args.grid.now, c.args.k)) c.of_box-self-inside.result c.cells.result z c.self.inside.rows.items) (sym (with_items_is c.self.inside.cells c.clear.new.cells (c.clear.ensures.count ∙ c.deref_mut.ensures.len)))
    (begun_table c.self.inside.step c.self.inside.slots c.of_box-self-inside.result c.self.inside.used c.cells.result c.self.inside.cells.items c.clear.new.cells c.self.inside.rows.items c.args.o.now c.args.grid.now c.args.k
    c.self.invariant (subst (λ (z : List Cell). IsCleared c.self.inside.used z c.clear.new.cells) c.deref_mut.ensures.value c.clear.ensures) c.requires.reach c.requires.grid c.requires.ticks c.of_box-self-inside.ensures c.cells.ensures.value
    (subst (λ (v : Table). cells_of c.args.grid.now.w c.args.grid.now.g (rect_of_box c.args.o.now) ≤ v.most) (sym c.self.view_is) c.requires.room))

pub returns-clause-most : goal.returns-clause-most
returns-clause-most c =
    ap (λ (z : List Cell). length z) (with_items_is c.self.inside.cells c.clear.new.cells (c.clear.ensures.count ∙ c.deref_mut.ensures.len)) ∙ c.clear.ensures.count ∙ ap (λ (z : List Cell). length z) c.deref_mut.ensures.value ∙ ap (λ (v : Table). v.most) c.self.view_is

pub returns-clause-empty : goal.returns-clause-empty
returns-clause-empty c = λ col row.
    subst (λ (z : List Cell). Holds (table_of 0 (Some (c.args.o.now, c.args.grid.now, c.args.k)) z) col row None) (sym (with_items_is c.self.inside.cells c.clear.new.cells (c.clear.ensures.count ∙ c.deref_mut.ensures.len)))
    (begun_empty c.self.inside.step c.self.inside.slots c.self.inside.used 0 c.self.inside.cells.items c.clear.new.cells c.self.inside.rows.items c.args.o.now c.args.grid.now c.args.k
    c.self.invariant (subst (λ (z : List Cell). IsCleared c.self.inside.used z c.clear.new.cells) c.deref_mut.ensures.value c.clear.ensures)
    (subst (λ (v : Table). cells_of c.args.grid.now.w c.args.grid.now.g (rect_of_box c.args.o.now) ≤ v.most) (sym c.self.view_is) c.requires.room) col row)
