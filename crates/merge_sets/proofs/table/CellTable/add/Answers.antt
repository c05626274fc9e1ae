use Rattle.std.proofs.Common.{◌≡◌, ◌∙◌, ◌≤◌, ℕ, List, Some, map, ap, arith, length, refl, subst, sym}
use Rattle.std.specs.Prelude.{Option, slice_get}
use Rattle.std.specs.Vec.{with_items}
use Rattle.std.proofs.lemmas.List.{with_items_is}
use Rattle.spot_terms.specs.Courses.{cells_of}
use Rattle.base_sets.specs.Values.{rect_of_box}
use Rattle.round_out.specs.declared.frames.FrameNumbers.{FrameNumbers}
use Rattle.merge_sets.specs.Adding.{AddsTo}
use Rattle.merge_sets.specs.Cells.{IsTable, numbers_of}
use Rattle.merge_sets.specs.Tables.{Adds, CanAdd, Table}
use Rattle.merge_sets.specs.declared.cells.Cell.{Cell}
use Rattle.merge_sets.proofs.Additions.{added_table, adds, can_add}
use Rattle.merge_sets.proofs.Steps.{StepOf, table_of}
use Rattle.merge_sets.proofs.table.CellTable.add.Goals as goal

pub add_to-requires-clause-reach : goal.add_to-requires-clause-reach
add_to-requires-clause-reach c = (c.self.invariant.in_step c.in-Some.o c.in-Some.grid c.in-Some.k c.in-Some.is).box

pub add_to-requires-clause-grid : goal.add_to-requires-clause-grid
add_to-requires-clause-grid c = (c.self.invariant.in_step c.in-Some.o c.in-Some.grid c.in-Some.k c.in-Some.is).widths

pub add_to-requires-clause-ticks : goal.add_to-requires-clause-ticks
add_to-requires-clause-ticks c = (c.self.invariant.in_step c.in-Some.o c.in-Some.grid c.in-Some.k c.in-Some.is).ticks

pub add_to-requires-clause-slots : goal.add_to-requires-clause-slots
add_to-requires-clause-slots c = (c.self.invariant.in_step c.in-Some.o c.in-Some.grid c.in-Some.k c.in-Some.is).slots_are

pub add_to-requires-clause-room : goal.add_to-requires-clause-room
add_to-requires-clause-room c =
    subst (λ (z : List Cell). cells_of c.in-Some.grid.w c.in-Some.grid.g (rect_of_box c.in-Some.o) ≤ length z) (sym c.deref_mut.ensures.value)
    (subst (λ (n : ℕ). n ≤ length c.self.inside.cells.items) (c.self.invariant.in_step c.in-Some.o c.in-Some.grid c.in-Some.k c.in-Some.is).used_is c.self.invariant.few)

pub add_to-requires-clause-as_many : goal.add_to-requires-clause-as_many
add_to-requires-clause-as_many c = ap (λ (z : List (Option FrameNumbers)). length z) c.deref_mut-in-Some.ensures.value ∙ c.self.invariant.as_many ∙ ap (λ (z : List Cell). length z) (sym c.deref_mut.ensures.value)

pub add_to-requires-clause-sound : goal.add_to-requires-clause-sound
add_to-requires-clause-sound c = λ i d got. (c.self.invariant.in_step c.in-Some.o c.in-Some.grid c.in-Some.k c.in-Some.is).sound i d (subst (λ (z : List Cell). slice_get z i ≡ Some d) c.deref_mut.ensures.value got)

pub add_to-requires-clause-x : goal.add_to-requires-clause-x
add_to-requires-clause-x c = (can_add c.self.inside.step (length c.self.inside.cells.items) (map numbers_of c.self.inside.cells.items) c.args.x.now c.args.y.now c.in-Some.o c.in-Some.grid c.in-Some.k c.in-Some.is (subst (λ (v : Table). CanAdd v c.args.x.now c.args.y.now) (sym c.self.view_is) c.requires)).0

pub add_to-requires-clause-y : goal.add_to-requires-clause-y
add_to-requires-clause-y c = (can_add c.self.inside.step (length c.self.inside.cells.items) (map numbers_of c.self.inside.cells.items) c.args.x.now c.args.y.now c.in-Some.o c.in-Some.grid c.in-Some.k c.in-Some.is (subst (λ (v : Table). CanAdd v c.args.x.now c.args.y.now) (sym c.self.view_is) c.requires)).1

pub invariant_of-self : goal.invariant_of-self
invariant_of-self c =
    let held : IsTable (Some (c.in-Some.o, c.in-Some.grid, c.in-Some.k)) c.self.inside.slots c.self.inside.used c.self.inside.cells.items c.self.inside.rows.items =
    subst (λ (s : StepOf). IsTable s c.self.inside.slots c.self.inside.used c.self.inside.cells.items c.self.inside.rows.items) c.in-Some.is c.self.invariant in
    let added : AddsTo c.in-Some.o c.in-Some.grid c.in-Some.k c.args.x.now c.args.y.now c.self.inside.cells.items c.add_to.new.cells =
    subst (λ (z : List Cell). AddsTo c.in-Some.o c.in-Some.grid c.in-Some.k c.args.x.now c.args.y.now z c.add_to.new.cells) c.deref_mut.ensures.value c.add_to.ensures.cells in
    subst (λ (z : List Cell). IsTable c.self.inside.step c.self.inside.slots c.self.inside.used z (with_items c.self.inside.rows c.add_to.new.rows).items) (sym (with_items_is c.self.inside.cells c.add_to.new.cells (c.add_to.ensures.cells.count ∙ c.deref_mut.ensures.len)))
    (subst (λ (z : List (Option FrameNumbers)). IsTable c.self.inside.step c.self.inside.slots c.self.inside.used c.add_to.new.cells z) (sym (with_items_is c.self.inside.rows c.add_to.new.rows (c.add_to.ensures.rows ∙ c.deref_mut-in-Some.ensures.len)))
    (subst (λ (s : StepOf). IsTable s c.self.inside.slots c.self.inside.used c.add_to.new.cells c.add_to.new.rows) (sym c.in-Some.is)
    (added_table c.in-Some.o c.in-Some.grid c.in-Some.k c.self.inside.slots c.self.inside.used c.self.inside.cells.items c.add_to.new.cells c.self.inside.rows.items c.add_to.new.rows held c.args.x.now c.args.y.now added
    (c.add_to.ensures.rows ∙ ap (λ (z : List (Option FrameNumbers)). length z) c.deref_mut-in-Some.ensures.value))))

pub returns-in-Some : goal.returns-in-Some
returns-in-Some c =
    let held : IsTable (Some (c.in-Some.o, c.in-Some.grid, c.in-Some.k)) c.self.inside.slots c.self.inside.used c.self.inside.cells.items c.self.inside.rows.items =
    subst (λ (s : StepOf). IsTable s c.self.inside.slots c.self.inside.used c.self.inside.cells.items c.self.inside.rows.items) c.in-Some.is c.self.invariant in
    let added : AddsTo c.in-Some.o c.in-Some.grid c.in-Some.k c.args.x.now c.args.y.now c.self.inside.cells.items c.add_to.new.cells =
    subst (λ (z : List Cell). AddsTo c.in-Some.o c.in-Some.grid c.in-Some.k c.args.x.now c.args.y.now z c.add_to.new.cells) c.deref_mut.ensures.value c.add_to.ensures.cells in
    let (may_x, may_y) = can_add c.self.inside.step (length c.self.inside.cells.items) (map numbers_of c.self.inside.cells.items) c.args.x.now c.args.y.now c.in-Some.o c.in-Some.grid c.in-Some.k c.in-Some.is (subst (λ (v : Table). CanAdd v c.args.x.now c.args.y.now) (sym c.self.view_is) c.requires) in
    let plain : Adds (table_of (length c.self.inside.cells.items) (Some (c.in-Some.o, c.in-Some.grid, c.in-Some.k)) c.self.inside.cells.items) (table_of (length c.add_to.new.cells) (Some (c.in-Some.o, c.in-Some.grid, c.in-Some.k)) c.add_to.new.cells) c.args.x.now c.args.y.now =
    adds c.in-Some.o c.in-Some.grid c.in-Some.k c.self.inside.slots c.self.inside.used c.self.inside.cells.items c.add_to.new.cells c.self.inside.rows.items c.add_to.new.rows held c.args.x.now c.args.y.now added may_x may_y
    (length c.self.inside.cells.items) (length c.add_to.new.cells) added.count in
    subst (λ (v : Table). Adds v (table_of (length (with_items c.self.inside.cells c.add_to.new.cells).items) c.self.inside.step (with_items c.self.inside.cells c.add_to.new.cells).items) c.args.x.now c.args.y.now) c.self.view_is
    (subst (λ (z : List Cell). Adds (table_of (length c.self.inside.cells.items) c.self.inside.step c.self.inside.cells.items) (table_of (length z) c.self.inside.step z) c.args.x.now c.args.y.now) (sym (with_items_is c.self.inside.cells c.add_to.new.cells (c.add_to.ensures.cells.count ∙ c.deref_mut.ensures.len)))
    (subst (λ (s : StepOf). Adds (table_of (length c.self.inside.cells.items) s c.self.inside.cells.items) (table_of (length c.add_to.new.cells) s c.add_to.new.cells) c.args.x.now c.args.y.now) (sym c.in-Some.is) plain))

pub returns-in_default : goal.returns-in_default
returns-in_default c = go (subst (λ (v : Table). CanAdd v c.args.x.now c.args.y.now) (sym c.self.view_is) c.requires)
  where
    go : CanAdd (table_of (length c.self.inside.cells.items) c.self.inside.step c.self.inside.cells.items) c.args.x.now c.args.y.now → Adds c.args.self.now c.args.self.now c.args.x.now c.args.y.now
    go (o, grid, k, is, may_x, may_y) = absurd (c.in_default.not-Some (o, grid, k) is)
