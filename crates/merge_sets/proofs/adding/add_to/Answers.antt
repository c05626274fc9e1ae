use Rattle.std.proofs.Common.{◌≡◌, ◌≤◌, ℕ, arith, sym, subst, length}
use Rattle.spot_terms.specs.Courses.{cells_of}
use Rattle.base_sets.specs.Values.{rect_of_box}
use Rattle.merge_sets.proofs.AddCalls.{added, apart_asked, count_small, few_asked, has_asked, last_asked, left_asked, low_asked, near_columns, near_rows, room_asked, rows_sound}
use Rattle.merge_sets.proofs.Steps.{near_slots}
use Rattle.merge_sets.proofs.adding.add_to.Goals as goal

pub place-at-requires-clause-near : goal.place-at-requires-clause-near
place-at-requires-clause-near c = near_slots c.args.o.now c.args.grid.now c.args.slots.now c.requires.reach c.requires.grid c.requires.slots

pub place-at-requires-clause-cell : goal.place-at-requires-clause-cell
place-at-requires-clause-cell c = has_asked c.args.o.now c.args.grid.now c.args.slots.now c.args.x.now c.args.y.now c.requires.reach c.requires.grid c.requires.slots c.slots_of-left.ensures.convex c.slots_of-low.ensures.convex c.requires.x c.requires.y c.slots_of-left.result.0 c.slots_of-low.result.0 c.slots_of-left.result.1 c.slots_of-low.result.1 c.slots_of-left.ensures.first c.slots_of-left.ensures.count c.slots_of-low.ensures.first c.slots_of-low.ensures.count

pub put_rows-requires-clause-room : goal.put_rows-requires-clause-room
put_rows-requires-clause-room c = few_asked c.args.o.now c.args.grid.now c.args.slots.now c.args.x.now c.args.y.now c.requires.reach c.requires.grid c.requires.slots c.slots_of-left.ensures.convex c.slots_of-low.ensures.convex c.requires.x c.requires.y c.slots_of-left.result.0 c.slots_of-low.result.0 c.slots_of-left.result.1 c.slots_of-low.result.1 c.slots_of-left.ensures.first c.slots_of-left.ensures.count c.slots_of-low.ensures.first c.slots_of-low.ensures.count (length c.args.rows.now) (subst (λ (z : ℕ). cells_of c.args.grid.now.w c.args.grid.now.g (rect_of_box c.args.o.now) ≤ z) (sym c.requires.as_many) c.requires.room)

pub put_rows-requires-clause-first : goal.put_rows-requires-clause-first
put_rows-requires-clause-first c = low_asked c.args.o.now c.args.grid.now c.args.slots.now c.args.x.now c.args.y.now c.requires.reach c.requires.grid c.requires.slots c.slots_of-left.ensures.convex c.slots_of-low.ensures.convex c.requires.x c.requires.y c.slots_of-left.result.0 c.slots_of-low.result.0 c.slots_of-left.result.1 c.slots_of-low.result.1 c.slots_of-left.ensures.first c.slots_of-left.ensures.count c.slots_of-low.ensures.first c.slots_of-low.ensures.count

pub put_rows-requires-clause-near : goal.put_rows-requires-clause-near
put_rows-requires-clause-near c = near_rows c.args.o.now c.args.grid.now c.args.slots.now c.args.x.now c.args.y.now c.requires.reach c.requires.grid c.requires.slots c.slots_of-left.ensures.convex c.slots_of-low.ensures.convex c.requires.x c.requires.y c.slots_of-left.result.0 c.slots_of-low.result.0 c.slots_of-left.result.1 c.slots_of-low.result.1 c.slots_of-left.ensures.first c.slots_of-left.ensures.count c.slots_of-low.ensures.first c.slots_of-low.ensures.count

pub overflow_cast-count : goal.overflow_cast-count
overflow_cast-count c = let h = count_small c.args.o.now c.args.grid.now c.args.slots.now c.args.x.now c.args.y.now c.requires.reach c.requires.grid c.requires.slots c.slots_of-left.ensures.convex c.slots_of-low.ensures.convex c.requires.x c.requires.y c.slots_of-left.result.0 c.slots_of-low.result.0 c.slots_of-left.result.1 c.slots_of-low.result.1 c.slots_of-left.ensures.first c.slots_of-left.ensures.count c.slots_of-low.ensures.first c.slots_of-low.ensures.count in omega (arith, h)

pub join_columns-requires-clause-room : goal.join_columns-requires-clause-room
join_columns-requires-clause-room c = room_asked c.args.o.now c.args.grid.now c.args.slots.now c.args.x.now c.args.y.now c.requires.reach c.requires.grid c.requires.slots c.slots_of-left.ensures.convex c.slots_of-low.ensures.convex c.requires.x c.requires.y c.slots_of-left.result.0 c.slots_of-low.result.0 c.slots_of-left.result.1 c.slots_of-low.result.1 c.slots_of-left.ensures.first c.slots_of-left.ensures.count c.slots_of-low.ensures.first c.slots_of-low.ensures.count (length c.args.cells.now) c.requires.room

pub join_columns-requires-clause-last : goal.join_columns-requires-clause-last
join_columns-requires-clause-last c = last_asked c.args.o.now c.args.grid.now c.args.slots.now c.args.x.now c.args.y.now c.requires.reach c.requires.grid c.requires.slots c.slots_of-left.ensures.convex c.slots_of-low.ensures.convex c.requires.x c.requires.y c.slots_of-left.result.0 c.slots_of-low.result.0 c.slots_of-left.result.1 c.slots_of-low.result.1 c.slots_of-left.ensures.first c.slots_of-left.ensures.count c.slots_of-low.ensures.first c.slots_of-low.ensures.count (length c.args.cells.now) c.place-at.result c.requires.room c.place-at.ensures

pub join_columns-requires-clause-apart : goal.join_columns-requires-clause-apart
join_columns-requires-clause-apart c = apart_asked c.args.o.now c.args.grid.now c.args.slots.now c.args.x.now c.args.y.now c.requires.reach c.requires.grid c.requires.slots c.slots_of-left.ensures.convex c.slots_of-low.ensures.convex c.requires.x c.requires.y c.slots_of-left.result.0 c.slots_of-low.result.0 c.slots_of-left.result.1 c.slots_of-low.result.1 c.slots_of-left.ensures.first c.slots_of-left.ensures.count c.slots_of-low.ensures.first c.slots_of-low.ensures.count

pub join_columns-requires-clause-few : goal.join_columns-requires-clause-few
join_columns-requires-clause-few c = subst (λ (z : ℕ). c.slots_of-low.result.1 ≤ z) (sym c.put_rows.ensures.count)
    (few_asked c.args.o.now c.args.grid.now c.args.slots.now c.args.x.now c.args.y.now c.requires.reach c.requires.grid c.requires.slots c.slots_of-left.ensures.convex c.slots_of-low.ensures.convex c.requires.x c.requires.y c.slots_of-left.result.0 c.slots_of-low.result.0 c.slots_of-left.result.1 c.slots_of-low.result.1 c.slots_of-left.ensures.first c.slots_of-left.ensures.count c.slots_of-low.ensures.first c.slots_of-low.ensures.count (length c.args.rows.now) (subst (λ (z : ℕ). cells_of c.args.grid.now.w c.args.grid.now.g (rect_of_box c.args.o.now) ≤ z) (sym c.requires.as_many) c.requires.room))

pub join_columns-requires-clause-eights : goal.join_columns-requires-clause-eights
join_columns-requires-clause-eights c = rows_sound _ _ _ c.args.k c.args.y.now c.put_rows.new.rows c.put_rows.ensures.parts

pub join_columns-requires-clause-first : goal.join_columns-requires-clause-first
join_columns-requires-clause-first c = left_asked c.args.o.now c.args.grid.now c.args.slots.now c.args.x.now c.args.y.now c.requires.reach c.requires.grid c.requires.slots c.slots_of-left.ensures.convex c.slots_of-low.ensures.convex c.requires.x c.requires.y c.slots_of-left.result.0 c.slots_of-low.result.0 c.slots_of-left.result.1 c.slots_of-low.result.1 c.slots_of-left.ensures.first c.slots_of-left.ensures.count c.slots_of-low.ensures.first c.slots_of-low.ensures.count

pub join_columns-requires-clause-near : goal.join_columns-requires-clause-near
join_columns-requires-clause-near c = near_columns c.args.o.now c.args.grid.now c.args.slots.now c.args.x.now c.args.y.now c.requires.reach c.requires.grid c.requires.slots c.slots_of-left.ensures.convex c.slots_of-low.ensures.convex c.requires.x c.requires.y c.slots_of-left.result.0 c.slots_of-low.result.0 c.slots_of-left.result.1 c.slots_of-low.result.1 c.slots_of-left.ensures.first c.slots_of-left.ensures.count c.slots_of-low.ensures.first c.slots_of-low.ensures.count

pub returns-clause-cells : goal.returns-clause-cells
returns-clause-cells c = added c.args.o.now c.args.grid.now c.args.slots.now c.args.x.now c.args.y.now c.requires.reach c.requires.grid c.requires.slots c.slots_of-left.ensures.convex c.slots_of-low.ensures.convex c.requires.x c.requires.y c.slots_of-left.result.0 c.slots_of-low.result.0 c.slots_of-left.result.1 c.slots_of-low.result.1 c.slots_of-left.ensures.first c.slots_of-left.ensures.count c.slots_of-low.ensures.first c.slots_of-low.ensures.count c.args.k c.place-at.result c.put_rows.new.rows c.args.cells.now c.join_columns.new.cells c.place-at.ensures c.join_columns.ensures c.put_rows.ensures.parts
