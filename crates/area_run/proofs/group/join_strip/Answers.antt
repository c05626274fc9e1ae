use Rattle.std.proofs.Common.{◌≡◌, ◌∙◌, ◌+◌, ◌-◌, ◌≤◌, ◌<◌, ◌+ℤ◌, ℕ, ℤ, pos, List, Option, Some, None, arith, ap, refl, sym, subst, length, take, drop, to_z, of_z, w64}
use Rattle.spot_terms.specs.BaseSets.{greatest_place, least_place}
use Rattle.spot_terms.specs.Courses.{slots_met}
use Rattle.spot_terms.specs.Grid.{slot}
use Rattle.round_out.specs.declared.frames.FrameNumbers.{FrameNumbers}
use Rattle.merge_sets.specs.Cells.{IsPartNumbers}
use Rattle.merge_sets.specs.Tables.{CanJoin, JoinsRows, Table}
use Rattle.area_laws.specs.Groups.{HasGroup}
use Rattle.area_laws.proofs.Groups.{group_away, group_none, group_part}
use Rattle.area_run.specs.Strips.{first_row}
use Rattle.area_run.proofs.ColumnCalls.{below, can_join, col_fits, col_is, col_near, count_plain, low_is}
use Rattle.area_run.proofs.JoinCalls.{read, row_plain, width_read}
use Rattle.area_run.proofs.SlotCalls.{addable}
use Rattle.area_run.proofs.Strips.{window_strip}
use Rattle.area_run.proofs.group.join_strip.Goals as goal
use Rattle.area_run.proofs.group.join_strip.Goals.{in-Some, in_default}

pub loop-i-init : goal.loop-i-init
loop-i-init c = record {
  step = c.requires.begun;
  most = refl;
  group = λ ys h. group_none c.args.plan.now.grid.w c.args.plan.now.grid.g c.args.plan.now.k c.args.x.now ys (slot c.args.plan.now.grid.w (least_place c.args.x.now)) c.args.table.now;
}

pub overflow_add-col : goal.overflow_add-col
overflow_add-col c = col_fits c.args.plan.now c.args.b.now c.requires.plan c.requires.reach c.args.x.now c.requires.child c.slots_of-first.ensures.convex c.slots_of-first.result.0 c.slots_of-first.result.1 c.slots_of-first.ensures.first c.slots_of-first.ensures.count c.from.result c.loop-i.i (below c.args.plan.now c.args.b.now c.requires.plan c.requires.reach c.args.x.now c.requires.child c.slots_of-first.ensures.convex c.slots_of-first.result.0 c.slots_of-first.result.1 c.slots_of-first.ensures.first c.slots_of-first.ensures.count c.loop-i.i c.loop-i-test.true) c.from.ensures

pub slot_numbers-requires-clause-slow : goal.slot_numbers-requires-clause-slow
slot_numbers-requires-clause-slow c = (addable c.args.plan.now.grid.w c.args.b.now.xlo c.args.b.now.xhi c.args.plan.now.e.v c.args.x.now c.requires.plan.grid.w c.requires.reach.xlo c.requires.reach.xhi c.requires.reach.x c.requires.plan.bounds.v c.requires.child c.slots_of-first.ensures.convex).slow

pub slot_numbers-requires-clause-low : goal.slot_numbers-requires-clause-low
slot_numbers-requires-clause-low c = (col_near c.args.plan.now c.args.b.now c.requires.plan c.requires.reach c.args.x.now c.requires.child c.slots_of-first.ensures.convex c.slots_of-first.result.0 c.slots_of-first.result.1 c.slots_of-first.ensures.first c.slots_of-first.ensures.count c.from.result c.loop-i.i c.loop-i-test.true (below c.args.plan.now c.args.b.now c.requires.plan c.requires.reach c.args.x.now c.requires.child c.slots_of-first.ensures.convex c.slots_of-first.result.0 c.slots_of-first.result.1 c.slots_of-first.ensures.first c.slots_of-first.ensures.count c.loop-i.i c.loop-i-test.true) c.from.ensures).low

pub slot_numbers-requires-clause-high : goal.slot_numbers-requires-clause-high
slot_numbers-requires-clause-high c = (col_near c.args.plan.now c.args.b.now c.requires.plan c.requires.reach c.args.x.now c.requires.child c.slots_of-first.ensures.convex c.slots_of-first.result.0 c.slots_of-first.result.1 c.slots_of-first.ensures.first c.slots_of-first.ensures.count c.from.result c.loop-i.i c.loop-i-test.true (below c.args.plan.now c.args.b.now c.requires.plan c.requires.reach c.args.x.now c.requires.child c.slots_of-first.ensures.convex c.slots_of-first.result.0 c.slots_of-first.result.1 c.slots_of-first.ensures.first c.slots_of-first.ensures.count c.loop-i.i c.loop-i-test.true) c.from.ensures).high

pub join_rows-requires : goal.join_rows-requires
join_rows-requires c =
    let l = below c.args.plan.now c.args.b.now c.requires.plan c.requires.reach c.args.x.now c.requires.child c.slots_of-first.ensures.convex c.slots_of-first.result.0 c.slots_of-first.result.1 c.slots_of-first.ensures.first c.slots_of-first.ensures.count c.loop-i.i c.loop-i-test.true in
    let order = c.requires.fits.order in
    let within = c.requires.fits.within in
    let row = row_plain c.args.plan.now c.args.b.now c.requires.plan c.requires.reach c.row.result c.row.ensures in
    let low : (read (read c.row.result +ℤ to_z w64 c.args.strip.now.from)) ≡ first_row c.args.plan.now c.args.b.now +ℤ pos c.args.strip.now.from = low_is c.args.plan.now c.args.b.now c.row.result c.args.strip.now.from c.requires.plan c.requires.reach row (omega (arith, order, within)) in
    let col : (read (read c.slots_of-first.result.0 +ℤ read c.from.result)) ≡ slot c.args.plan.now.grid.w (least_place c.args.x.now) +ℤ pos c.loop-i.i = col_is c.args.plan.now c.args.b.now c.requires.plan c.requires.reach c.args.x.now c.requires.child c.slots_of-first.ensures.convex c.slots_of-first.result.0 c.slots_of-first.result.1 c.slots_of-first.ensures.first c.slots_of-first.ensures.count c.from.result c.loop-i.i l c.from.ensures in
    subst (λ (z : List (Option FrameNumbers)). CanJoin c.loop-i.table (read (read c.slots_of-first.result.0 +ℤ read c.from.result)) (read (read c.row.result +ℤ to_z w64 c.args.strip.now.from)) c.in-Some.numbers.n (take (c.args.strip.now.to - c.args.strip.now.from) (drop c.args.strip.now.from z))) (sym c.deref.ensures.value)
    (can_join c.args.plan.now c.args.b.now c.requires.plan c.requires.reach c.args.x.now c.requires.child c.slots_of-first.ensures.convex c.slots_of-first.result.0 c.slots_of-first.result.1 c.slots_of-first.ensures.first c.slots_of-first.ensures.count c.loop-i.table (read (read c.slots_of-first.result.0 +ℤ read c.from.result)) (read (read c.row.result +ℤ to_z w64 c.args.strip.now.from)) c.loop-i.i c.in-Some.numbers.n c.args.strip.now.rows.items c.args.strip.now.from c.args.strip.now.to c.requires.fits c.loop-i.invariant.step col c.loop-i-test.true low c.in-Some.ensures.sound)

pub loop-i-preserved : goal.loop-i-preserved
loop-i-preserved c =
    let l = below c.args.plan.now c.args.b.now c.requires.plan c.requires.reach c.args.x.now c.requires.child c.slots_of-first.ensures.convex c.slots_of-first.result.0 c.slots_of-first.result.1 c.slots_of-first.ensures.first c.slots_of-first.ensures.count c.loop-i.i c.loop-i-test.true in
    let order = c.requires.fits.order in
    let within = c.requires.fits.within in
    let row = row_plain c.args.plan.now c.args.b.now c.requires.plan c.requires.reach c.row.result c.row.ensures in
    let low : (read (read c.row.result +ℤ to_z w64 c.args.strip.now.from)) ≡ first_row c.args.plan.now c.args.b.now +ℤ pos c.args.strip.now.from = low_is c.args.plan.now c.args.b.now c.row.result c.args.strip.now.from c.requires.plan c.requires.reach row (omega (arith, order, within)) in
    let col : (read (read c.slots_of-first.result.0 +ℤ read c.from.result)) ≡ slot c.args.plan.now.grid.w (least_place c.args.x.now) +ℤ pos c.loop-i.i = col_is c.args.plan.now c.args.b.now c.requires.plan c.requires.reach c.args.x.now c.requires.child c.slots_of-first.ensures.convex c.slots_of-first.result.0 c.slots_of-first.result.1 c.slots_of-first.ensures.first c.slots_of-first.ensures.count c.from.result c.loop-i.i l c.from.ensures in
    elim c.match-slot_numbers.branch [
      | in-Some w ↦ record {
        step = ap (λ (t : Table). t.step) w.table-is ∙ w.join_rows.ensures.step ∙ c.loop-i.invariant.step;
        most = ap (λ (t : Table). t.most) w.table-is ∙ w.join_rows.ensures.most ∙ c.loop-i.invariant.most;
        group = λ ys h. subst (λ (t : Table). HasGroup c.args.plan.now.grid.w c.args.plan.now.grid.g c.args.plan.now.k c.args.x.now ys (slot c.args.plan.now.grid.w (least_place c.args.x.now)) (c.loop-i.i + 1) c.args.table.now t) (sym w.table-is)
            (group_part c.args.plan.now.grid.w c.args.plan.now.grid.g c.args.plan.now.k c.args.x.now ys (slot c.args.plan.now.grid.w (least_place c.args.x.now)) c.args.table.now c.loop-i.i c.loop-i.table (c.loop-i.invariant.group ys h)
            (first_row c.args.plan.now c.args.b.now +ℤ pos c.args.strip.now.from) (take (c.args.strip.now.to - c.args.strip.now.from) (drop c.args.strip.now.from c.args.strip.now.rows.items))
            (window_strip c.args.plan.now c.args.b.now c.args.strip.now.rows.items c.args.strip.now.from c.args.strip.now.to c.requires.fits ys h) w.join_rows.new.self w.in-Some.numbers
            (subst (λ (z : ℤ). IsPartNumbers z (slot c.args.plan.now.grid.w (least_place c.args.x.now) +ℤ pos c.loop-i.i) c.args.plan.now.k c.args.x.now (Some w.in-Some.numbers)) (width_read c.args.plan.now.grid.w c.requires.plan.grid.w)
            (subst (λ (z : ℤ). IsPartNumbers (read c.args.plan.now.grid.w) z c.args.plan.now.k c.args.x.now (Some w.in-Some.numbers)) col w.in-Some.ensures.part))
            (subst (λ (z : ℤ). JoinsRows c.loop-i.table w.join_rows.new.self z (first_row c.args.plan.now c.args.b.now +ℤ pos c.args.strip.now.from) w.in-Some.numbers.n (take (c.args.strip.now.to - c.args.strip.now.from) (drop c.args.strip.now.from c.args.strip.now.rows.items))) col
            (subst (λ (z : ℤ). JoinsRows c.loop-i.table w.join_rows.new.self (read (read c.slots_of-first.result.0 +ℤ read c.from.result)) z w.in-Some.numbers.n (take (c.args.strip.now.to - c.args.strip.now.from) (drop c.args.strip.now.from c.args.strip.now.rows.items))) low
            (subst (λ (z : List (Option FrameNumbers)). JoinsRows c.loop-i.table w.join_rows.new.self (read (read c.slots_of-first.result.0 +ℤ read c.from.result)) (read (read c.row.result +ℤ to_z w64 c.args.strip.now.from)) w.in-Some.numbers.n (take (c.args.strip.now.to - c.args.strip.now.from) (drop c.args.strip.now.from z))) c.deref.ensures.value w.join_rows.ensures))));
      }
      | in_default w ↦ record {
        step = ap (λ (t : Table). t.step) w.table-is ∙ c.loop-i.invariant.step;
        most = ap (λ (t : Table). t.most) w.table-is ∙ c.loop-i.invariant.most;
        group = λ ys h. subst (λ (t : Table). HasGroup c.args.plan.now.grid.w c.args.plan.now.grid.g c.args.plan.now.k c.args.x.now ys (slot c.args.plan.now.grid.w (least_place c.args.x.now)) (c.loop-i.i + 1) c.args.table.now t) (sym w.table-is)
            (group_away c.args.plan.now.grid.w c.args.plan.now.grid.g c.args.plan.now.k c.args.x.now ys (slot c.args.plan.now.grid.w (least_place c.args.x.now)) c.args.table.now c.loop-i.i c.loop-i.table (c.loop-i.invariant.group ys h)
            (first_row c.args.plan.now c.args.b.now +ℤ pos c.args.strip.now.from) (take (c.args.strip.now.to - c.args.strip.now.from) (drop c.args.strip.now.from c.args.strip.now.rows.items))
            (window_strip c.args.plan.now c.args.b.now c.args.strip.now.rows.items c.args.strip.now.from c.args.strip.now.to c.requires.fits ys h)
            (subst (λ (z : ℤ). IsPartNumbers z (slot c.args.plan.now.grid.w (least_place c.args.x.now) +ℤ pos c.loop-i.i) c.args.plan.now.k c.args.x.now None) (width_read c.args.plan.now.grid.w c.requires.plan.grid.w)
            (subst (λ (z : ℤ). IsPartNumbers (read c.args.plan.now.grid.w) z c.args.plan.now.k c.args.x.now None) col w.in_default.ensures.part)));
      }
    ]

pub returns-clause-group : goal.returns-clause-group
returns-clause-group c = λ ys h.
    let all : c.loop-i.i ≡ c.slots_of-first.result.1 = omega (arith, c.loop-i-test.false, c.loop-i.auto.i-end) in
    subst (λ (n : ℕ). HasGroup c.args.plan.now.grid.w c.args.plan.now.grid.g c.args.plan.now.k c.args.x.now ys (slot c.args.plan.now.grid.w (least_place c.args.x.now)) n c.args.table.now c.loop-i.table) (all ∙ count_plain c.args.plan.now c.args.b.now c.requires.plan c.requires.reach c.args.x.now c.requires.child c.slots_of-first.ensures.convex c.slots_of-first.result.0 c.slots_of-first.result.1 c.slots_of-first.ensures.first c.slots_of-first.ensures.count) (c.loop-i.invariant.group ys h)

pub returns-clause-step : goal.returns-clause-step
returns-clause-step c = c.loop-i.invariant.step ∙ sym c.requires.begun
