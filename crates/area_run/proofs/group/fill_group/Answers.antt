use Rattle.std.proofs.Common.{rules, ◌≡◌, ◌<◌, ◌-◌, ◌+ℤ◌, pos, length, map, take, drop, slice_index_or, Some, None}
use Rattle.spot_terms.specs.Lists.{Includes}
use Rattle.spot_terms.proofs.ListLemmas.{includes_at, includes_map}
use Rattle.base_sets.specs.Values.{value_of}
use Rattle.area_run.specs.Plans.{course_of}
use Rattle.area_run.specs.Strips.{IsChildAlong, first_row}
use Rattle.area_run.proofs.GroupSets.{child_along, convex_child, each_alike, fills_childless, fills_group}
use Rattle.area_run.proofs.Strips.{window_strip}
use Rattle.area_run.proofs.group.fill_group.Goals as goal

pub plane_child-requires-clause-near : goal.plane_child-requires-clause-near
plane_child-requires-clause-near c =
    let some : 0 < length c.args.sets.now = search (rules, c.is_empty.ensures, c.if-is_empty.false) in
    (c.requires.sets (value_of (slice_index_or c.args.sets.now 0 c.index-sets-0.result)) (includes_map value_of c.args.sets.now (slice_index_or c.args.sets.now 0 c.index-sets-0.result) (includes_at c.args.sets.now 0 c.index-sets-0.result some))).x

pub returns-in-Some-clause-filled : goal.returns-in-Some-clause-filled
returns-in-Some-clause-filled c =
    let some : 0 < length c.args.sets.now = search (rules, c.is_empty.ensures, c.if-is_empty.false) in
    let along : IsChildAlong (course_of c.args.plan.now) c.args.b.now.xlo c.args.b.now.xhi (slice_index_or c.args.sets.now 0 c.index-sets-0.result).x (Some c.in-Some.x) =
    child_along c.args.plan.now c.args.b.now.xlo c.args.b.now.xhi (slice_index_or c.args.sets.now 0 c.index-sets-0.result).x (Some c.in-Some.x) c.requires.reach.xlo c.requires.reach.xhi c.in-Some.ensures.exact c.in-Some.ensures.holds in
    let (ys, are, strip) = c.join_children.ensures.strip in
    fills_group c.args.plan.now c.args.b.now c.requires.plan (map value_of c.args.sets.now) c.args.table.now c.join_strip.new.table c.in-Some.x ys
    (first_row c.args.plan.now c.args.b.now +ℤ pos c.join_children.new.strip.from) (take (c.join_children.new.strip.to - c.join_children.new.strip.from) (drop c.join_children.new.strip.from c.join_children.new.strip.rows.items)) c.requires.begun
    (each_alike (course_of c.args.plan.now) c.args.b.now.xlo c.args.b.now.xhi c.args.sets.now (slice_index_or c.args.sets.now 0 c.index-sets-0.result) (Some c.in-Some.x) c.requires.alike (includes_at c.args.sets.now 0 c.index-sets-0.result some) along)
    (convex_child (course_of c.args.plan.now) c.args.b.now.xlo c.args.b.now.xhi (slice_index_or c.args.sets.now 0 c.index-sets-0.result).x c.in-Some.x along) are
    (window_strip c.args.plan.now c.args.b.now c.join_children.new.strip.rows.items c.join_children.new.strip.from c.join_children.new.strip.to c.join_children.ensures.fits ys strip) (c.join_strip.ensures.group ys strip)

pub returns-in-Some-clause-step : goal.returns-in-Some-clause-step
returns-in-Some-clause-step c = c.join_strip.ensures.step

pub returns-in_default-clause-filled : goal.returns-in_default-clause-filled
returns-in_default-clause-filled c =
    let some : 0 < length c.args.sets.now = search (rules, c.is_empty.ensures, c.if-is_empty.false) in
    fills_childless c.args.plan.now c.args.b.now c.requires.plan (map value_of c.args.sets.now) c.args.table.now
    (each_alike (course_of c.args.plan.now) c.args.b.now.xlo c.args.b.now.xhi c.args.sets.now (slice_index_or c.args.sets.now 0 c.index-sets-0.result) None c.requires.alike (includes_at c.args.sets.now 0 c.index-sets-0.result some)
    (child_along c.args.plan.now c.args.b.now.xlo c.args.b.now.xhi (slice_index_or c.args.sets.now 0 c.index-sets-0.result).x None c.requires.reach.xlo c.requires.reach.xhi c.in_default.ensures.exact c.in_default.ensures.holds))
