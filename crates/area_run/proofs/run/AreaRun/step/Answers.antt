use Rattle.std.proofs.Common.{rules, ◌≡◌, ◌∙◌, ◌+◌, ◌≤◌, ◌<◌, ◌+ℤ◌, ℕ, pos, List, [], map, arith, sym, ap, subst, length, vec_capacity}
use Rattle.spot_terms.specs.BaseSets.{Rect, SetValue}
use Rattle.spot_terms.specs.Courses.{box_at, cells_of, slots_met}
use Rattle.spot_terms.specs.Grid.{slot}
use Rattle.spot_terms.specs.Lists.{Includes}
use Rattle.spot_terms.specs.StepLists.{IsNextList}
use Rattle.base_sets.specs.Values.{rect_of_box, value_of}
use Rattle.carve.specs.Rooms.{SetRoom}
use Rattle.area_laws.specs.Filling.{IsFilledFrom}
use Rattle.area_laws.specs.Leading.{LeadsOn}
use Rattle.area_run.specs.Plans.{course_of}
use Rattle.area_run.specs.Running.{CanRun, StandsAt}
use Rattle.area_run.specs.Stages.{Advances, HasRoom, IsStage}
use Rattle.area_run.specs.Strips.{row_count}
use Rattle.area_run.specs.declared.plan.Plan.{Plan}
use Rattle.area_run.proofs.Stepping.{begun, made, stands_next, over_state, can_after}
use Rattle.area_run.proofs.run.AreaRun.step.Goals as goal

pub overflow_add-step : goal.overflow_add-step
overflow_add-step g c =
    let few = c.self.invariant.0.few in
    let within = c.self.invariant.1.within in
    search (rules, few, within)

pub go_to-requires-clause-plan : goal.go_to-requires-clause-plan
go_to-requires-clause-plan g c = c.self.invariant.0.plan_is

pub go_to-requires-clause-steps : goal.go_to-requires-clause-steps
go_to-requires-clause-steps g c =
    let can = c.self.invariant.0 in
    let stands = c.self.invariant.1 in
    let left : c.self.inside.at.step < c.self.inside.steps = subst (λ v. v.at < v.steps) (sym c.self.view_is) c.requires.left in
    let few = can.few in
    let rooms = can.rooms (c.self.inside.at.step + 1) (omega (arith, left)) in
    omega (arith, left, few)

pub go_to-requires-clause-last : goal.go_to-requires-clause-last
go_to-requires-clause-last g c =
    let can = c.self.invariant.0 in
    let stands = c.self.invariant.1 in
    let left : c.self.inside.at.step < c.self.inside.steps = subst (λ v. v.at < v.steps) (sym c.self.view_is) c.requires.left in
    let few = can.few in
    let rooms = can.rooms (c.self.inside.at.step + 1) (omega (arith, left)) in
    let asked = can.asked in omega (arith, left, asked)

pub go_to-requires-clause-far : goal.go_to-requires-clause-far
go_to-requires-clause-far g c = c.self.invariant.0.reach

pub go_to-requires-clause-taken : goal.go_to-requires-clause-taken
go_to-requires-clause-taken g c =
    let can = c.self.invariant.0 in
    let stands = c.self.invariant.1 in
    let left : c.self.inside.at.step < c.self.inside.steps = subst (λ v. v.at < v.steps) (sym c.self.view_is) c.requires.left in
    let few = can.few in
    let rooms = can.rooms (c.self.inside.at.step + 1) (omega (arith, left)) in
    rooms.taken_fit

pub go_to-requires-clause-heads : goal.go_to-requires-clause-heads
go_to-requires-clause-heads g c =
    let can = c.self.invariant.0 in
    let stands = c.self.invariant.1 in
    let left : c.self.inside.at.step < c.self.inside.steps = subst (λ v. v.at < v.steps) (sym c.self.view_is) c.requires.left in
    let few = can.few in
    let rooms = can.rooms (c.self.inside.at.step + 1) (omega (arith, left)) in
    rooms.heads_fit

pub go_to-requires-clause-room : goal.go_to-requires-clause-room
go_to-requires-clause-room g c =
    let can = c.self.invariant.0 in
    let stands = c.self.invariant.1 in
    let left : c.self.inside.at.step < c.self.inside.steps = subst (λ v. v.at < v.steps) (sym c.self.view_is) c.requires.left in
    let few = can.few in
    let rooms = can.rooms (c.self.inside.at.step + 1) (omega (arith, left)) in
    rooms.runs_fit

pub go_to-requires-clause-boxes : goal.go_to-requires-clause-boxes
go_to-requires-clause-boxes g c =
    let can = c.self.invariant.0 in
    let stands = c.self.invariant.1 in
    let left : c.self.inside.at.step < c.self.inside.steps = subst (λ v. v.at < v.steps) (sym c.self.view_is) c.requires.left in
    let few = can.few in
    let rooms = can.rooms (c.self.inside.at.step + 1) (omega (arith, left)) in
    rooms.free_fit

pub go_to-requires-clause-rows : goal.go_to-requires-clause-rows
go_to-requires-clause-rows g c =
    let can = c.self.invariant.0 in
    let stands = c.self.invariant.1 in
    let left : c.self.inside.at.step < c.self.inside.steps = subst (λ v. v.at < v.steps) (sym c.self.view_is) c.requires.left in
    let few = can.few in
    let rooms = can.rooms (c.self.inside.at.step + 1) (omega (arith, left)) in
    rooms.rows_fit

pub start-requires-clause-room : goal.start-requires-clause-room
start-requires-clause-room g c =
    let can = c.self.invariant.0 in
    let stands = c.self.invariant.1 in
    let left : c.self.inside.at.step < c.self.inside.steps = subst (λ v. v.at < v.steps) (sym c.self.view_is) c.requires.left in
    let few = can.few in
    let rooms = can.rooms (c.self.inside.at.step + 1) (omega (arith, left)) in
    subst (λ (p : Plan). cells_of p.grid.w p.grid.g (rect_of_box c.go_to.new.self.b) ≤ c.self.inside.table.most) (sym c.go_to.ensures.plan)
    (subst (λ (r : Rect). cells_of c.self.inside.at.plan.grid.w c.self.inside.at.plan.grid.g r ≤ c.self.inside.table.most) (sym c.go_to.ensures.stage.exact) rooms.cells_fit)

pub fill-requires-clause-sets : goal.fill-requires-clause-sets
fill-requires-clause-sets g c = λ set j. c.self.invariant.1.ready set (subst (λ (bs : List SetValue). Includes bs set) c.list.ensures j)

pub fill-requires-clause-room : goal.fill-requires-clause-room
fill-requires-clause-room g c =
    let can = c.self.invariant.0 in
    let left : c.self.inside.at.step < c.self.inside.steps = subst (λ v. v.at < v.steps) (sym c.self.view_is) c.requires.left in
    let rooms = can.rooms (c.self.inside.at.step + 1) (omega (arith, left)) in
    subst (λ (p : Plan). row_count p c.go_to.new.self.b ≤ length c.self.inside.strip.rows.items) (sym c.go_to.ensures.plan)
    (subst (λ (r : Rect). slots_met c.self.inside.at.plan.grid.g r.ylo r.yhi ≤ length c.self.inside.strip.rows.items) (sym c.go_to.ensures.stage.exact) rooms.strip_fit)

pub put_all-requires-clause-stage : goal.put_all-requires-clause-stage
put_all-requires-clause-stage g c =
    let stage_new = over_state (λ o p s. IsStage p s (g.O.Occupied.count o s) (g.O.Occupied.hits o s) (g.O.Occupied.range o s) c.go_to.new.self.b c.go_to.new.self.free.items c.go_to.new.self.ends.items) c.self.inside.at.o.now c.go_to.new.self.o.now c.self.inside.at.plan c.go_to.new.self.plan (c.self.inside.at.step + 1) c.go_to.new.self.step c.go_to.ensures.pieces c.go_to.ensures.plan c.go_to.ensures.step c.go_to.ensures.stage in
    stage_new

pub put_all-requires-clause-begun : goal.put_all-requires-clause-begun
put_all-requires-clause-begun g c =
    let stage_new = over_state (λ o p s. IsStage p s (g.O.Occupied.count o s) (g.O.Occupied.hits o s) (g.O.Occupied.range o s) c.go_to.new.self.b c.go_to.new.self.free.items c.go_to.new.self.ends.items) c.self.inside.at.o.now c.go_to.new.self.o.now c.self.inside.at.plan c.go_to.new.self.plan (c.self.inside.at.step + 1) c.go_to.new.self.step c.go_to.ensures.pieces c.go_to.ensures.plan c.go_to.ensures.step c.go_to.ensures.stage in
    begun c.go_to.new.self.plan c.go_to.new.self.step (g.O.Occupied.count c.go_to.new.self.o.now c.go_to.new.self.step) (g.O.Occupied.hits c.go_to.new.self.o.now c.go_to.new.self.step) (g.O.Occupied.range c.go_to.new.self.o.now c.go_to.new.self.step) c.go_to.new.self.b c.go_to.new.self.free.items c.go_to.new.self.ends.items stage_new c.fill.new.table (map value_of c.list.result.now) (c.fill.ensures.filled c.go_to.new.self.step stage_new.exact) c.clear.new.self.sets (ap (λ (l : SetRoom). l.sets) c.clear.ensures)

pub put_all-requires-clause-room : goal.put_all-requires-clause-room
put_all-requires-clause-room g c =
    let can = c.self.invariant.0 in
    let stands = c.self.invariant.1 in
    let left : c.self.inside.at.step < c.self.inside.steps = subst (λ v. v.at < v.steps) (sym c.self.view_is) c.requires.left in
    let few = can.few in
    let rooms = can.rooms (c.self.inside.at.step + 1) (omega (arith, left)) in
    let cleared : c.clear.new.self.room ≡ c.self.inside.next.room = ap (λ (l : SetRoom). l.room) c.clear.ensures in
    over_state (λ o p s. HasRoom p s (g.O.Occupied.count o s) (g.O.Occupied.hits o s) (g.O.Occupied.range o s) c.clear.new.self.room) c.self.inside.at.o.now c.go_to.new.self.o.now c.self.inside.at.plan c.go_to.new.self.plan (c.self.inside.at.step + 1) c.go_to.new.self.step c.go_to.ensures.pieces c.go_to.ensures.plan c.go_to.ensures.step
    (subst (λ (n : ℕ). HasRoom c.self.inside.at.plan (c.self.inside.at.step + 1) (g.O.Occupied.count c.self.inside.at.o.now (c.self.inside.at.step + 1)) (g.O.Occupied.hits c.self.inside.at.o.now (c.self.inside.at.step + 1)) (g.O.Occupied.range c.self.inside.at.o.now (c.self.inside.at.step + 1)) n) (sym cleared) rooms.next_fit)

pub put_all-requires-clause-ticks : goal.put_all-requires-clause-ticks
put_all-requires-clause-ticks g c = c.self.invariant.2 ∙ ap (λ (p : Plan). p.k) (sym c.go_to.ensures.plan)

pub put_all-requires-clause-planes : goal.put_all-requires-clause-planes
put_all-requires-clause-planes g c =
    let can = c.self.invariant.0 in
    let stands = c.self.invariant.1 in
    let left : c.self.inside.at.step < c.self.inside.steps = subst (λ v. v.at < v.steps) (sym c.self.view_is) c.requires.left in
    let few = can.few in
    let rooms = can.rooms (c.self.inside.at.step + 1) (omega (arith, left)) in
    let counted = c.go_to.ensures.stage.listed.counted in
    let heads = rooms.heads_fit in
    omega (arith, counted, heads, c.self.invariant.3)

pub invariant_of-self : goal.invariant_of-self
invariant_of-self g c =
    let can = c.self.invariant.0 in
    let stands = c.self.invariant.1 in
    let left : c.self.inside.at.step < c.self.inside.steps = subst (λ v. v.at < v.steps) (sym c.self.view_is) c.requires.left in
    let few = can.few in
    let rooms = can.rooms (c.self.inside.at.step + 1) (omega (arith, left)) in
    let none : c.clear.new.self.sets ≡ [] = ap (λ (l : SetRoom). l.sets) c.clear.ensures in
    let before : List SetValue = map value_of c.list.result.now in
    let exact : rect_of_box c.go_to.new.self.b ≡ box_at (course_of c.go_to.new.self.plan) (c.self.inside.at.step + 1) = subst (λ (p : Plan). rect_of_box c.go_to.new.self.b ≡ box_at (course_of p) (c.self.inside.at.step + 1)) (sym c.go_to.ensures.plan) c.go_to.ensures.stage.exact in
    let filled : IsFilledFrom (course_of c.self.inside.at.plan) (c.self.inside.at.step + 1) before c.fill.new.table = subst (λ (p : Plan). IsFilledFrom (course_of p) (c.self.inside.at.step + 1) before c.fill.new.table) c.go_to.ensures.plan (c.fill.ensures.filled (c.self.inside.at.step + 1) exact) in
    let advances = over_state (λ o p s. Advances p s (g.O.Occupied.count o s) (g.O.Occupied.hits o s) (g.O.Occupied.range o s) c.fill.new.table (slot p.grid.w c.go_to.new.self.b.xlo) (slot p.grid.g c.go_to.new.self.b.ylo) c.clear.new.self.sets (slot p.grid.w c.go_to.new.self.b.xhi +ℤ pos 1) (slot p.grid.g c.go_to.new.self.b.ylo) c.put_all.new.out.sets)
    c.go_to.new.self.o.now c.self.inside.at.o.now c.go_to.new.self.plan c.self.inside.at.plan c.go_to.new.self.step (c.self.inside.at.step + 1) (sym c.go_to.ensures.pieces) (sym c.go_to.ensures.plan) (sym c.go_to.ensures.step) c.put_all.ensures.advances in
    let is_made = made c.self.inside.at.plan (c.self.inside.at.step + 1) (g.O.Occupied.count c.self.inside.at.o.now (c.self.inside.at.step + 1)) (g.O.Occupied.hits c.self.inside.at.o.now (c.self.inside.at.step + 1)) (g.O.Occupied.range c.self.inside.at.o.now (c.self.inside.at.step + 1)) c.go_to.new.self.b c.go_to.new.self.free.items c.go_to.new.self.ends.items c.go_to.ensures.stage c.fill.new.table before filled c.clear.new.self.sets c.put_all.new.out.sets none advances in
    let list : IsNextList (course_of c.self.inside.at.plan) (c.self.inside.at.step + 1) c.self.inside.sets.sets (g.O.Occupied.count c.self.inside.at.o.now (c.self.inside.at.step + 1)) (g.O.Occupied.hits c.self.inside.at.o.now (c.self.inside.at.step + 1)) c.put_all.new.out.sets =
    subst (λ (bs : List SetValue). IsNextList (course_of c.self.inside.at.plan) (c.self.inside.at.step + 1) bs (g.O.Occupied.count c.self.inside.at.o.now (c.self.inside.at.step + 1)) (g.O.Occupied.hits c.self.inside.at.o.now (c.self.inside.at.step + 1)) c.put_all.new.out.sets) c.list.ensures is_made.list in
    let after : c.swap.new.x.sets ≡ c.put_all.new.out.sets = ap (λ (l : SetRoom). l.sets) c.swap.ensures.x_after in
    let leads : LeadsOn (course_of c.self.inside.at.plan) (g.O.Occupied.count c.self.inside.at.o.now (c.self.inside.at.step + 1)) (g.O.Occupied.hits c.self.inside.at.o.now (c.self.inside.at.step + 1)) (c.self.inside.at.step + 1) c.self.inside.sets.sets c.put_all.new.out.sets =
    subst (λ (bs : List SetValue). LeadsOn (course_of c.self.inside.at.plan) (g.O.Occupied.count c.self.inside.at.o.now (c.self.inside.at.step + 1)) (g.O.Occupied.hits c.self.inside.at.o.now (c.self.inside.at.step + 1)) (c.self.inside.at.step + 1) bs c.put_all.new.out.sets) c.list.ensures is_made.leads in
    let next = stands_next c.self.inside.at.plan (g.O.Occupied.last c.self.inside.at.o.now) (g.O.Occupied.far c.self.inside.at.o.now) (g.O.Occupied.count c.self.inside.at.o.now) (g.O.Occupied.hits c.self.inside.at.o.now) (g.O.Occupied.range c.self.inside.at.o.now) (λ i p x y0 y y1 a b h k. g.met.O.Occupied.upright c.self.inside.at.o.now i p x y0 y y1 a b h k)
    c.self.inside.steps c.self.inside.at.step c.go_to.new.self.b c.go_to.new.self.free.items c.go_to.new.self.ends.items c.self.inside.sets.sets c.put_all.new.out.sets left c.go_to.ensures.stage stands list leads in
    let sets_room : c.swap.new.x.room ≡ c.self.inside.next.room = ap (λ (l : SetRoom). l.room) c.swap.ensures.x_after ∙ c.put_all.ensures.room ∙ ap (λ (l : SetRoom). l.room) c.clear.ensures in
    let next_room : c.swap.new.y.room ≡ c.self.inside.sets.room = ap (λ (l : SetRoom). l.room) c.swap.ensures.y_after in
    let runs = can_after c.self.inside.at.plan (g.O.Occupied.last c.self.inside.at.o.now) (g.O.Occupied.far c.self.inside.at.o.now) (g.O.Occupied.count c.self.inside.at.o.now) (g.O.Occupied.hits c.self.inside.at.o.now) (g.O.Occupied.range c.self.inside.at.o.now) c.self.inside.steps _ _ _ _ _ _ _ _ _ c.fill.new.table.most c.go_to.new.self.taken.rows c.go_to.new.self.taken.room c.go_to.new.self.runs.room (vec_capacity c.go_to.new.self.ends) (vec_capacity c.go_to.new.self.free) c.swap.new.x.room c.swap.new.y.room (length c.fill.new.strip.rows.items)
    can (c.fill.ensures.most ∙ c.start.ensures.most) c.go_to.ensures.heads c.go_to.ensures.taken c.go_to.ensures.room c.go_to.ensures.rows c.go_to.ensures.capacity sets_room next_room c.fill.ensures.room in
    let both = over_state (λ o p s. CanRun p (g.O.Occupied.last o) (g.O.Occupied.far o) (g.O.Occupied.count o) (g.O.Occupied.hits o) (g.O.Occupied.range o) c.self.inside.steps c.fill.new.table.most c.go_to.new.self.taken.rows c.go_to.new.self.taken.room c.go_to.new.self.runs.room (vec_capacity c.go_to.new.self.ends) (vec_capacity c.go_to.new.self.free) c.swap.new.x.room c.swap.new.y.room (length c.fill.new.strip.rows.items)
    × StandsAt p (g.O.Occupied.last o) (g.O.Occupied.far o) (g.O.Occupied.count o) (g.O.Occupied.hits o) (g.O.Occupied.range o) c.self.inside.steps s c.swap.new.x.sets) c.self.inside.at.o.now c.go_to.new.self.o.now c.self.inside.at.plan c.go_to.new.self.plan (c.self.inside.at.step + 1) c.go_to.new.self.step c.go_to.ensures.pieces c.go_to.ensures.plan c.go_to.ensures.step
    (runs, subst (λ (zs : List SetValue). StandsAt c.self.inside.at.plan (g.O.Occupied.last c.self.inside.at.o.now) (g.O.Occupied.far c.self.inside.at.o.now) (g.O.Occupied.count c.self.inside.at.o.now) (g.O.Occupied.hits c.self.inside.at.o.now) (g.O.Occupied.range c.self.inside.at.o.now) c.self.inside.steps (c.self.inside.at.step + 1) zs) (sym after) next) in
    (both.0, both.1, c.put_all.ensures.ticks ∙ c.self.invariant.2 ∙ ap (λ (p : Plan). p.k) (sym c.go_to.ensures.plan), c.put_all.ensures.planes ∙ c.self.invariant.3 ∙ sym c.go_to.ensures.heads)

pub returns-clause-list : goal.returns-clause-list
returns-clause-list g c =
    let can = c.self.invariant.0 in
    let stands = c.self.invariant.1 in
    let left : c.self.inside.at.step < c.self.inside.steps = subst (λ v. v.at < v.steps) (sym c.self.view_is) c.requires.left in
    let few = can.few in
    let rooms = can.rooms (c.self.inside.at.step + 1) (omega (arith, left)) in
    let none : c.clear.new.self.sets ≡ [] = ap (λ (l : SetRoom). l.sets) c.clear.ensures in
    let before : List SetValue = map value_of c.list.result.now in
    let exact : rect_of_box c.go_to.new.self.b ≡ box_at (course_of c.go_to.new.self.plan) (c.self.inside.at.step + 1) = subst (λ (p : Plan). rect_of_box c.go_to.new.self.b ≡ box_at (course_of p) (c.self.inside.at.step + 1)) (sym c.go_to.ensures.plan) c.go_to.ensures.stage.exact in
    let filled : IsFilledFrom (course_of c.self.inside.at.plan) (c.self.inside.at.step + 1) before c.fill.new.table = subst (λ (p : Plan). IsFilledFrom (course_of p) (c.self.inside.at.step + 1) before c.fill.new.table) c.go_to.ensures.plan (c.fill.ensures.filled (c.self.inside.at.step + 1) exact) in
    let advances = over_state (λ o p s. Advances p s (g.O.Occupied.count o s) (g.O.Occupied.hits o s) (g.O.Occupied.range o s) c.fill.new.table (slot p.grid.w c.go_to.new.self.b.xlo) (slot p.grid.g c.go_to.new.self.b.ylo) c.clear.new.self.sets (slot p.grid.w c.go_to.new.self.b.xhi +ℤ pos 1) (slot p.grid.g c.go_to.new.self.b.ylo) c.put_all.new.out.sets)
    c.go_to.new.self.o.now c.self.inside.at.o.now c.go_to.new.self.plan c.self.inside.at.plan c.go_to.new.self.step (c.self.inside.at.step + 1) (sym c.go_to.ensures.pieces) (sym c.go_to.ensures.plan) (sym c.go_to.ensures.step) c.put_all.ensures.advances in
    let is_made = made c.self.inside.at.plan (c.self.inside.at.step + 1) (g.O.Occupied.count c.self.inside.at.o.now (c.self.inside.at.step + 1)) (g.O.Occupied.hits c.self.inside.at.o.now (c.self.inside.at.step + 1)) (g.O.Occupied.range c.self.inside.at.o.now (c.self.inside.at.step + 1)) c.go_to.new.self.b c.go_to.new.self.free.items c.go_to.new.self.ends.items c.go_to.ensures.stage c.fill.new.table before filled c.clear.new.self.sets c.put_all.new.out.sets none advances in
    let list : IsNextList (course_of c.self.inside.at.plan) (c.self.inside.at.step + 1) c.self.inside.sets.sets (g.O.Occupied.count c.self.inside.at.o.now (c.self.inside.at.step + 1)) (g.O.Occupied.hits c.self.inside.at.o.now (c.self.inside.at.step + 1)) c.put_all.new.out.sets =
    subst (λ (bs : List SetValue). IsNextList (course_of c.self.inside.at.plan) (c.self.inside.at.step + 1) bs (g.O.Occupied.count c.self.inside.at.o.now (c.self.inside.at.step + 1)) (g.O.Occupied.hits c.self.inside.at.o.now (c.self.inside.at.step + 1)) c.put_all.new.out.sets) c.list.ensures is_made.list in
    let after : c.swap.new.x.sets ≡ c.put_all.new.out.sets = ap (λ (l : SetRoom). l.sets) c.swap.ensures.x_after in
    subst (λ v. IsNextList (course_of v.plan) c.go_to.new.self.step v.sets (g.O.Occupied.count v.o c.go_to.new.self.step) (g.O.Occupied.hits v.o c.go_to.new.self.step) c.swap.new.x.sets) c.self.view_is
    (subst (λ (j : ℕ). IsNextList (course_of c.self.inside.at.plan) j c.self.inside.sets.sets (g.O.Occupied.count c.self.inside.at.o.now j) (g.O.Occupied.hits c.self.inside.at.o.now j) c.swap.new.x.sets) (sym c.go_to.ensures.step)
    (subst (λ (zs : List SetValue). IsNextList (course_of c.self.inside.at.plan) (c.self.inside.at.step + 1) c.self.inside.sets.sets (g.O.Occupied.count c.self.inside.at.o.now (c.self.inside.at.step + 1)) (g.O.Occupied.hits c.self.inside.at.o.now (c.self.inside.at.step + 1)) zs) (sym after) list))
