use Rattle.std.proofs.Common.{◌∙◌, arith, ap, sym, length}
use Rattle.std.specs.Vec.{vec_capacity}
use Rattle.area_run.specs.Running.{CanRun, StandsAt}
use Rattle.area_run.specs.declared.plan.Plan.{Plan}
use Rattle.area_run.proofs.Starting.{some_boxes, can_start, stands_first}
use Rattle.area_run.proofs.Stepping.{over_state}
use Rattle.area_run.proofs.run.AreaRun.with_room.Goals as goal

pub first_sets-requires-clause-room : goal.first_sets-requires-clause-room
first_sets-requires-clause-room g c =
    some_boxes c.args.plan.now c.in_ok-at.at.b 0 c.args.rooms.now.boxes (g.O.Occupied.count c.args.o.now) (g.O.Occupied.range c.args.o.now) c.requires.plan c.in_ok-at.ensures.exact c.in_ok-at.ensures.reach
    (c.requires.rooms.boxes.bound 0 (omega arith))

pub invariant_of-result : goal.invariant_of-result
invariant_of-result g c =
    let both = over_state (λ o p s. CanRun p (g.O.Occupied.last o) (g.O.Occupied.far o) (g.O.Occupied.count o) (g.O.Occupied.hits o) (g.O.Occupied.range o) c.args.steps c.in_ok-table.table.most c.in_ok-at.at.taken.rows c.in_ok-at.at.taken.room c.in_ok-at.at.runs.room (vec_capacity c.in_ok-at.at.ends) (vec_capacity c.in_ok-at.at.free) c.in_ok-sets.sets.room c.in_ok-next.next.room (length c.in_ok-strip.strip.rows.items)
    × StandsAt p (g.O.Occupied.last o) (g.O.Occupied.far o) (g.O.Occupied.count o) (g.O.Occupied.hits o) (g.O.Occupied.range o) c.args.steps s c.in_ok-sets.sets.sets) c.args.o.now c.in_ok-at.at.o.now c.args.plan.now c.in_ok-at.at.plan 0 c.in_ok-at.at.step c.in_ok-at.ensures.pieces c.in_ok-at.ensures.plan c.in_ok-at.ensures.step (
      can_start c.args.plan.now (g.O.Occupied.last c.args.o.now) (g.O.Occupied.far c.args.o.now) (g.O.Occupied.count c.args.o.now) (g.O.Occupied.hits c.args.o.now) (g.O.Occupied.range c.args.o.now) c.args.steps c.in_ok-table.table.most c.in_ok-at.at.taken.rows c.in_ok-at.at.taken.room c.in_ok-at.at.runs.room (vec_capacity c.in_ok-at.at.ends) (vec_capacity c.in_ok-at.at.free) c.in_ok-sets.sets.room c.in_ok-next.next.room (length c.in_ok-strip.strip.rows.items)
          c.args.rooms.now c.requires.plan c.requires.steps c.requires.last c.requires.far c.requires.rooms c.in_ok-table.ensures.0 c.in_ok-at.ensures.heads c.in_ok-at.ensures.taken c.in_ok-at.ensures.room c.in_ok-at.ensures.rows c.in_ok-at.ensures.capacity c.in_ok-sets.ensures.room (ap (λ l. l.room) c.in_ok-next.ensures) c.in_ok-strip.ensures,
      stands_first c.args.plan.now (g.O.Occupied.last c.args.o.now) (g.O.Occupied.far c.args.o.now) (g.O.Occupied.count c.args.o.now) (g.O.Occupied.hits c.args.o.now) (g.O.Occupied.range c.args.o.now) (λ i p x y0 y y1 a b h k. g.met.O.Occupied.upright c.args.o.now i p x y0 y y1 a b h k)
          c.args.steps c.in_ok-at.at.b c.in_ok-sets.sets.sets c.requires.plan c.in_ok-at.ensures.exact c.in_ok-at.ensures.near c.in_ok-sets.ensures.first,
    ) in
    (both.0, both.1, c.in_ok-planes.ensures.ticks ∙ ap (λ (p : Plan). p.k) (sym c.in_ok-at.ensures.plan), c.in_ok-planes.ensures.rows ∙ sym c.in_ok-at.ensures.heads)
