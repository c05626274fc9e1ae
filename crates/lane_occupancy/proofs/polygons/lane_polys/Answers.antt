use Rattle.std.proofs.Common.{get_or, arith, ap, refl, sym, subst, map, List, ◌∙◌, ◌+◌, ◌≤◌, length}
use Rattle.spot_terms.specs.Bodies.{disc_corners}
use Rattle.spot_terms.specs.Cells.{cells, corners_of}
use Rattle.spot_terms.specs.LanePolygons.{AreLanePolygons}
use Rattle.lane_occupancy.specs.Polygons.{polygon_of}
use Rattle.lane_occupancy.specs.declared.polygons.LanePoly.{LanePoly}
use Rattle.lane_occupancy.proofs.LaneBodies.{holds_bodies}
use Rattle.lane_occupancy.proofs.LanePolyLists.{hull_of_corners, polygons_none, polygons_more, polygons_on, polygons_same, polygons_all}
use Rattle.lane_occupancy.proofs.ReachedCells.{none_here, few_ends, rising_ends, is_reached, is_never, is_unreached, past_none, past_next, between, beyond, within_cells}
use Rattle.std.proofs.lemmas.Option.{slice_get-get_or}
use Rattle.lane_occupancy.proofs.Shapes.{few_of_cell, near_of_body, near_summands}
use Rattle.lane_occupancy.proofs.polygons.lane_polys.Goals as goal
use Rattle.lane_occupancy.proofs.polygons.lane_polys.Goals.{After-drop-ends-2, in-Some+in_ok-push, in_default}

pub loop-x-init : goal.loop-x-init
loop-x-init c = (0, past_none c.list-reached.result.now, λ speed h. polygons_none c.args.net.now c.args.s.now speed c.args.k c.args.steps c.new-polys.result.items c.new-polys.ensures.items)

pub first_interval-requires-clause-few : goal.first_interval-requires-clause-few
first_interval-requires-clause-few c = few_ends c.args.s.now c.start_speed.result c.args.k c.args.steps c.deref.result.now c.in_ok-ends.ends.items c.requires.steps c.deref.ensures.value c.in_ok-ends.ensures

pub first_interval-requires-clause-ends : goal.first_interval-requires-clause-ends
first_interval-requires-clause-ends c = rising_ends c.args.s.now c.start_speed.result c.args.k c.args.steps c.deref.result.now c.in_ok-ends.ends.items c.deref.ensures.value c.in_ok-ends.ensures

pub sum_hull-poly-requires-clause-few : goal.sum_hull-poly-requires-clause-few
sum_hull-poly-requires-clause-few c =
    let cell = few_of_cell c.cell.ensures.net_cell c.cell.result.now.poly c.cell.ensures.cell_of.near c.cell.ensures.cell_of.poly in
    let body = c.body_poly-body.ensures.few in
    omega (arith, cell, body)

pub sum_hull-poly-requires-clause-a_near : goal.sum_hull-poly-requires-clause-a_near
sum_hull-poly-requires-clause-a_near c = near_summands c.cell.result.now.poly c.cell.ensures.cell_of.near

pub sum_hull-poly-requires-clause-b_near : goal.sum_hull-poly-requires-clause-b_near
sum_hull-poly-requires-clause-b_near c = near_summands c.body_poly-body.result (near_of_body c.args.s.now.r c.body_poly-body.result c.requires.start.r c.body_poly-body.ensures.hull)

pub cell-requires : goal.cell-requires
cell-requires c =
    let x = get_or c.list-reached.result.now c.loop-x.x-index none_here in
    let has = c.list-reached.ensures.each c.loop-x.x-index x (slice_get-get_or c.list-reached.result.now c.loop-x.x-index none_here c.loop-x-test.true) in
    within_cells c.args.net.now _ _ x.cell x.label c.args.labels.now (c.requires.labels c.start_speed.result c.start_speed.ensures.least) has

pub loop-x-preserved : goal.loop-x-preserved
loop-x-preserved c =
    let net = c.args.net.now in let s = c.args.s.now in let k = c.args.k in let steps = c.args.steps in let labels = c.args.labels.now in
    let ends = c.deref.result.now in let own = c.start_speed.result in let list = c.list-reached.result.now in
    let was = c.loop-x.polys.items in let now = c.match-first_interval.polys.items in
    let x = get_or c.list-reached.result.now c.loop-x.x-index none_here in
    let here = slice_get-get_or list c.loop-x.x-index none_here c.loop-x-test.true in
    let (at, past, below) = c.loop-x.invariant in
    let listed = c.list-reached.ensures in
    let low : at ≤ x.cell = past.after c.loop-x.x-index x (omega arith) here in
    let has = listed.each c.loop-x.x-index x here in (
      x.cell + 1,
      past_next list c.loop-x.x-index at x listed.rises here past,
      λ speed h.
          let up = polygons_on net s speed k steps at x.cell was low
          (λ d from to. is_unreached net s own k steps labels ends c.in_ok-ends.ends.items c.start_speed.ensures.least c.requires.labels c.deref.ensures.value c.in_ok-ends.ensures speed h d (λ n e. between labels list c.loop-x.x-index at d n x listed here past from to e))
          (below speed h) in
          elim c.match-first_interval.branch [
            | in-Some+in_ok-push w ↦
                let reached = is_reached net s own k steps labels ends c.in_ok-ends.ends.items c.start_speed.ensures.least c.requires.labels c.deref.ensures.value c.in_ok-ends.ensures speed h x.cell w.in-Some.first (w.in-Some.ensures.some labels has) in
                let cell = w.cell.ensures in
                let made : LanePoly = record { cell = x.cell; first = w.in-Some.first; poly = w.sum_hull-poly.result } in
                polygons_more net s speed k steps x.cell made was now refl (w.in-Some.first, reached.0, reached.1)
                (record {
                  net_cell = cell.net_cell;
                  cell_is = cell.cell_is;
                  first_is = reached.0;
                  corners_are = hull_of_corners (corners_of cell.net_cell) (disc_corners s.r) w.cell.result.now.poly c.body_poly-body.result w.sum_hull-poly.result cell.cell_of.poly c.body_poly-body.ensures.hull w.sum_hull-poly.ensures;
                })
                (ap (λ v. v.items) w.polys-is ∙ w.in_ok-push.ensures.items) up
            | in_default w ↦
                polygons_same net s speed k steps x.cell was now
                (is_never net s own k steps labels ends c.in_ok-ends.ends.items c.start_speed.ensures.least c.requires.labels c.deref.ensures.value c.in_ok-ends.ensures speed h x.cell (w.in_default.ensures.none labels has))
                (ap (λ v. v.items) w.polys-is) up
          ],
    )

pub returns-clause-exact : goal.returns-clause-exact
returns-clause-exact c = λ speed h.
    subst (λ (polys : List LanePoly). AreLanePolygons c.args.net.now c.args.s.now speed c.args.k c.args.steps (map polygon_of polys)) (sym c.from_vec.ensures)
    (let net = c.args.net.now in let s = c.args.s.now in let labels = c.args.labels.now in let list = c.list-reached.result.now in
    let (at, past, below) = c.loop-x.invariant in
    let last = at + length (cells net) in
    polygons_all net s speed c.args.k c.args.steps last c.loop-x.polys.items (omega arith)
    (polygons_on net s speed c.args.k c.args.steps at last c.loop-x.polys.items (omega arith)
    (λ d from to. is_unreached net s c.start_speed.result c.args.k c.args.steps labels c.in_ok-ends.ends.items c.in_ok-ends.ends.items c.start_speed.ensures.least c.requires.labels refl c.in_ok-ends.ensures speed h d
    (λ n e. beyond labels list c.loop-x.x-index at d n c.list-reached.ensures (omega (arith, c.loop-x-test.false)) past from e))
    (below speed h)))

pub returns-clause-holds : goal.returns-clause-holds
returns-clause-holds c = λ speed h. holds_bodies c.args.net.now c.args.s.now speed c.args.k c.args.steps (map polygon_of c.from_vec.result) c.requires.start (returns-clause-exact c speed h)
