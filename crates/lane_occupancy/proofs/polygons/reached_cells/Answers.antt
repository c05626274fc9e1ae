use Rattle.std.proofs.Common.{get_or, ◌≡◌, ℕ, ◌+◌, List, arith, length, ◌≤◌, ◌∙◌, refl, sym}
use Rattle.std.specs.Prelude.{Option, Some}
use Rattle.lane_paths.specs.Labels.{label_at}
use Rattle.std.proofs.lemmas.Option.{slice_get-get_or}
use Rattle.spot_terms.specs.Bodies.{IsLeast}
use Rattle.spot_terms.specs.Cells.{cells}
use Rattle.spot_terms.specs.Motions.{IsStartSpeed}
use Rattle.lane_occupancy.specs.Reaches.{IsWithin}
use Rattle.lane_occupancy.proofs.ReachedCells.{Counted, none_here, few_ends, rising_ends, is_reached, is_never, is_unreached, past_none, past_next, between, beyond, within_cells, found, missed, counted_none, counted_more, counted_on, counted_same, whole}
use Rattle.lane_occupancy.proofs.polygons.reached_cells.Goals as goal
use Rattle.lane_occupancy.proofs.polygons.reached_cells.Goals.{then-is_some, else-is_some}

pub loop-x-init : goal.loop-x-init
loop-x-init c = (0, past_none c.list-reached.result.now, omega arith, λ speed h. counted_none c.args.net.now c.args.s.now speed c.args.k c.args.steps)

pub first_interval-requires-clause-few : goal.first_interval-requires-clause-few
first_interval-requires-clause-few c = few_ends c.args.s.now c.start_speed.result c.args.k c.args.steps c.deref.result.now c.in_ok-ends.ends.items c.requires.steps c.deref.ensures.value c.in_ok-ends.ensures

pub first_interval-requires-clause-ends : goal.first_interval-requires-clause-ends
first_interval-requires-clause-ends c = rising_ends c.args.s.now c.start_speed.result c.args.k c.args.steps c.deref.result.now c.in_ok-ends.ends.items c.deref.ensures.value c.in_ok-ends.ensures

pub prove-unreachable-requires : goal.prove-unreachable-requires
prove-unreachable-requires c =
    let x = get_or c.list-reached.result.now c.loop-x.x-index none_here in
    let has = c.list-reached.ensures.each c.loop-x.x-index x (slice_get-get_or c.list-reached.result.now c.loop-x.x-index none_here c.loop-x-test.true) in
    let inside = within_cells c.args.net.now _ _ x.cell x.label c.args.labels.now (c.requires.labels c.start_speed.result c.start_speed.ensures.least) has in
    let past = c.if-prove.true in let many = c.len-cells.ensures in omega (arith, inside, past, many)

pub overflow_add-count : goal.overflow_add-count
overflow_add-count c =
    let list = c.list-reached.result.now in let x = get_or c.list-reached.result.now c.loop-x.x-index none_here in
    let here = slice_get-get_or list c.loop-x.x-index none_here c.loop-x-test.true in
    let (at, past, few, counted) = c.loop-x.invariant in
    let low : at ≤ x.cell = past.after c.loop-x.x-index x (omega arith) here in
    let many = c.len-cells.type_inv in let inside = c.if-prove.false in omega (arith, few, low, many, inside)

pub loop-x-preserved : goal.loop-x-preserved
loop-x-preserved c =
    let net = c.args.net.now in let s = c.args.s.now in let k = c.args.k in let steps = c.args.steps in let labels = c.args.labels.now in
    let ends = c.deref.result.now in let own = c.start_speed.result in let o = c.first_interval.result in let list = c.list-reached.result.now in
    let x = get_or c.list-reached.result.now c.loop-x.x-index none_here in
    let here = slice_get-get_or list c.loop-x.x-index none_here c.loop-x-test.true in
    let (at, past, few, counted) = c.loop-x.invariant in
    let listed = c.list-reached.ensures in
    let low : at ≤ x.cell = past.after c.loop-x.x-index x (omega arith) here in
    let has = listed.each c.loop-x.x-index x here in
    let up : (speed : ℕ) → IsStartSpeed s.b speed → Counted net s speed k steps x.cell c.loop-x.count = (λ speed h. counted_on net s speed k steps at x.cell c.loop-x.count low
    (λ d from to. is_unreached net s own k steps labels ends c.in_ok-ends.ends.items c.start_speed.ensures.least c.requires.labels c.deref.ensures.value c.in_ok-ends.ensures speed h d (λ n e. between labels list c.loop-x.x-index at d n x listed here past from to e))
    (counted speed h)) in
    let next : (c.if-is_some.count ≤ x.cell + 1) × ((speed : ℕ) → IsStartSpeed s.b speed → Counted net s speed k steps (x.cell + 1) c.if-is_some.count) = elim c.if-is_some.branch [
      | then-is_some w ↦ (
        omega (arith, few, low, w.count-is),
        λ speed h.
            let (i, first) = found o (λ i. (labels : List (Option ℕ)) → label_at labels x.cell ≡ Some x.label → IsLeast (IsWithin labels ends x.cell) i) (sym c.is_some.ensures ∙ w.if-is_some.true) c.first_interval.ensures.some in
            counted_more net s speed k steps x.cell c.loop-x.count c.if-is_some.count
            (let r = is_reached net s own k steps labels ends c.in_ok-ends.ends.items c.start_speed.ensures.least c.requires.labels c.deref.ensures.value c.in_ok-ends.ensures speed h x.cell i (first labels has) in (i, r.0, r.1)) w.count-is (up speed h),
      )
      | else-is_some w ↦ (
        omega (arith, few, low, w.count-is),
        λ speed h.
            counted_same net s speed k steps x.cell c.loop-x.count c.if-is_some.count
            (is_never net s own k steps labels ends c.in_ok-ends.ends.items c.start_speed.ensures.least c.requires.labels c.deref.ensures.value c.in_ok-ends.ensures speed h x.cell
            (missed o ((labels : List (Option ℕ)) → label_at labels x.cell ≡ Some x.label → (i : ℕ) → IsWithin labels ends x.cell i → ⊥) (sym c.is_some.ensures ∙ w.if-is_some.false) c.first_interval.ensures.none labels has)) w.count-is (up speed h),
      )
    ] in
    (x.cell + 1, past_next list c.loop-x.x-index at x listed.rises here past, next.0, next.1)

pub returns : goal.returns
returns c = λ speed h.
    let net = c.args.net.now in let s = c.args.s.now in let labels = c.args.labels.now in let list = c.list-reached.result.now in
    let (at, past, few, counted) = c.loop-x.invariant in
    let last = at + length (cells net) in
    let n = counted_on net s speed c.args.k c.args.steps at last c.loop-x.count (omega arith)
    (λ d from to. is_unreached net s c.start_speed.result c.args.k c.args.steps labels c.in_ok-ends.ends.items c.in_ok-ends.ends.items c.start_speed.ensures.least c.requires.labels refl c.in_ok-ends.ensures speed h d
    (λ n e. beyond labels list c.loop-x.x-index at d n c.list-reached.ensures (omega (arith, c.loop-x-test.false)) past from e))
    (counted speed h) in
    (n.reached, whole net s speed c.args.k c.args.steps last n.reached (omega arith) n.lists, n.count_is)
