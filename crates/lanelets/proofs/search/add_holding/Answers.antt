use Rattle.std.proofs.Common.{◌+◌, ℕ, List, length, refl, ap, subst, arith}
use Rattle.std.specs.Prelude.{◌↔◌, slice_index_or}
use Rattle.spot_terms.specs.Hull.{InHull}
use Rattle.lanelets.specs.declared.cell.Placed.{Placed}
use Rattle.lanelets.specs.Holding.{HoldsAt}
use Rattle.lanelets.proofs.Holds.{holding_up, holds_read}
use Rattle.lanelets.proofs.NumberLists.{lists_push, lists_skip}
use Rattle.lanelets.proofs.BoxLists.{as_many_boxes, box_at}
use Rattle.lanelets.proofs.search.add_holding.Goals as goal
use Rattle.lanelets.proofs.search.add_holding.Goals.{then-holds+in_ok-push, else-holds}

pub offset_bounds-list-c : goal.offset_bounds-list-c
offset_bounds-list-c c =
    let many = as_many_boxes c.args.cells.now c.args.boxes.now c.requires.boxes in
    let same = ap length c.list.ensures.is in omega (arith, many, same)

pub bounds-list-c : goal.bounds-list-c
bounds-list-c c =
    let many = as_many_boxes c.args.cells.now c.args.boxes.now c.requires.boxes in
    let same = ap length c.list.ensures.is in omega (arith, many, same)

pub holds-requires : goal.holds-requires
holds-requires c = box_at c.list.result.now c.args.boxes.now c.loop-c.c _ _ (rw c.list.ensures.is c.requires.boxes) (omega arith)

pub overflow_cast-c : goal.overflow_cast-c
overflow_cast-c c = let many = as_many_boxes c.args.cells.now c.args.boxes.now c.requires.boxes in omega (arith, many)

pub loop-c-preserved : goal.loop-c-preserved
loop-c-preserved c =
    let P : ℕ → Type 0 = HoldsAt c.args.cells.now c.args.p in
    let many = as_many_boxes c.args.cells.now c.args.boxes.now c.requires.boxes in
    let same = ap length c.list.ensures.is in
    let found = holds_read c.list.result.now c.args.p c.loop-c.c c.index-list-c.result (omega (arith, many, same)) in
    let here = subst (λ (made : List Placed). HoldsAt made c.args.p c.loop-c.c ↔ InHull (slice_index_or c.list.result.now c.loop-c.c c.index-list-c.result).cell.poly c.args.p) c.list.ensures.is found in
    λ before. elim c.if-holds.branch [
      | then-holds+in_ok-push w ↦ lists_push P c.loop-c.c (c.loop-c.c + 1) c.loop-c.list.items c.if-holds.list.items refl (rw w.list-is w.in_ok-push.ensures.items) (here.1 (c.holds.ensures.0 w.if-holds.true)) (c.loop-c.invariant before)
      | else-holds w ↦ (
          let never : P c.loop-c.c → ⊥ = λ h. (let t = c.holds.ensures.1 (here.0 h) in let f = w.if-holds.false in cc) in
          rw w.list-is (lists_skip P c.loop-c.c (c.loop-c.c + 1) c.loop-c.list.items refl never (c.loop-c.invariant before)))
    ]

pub returns : goal.returns
returns c =
    let many = as_many_boxes c.args.cells.now c.args.boxes.now c.requires.boxes in
    λ before. holding_up c.args.cells.now c.args.p c.loop-c.c _ c.loop-c.list.items (omega (arith, many)) (c.loop-c.invariant before)
