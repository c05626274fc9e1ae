use Rattle.std.proofs.Common.{length, ap, arith}
use Rattle.std.proofs.lemmas.Option.{slice_get-get_or}
use Rattle.lanelets.proofs.BoxLists.{as_many_boxes, block_skip}
use Rattle.lanelets.proofs.Holds.{holding_all}
use Rattle.lanelets.proofs.search.cells_holding.Goals as goal
use Rattle.lanelets.proofs.search.cells_holding.Goals.{then-covers+in_ok-add_holding, else-covers}

pub loop-block-preserved : goal.loop-block-preserved
loop-block-preserved c = elim c.if-covers.branch [
  | then-covers+in_ok-add_holding w ↦ rw w.list-is (w.in_ok-add_holding.ensures c.loop-block.invariant)
  | else-covers w ↦ (
      rw w.list-is (block_skip c.args.cells.now c.args.boxes.now c.args.p c.loop-block.block _ c.loop-block.list.items c.requires
      (rw (← c.deref-around-items.ensures.value) (slice_get-get_or c.deref-around-items.result.now c.loop-block.block _ c.loop-block-test.true))
      (λ i. (let t = c.covers.ensures.1 i in let f = w.if-covers.false in cc))
      c.loop-block.invariant))
]

pub returns : goal.returns
returns c =
    let many = as_many_boxes c.args.cells.now c.args.boxes.now.each.items c.requires.each in
    let all = c.requires.blocks.all in
    let same = ap length c.deref-around-items.ensures.value in
    rw c.from_vec.ensures (holding_all c.args.cells.now c.args.p _ c.loop-block.list.items (omega (arith, many, all, same)) c.loop-block.invariant)
