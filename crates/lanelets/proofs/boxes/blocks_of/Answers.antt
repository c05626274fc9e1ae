use Rattle.std.proofs.Common.{arith}
use Rattle.std.proofs.lemmas.Option.{slice_get-get_or}
use Rattle.lanelets.proofs.BoxLists.{block_begins, block_goes_on, blocks_all}
use Rattle.lanelets.proofs.boxes.blocks_of.Goals as goal
use Rattle.lanelets.proofs.boxes.blocks_of.Goals.{then-c-eq0+in_ok-push, else-c-eq0}

pub loop-c-preserved : goal.loop-c-preserved
loop-c-preserved c =
    let at = slice_get-get_or c.args.boxes.now c.loop-c.c _ c.loop-c-test.true in
    elim c.if-c-eq0.branch [
      | then-c-eq0+in_ok-push w ↦ rw w.blocks-is (block_begins c.args.boxes.now c.loop-c.blocks.items w.push.new.self.items c.loop-c.c _ w.if-c-eq0.true at w.in_ok-push.ensures.items c.loop-c.invariant)
      | else-c-eq0 w ↦ rw w.blocks-is (block_goes_on c.args.boxes.now c.loop-c.blocks.items c.loop-c.c _ w.index.result.now w.around_both.result w.if-c-eq0.false at w.index.ensures w.around_both.ensures.first w.around_both.ensures.second c.loop-c.invariant)
    ]

pub returns : goal.returns
returns c = blocks_all c.args.boxes.now c.loop-c.blocks.items c.loop-c.c (omega arith) c.loop-c.invariant
