use Rattle.lane_paths.proofs.ClosedLaws.{block_of, blocks_more}
use Rattle.lane_paths.proofs.LinkLaws.{beside_all}
use Rattle.lane_paths.proofs.links.relax_blocks.Goals as goal

pub relax_block-requires-clause-block : goal.relax_block-requires-clause-block
relax_block-requires-clause-block c = block_of c.args.net.now c.args.from.now.cell c.loop-first.first c.args.class.now c.block_at-block.result.now c.requires.class c.loop-first-test.true c.block_at-block.ensures.is

pub loop-first-preserved : goal.loop-first-preserved
loop-first-preserved c = (
  c.in_ok-relax_block.ensures.places,
  c.in_ok-relax_block.ensures.closed,
  c.block_at-block.ensures.within,
  λ p i w. blocks_more c.args.net.now p i c.loop-first.first c.args.from.now.length c.args.class.now c.block_at-block.result.now c.args.search.now c.loop-first.search c.relax_block.new.search c.block_at-block.ensures.is
      (c.loop-first.invariant.3 p i w) (c.in_ok-relax_block.ensures.relaxes p i w),
)

pub returns-clause-relaxes : goal.returns-clause-relaxes
returns-clause-relaxes c = λ p i w.
    beside_all c.args.net.now p i c.args.from.now.cell c.loop-first.first c.args.from.now.length c.args.class.now c.args.search.now c.loop-first.search c.loop-first-test.false c.requires.class (c.loop-first.invariant.3 p i w)
