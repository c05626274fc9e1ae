use Rattle.std.proofs.Common.{List, ℕ, get_or, sym, subst}
use Rattle.std.proofs.lemmas.List.{take_all}
use Rattle.std.specs.List.{AllByRecursion}
use Rattle.lane_paths.specs.Closed.{IsAtMost}
use Rattle.lane_paths.proofs.ClosedLaws.{blocks_at_most, label_there}
use Rattle.lane_paths.proofs.closed.greatest_of_blocks.Goals as goal

pub loop-first-preserved : goal.loop-first-preserved
loop-first-preserved c = (
  c.block_at-block.ensures.within,
  λ lanes lengths s closed lists. blocks_at_most lanes lengths c.args.blocks.now.greatest.items s c.loop-first.first c.loop-first.most c.in-Some.length c.greater-most.result c.args.class.now c.block_at-block.result.now closed lists c.loop-first-test.true c.block_at-block.ensures.is (label_there c.args.blocks.now.greatest.items (get_or c.block_at-block.result.now 0 0) c.in-Some.length (sym c.in-Some.ensures))
      c.greater-most.ensures.first c.greater-most.ensures.second (c.loop-first.invariant.1 lanes lengths s closed lists),
)

pub returns : goal.returns
returns c = λ lanes lengths s closed lists. subst (λ (z : List ℕ). AllByRecursion (IsAtMost lanes lengths c.loop-first.most) z) (take_all c.loop-first.first c.args.class.now c.loop-first-test.false) (c.loop-first.invariant.1 lanes lengths s closed lists)
