use Rattle.std.proofs.Common.{◌<◌, arith, refl, length}
use Rattle.merge_sets.proofs.Clearings.{cleared_none, cleared_more}
use Rattle.merge_sets.proofs.cells.clear.Goals as goal

pub loop-i-init : goal.loop-i-init
loop-i-init c = cleared_none c.args.cells.now

pub loop-i-preserved : goal.loop-i-preserved
loop-i-preserved c = cleared_more c.loop-i.i c.args.cells.now c.loop-i.cells _ c.loop-i.invariant (omega (arith, c.loop-i-test.true, c.requires, c.loop-i.auto.cells)) refl
