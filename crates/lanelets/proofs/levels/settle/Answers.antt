use Rattle.std.proofs.Common.{◌∙◌, arith}
use Rattle.lanelets.proofs.LevelLaws.{way_none, way_all}
use Rattle.lanelets.proofs.levels.settle.Goals as goal

pub loop-c-init : goal.loop-c-init
loop-c-init c = (c.requires.count, c.new-noted.ensures.items, way_none c.args.pairs.now c.args.numbers.now c.new-noted.result.items)

pub loop-c-preserved : goal.loop-c-preserved
loop-c-preserved c = (c.lower_from.auto.numbers ∙ c.loop-c.invariant.0, c.in_ok-lower_from.ensures.noted, c.in_ok-lower_from.ensures.under_way c.args.numbers.now c.loop-c.invariant.2)

pub returns-clause-level : goal.returns-clause-level
returns-clause-level c = way_all c.args.pairs.now c.args.numbers.now c.loop-c.numbers c.loop-c.noted.items c.loop-c.c (omega (arith, c.requires.many, c.loop-c-test.false)) c.loop-c.invariant.1 c.loop-c.invariant.2
