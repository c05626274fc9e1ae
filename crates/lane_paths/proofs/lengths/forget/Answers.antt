use Rattle.std.proofs.Common.{get_or, arith}
use Rattle.std.proofs.lemmas.Option.{slice_get-get_or}
use Rattle.lane_paths.proofs.ReachedLists.{all_left, left_next, none_left}
use Rattle.lane_paths.proofs.lengths.forget.Goals as goal

pub loop-number-init : goal.loop-number-init
loop-number-init c = all_left c.args.lengths.now.items c.args.reached.now c.requires

pub loop-number-preserved : goal.loop-number-preserved
loop-number-preserved c = left_next c.loop-number.lengths.items c.forget_one.new.lengths.items c.args.reached.now c.loop-number.number-index (get_or c.args.reached.now c.loop-number.number-index 0)
    (slice_get-get_or c.args.reached.now c.loop-number.number-index 0 c.loop-number-test.true) c.forget_one.ensures c.loop-number.invariant

pub returns : goal.returns
returns c = none_left c.loop-number.lengths.items c.args.reached.now c.loop-number.number-index (omega (arith, c.loop-number-test.false)) c.loop-number.invariant
