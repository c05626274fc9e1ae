use Rattle.std.proofs.Common.{◌≡◌, length, arith, subst}
use Rattle.lanelets.specs.Beside.{ArePairs}
use Rattle.lanelets.specs.Steps.{net_of}
use Rattle.lanelets.proofs.PairLists.{rows_none, rows_more}
use Rattle.lanelets.proofs.pairs.side_pairs.Goals as goal

pub loop-c-init : goal.loop-c-init
loop-c-init c = λ every k. rows_none every (net_of c.args.cells.now) c.in_ok-pairs.pairs.items c.in_ok-pairs.ensures.items

pub loop-c-preserved : goal.loop-c-preserved
loop-c-preserved c = λ every k. rows_more every (net_of c.args.cells.now) c.loop-c.c c.loop-c.pairs.items c.push.new.self.items c.in_ok-pairs_of.field-0 (c.loop-c.invariant every k) (c.in_ok-pairs_of.ensures every k) c.in_ok-push.ensures.items

pub returns : goal.returns
returns c = λ every k.
    let all : c.loop-c.c ≡ length c.args.cells.now = omega (arith, c.loop-c-test.false, c.loop-c.auto.c-end, c.len.ensures.is) in
    subst (λ n. ArePairs every (net_of c.args.cells.now) n c.loop-c.pairs.items) all (c.loop-c.invariant every k)
