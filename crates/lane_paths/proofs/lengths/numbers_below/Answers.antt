use Rattle.std.proofs.Common.{get_or, ℕ, ◌<◌, List, arith, length, subst, sym, take}
use Rattle.std.proofs.lemmas.List.{take_all}
use Rattle.spot_terms.specs.Lists.{Includes}
use Rattle.std.proofs.lemmas.Option.{slice_get-get_or}
use Rattle.lane_paths.proofs.ReachedLists.{below_more}
use Rattle.lane_paths.proofs.lengths.numbers_below.Goals as goal

pub loop-number-preserved : goal.loop-number-preserved
loop-number-preserved c =
    let here = slice_get-get_or c.args.reached.now c.loop-number.number-index 0 c.loop-number-test.true in
    let added = c.in_ok-add_below.ensures in
    (below_more c.args.reached.now c.args.count c.loop-number.number-index (get_or c.args.reached.now c.loop-number.number-index 0) c.loop-number.cells.items c.add_below.new.cells.items here added.kept added.here c.loop-number.invariant.0, added.within c.loop-number.invariant.1)

pub returns-clause-all : goal.returns-clause-all
returns-clause-all c = λ i j low. c.loop-number.invariant.0 i (subst (λ (z : List ℕ). Includes z i) (sym (take_all c.loop-number.number-index c.args.reached.now (omega (arith, c.loop-number-test.false)))) j) low

pub returns-clause-within : goal.returns-clause-within
returns-clause-within c = c.loop-number.invariant.1
