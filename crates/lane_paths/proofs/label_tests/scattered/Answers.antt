use Rattle.std.proofs.Common.{nat_eq, ◌%◌, List, ◌≤◌, ◌*◌, ◌+◌, ap, subst, sym, arith}
use Rattle.std.specs.List.{AllByRecursion}
use Rattle.spot_terms.specs.Cells.{Lane}
use Rattle.spot_terms.specs.Ranges.{IsLaneInRange, lanes_size}
use Rattle.lane_paths.proofs.InsertedLanes.{each_inserted, few_inserted}
use Rattle.lane_paths.proofs.label_tests.scattered.Goals as goal

pub loop-index-preserved : goal.loop-index-preserved
loop-index-preserved c =
    let before = c.loop-index.lanes.entries in
    let key = c.loop-index.index * 9_999 % 20_000 + 1 in
    let lane = c.in_ok-one_metre.field-0 in
    let is = c.in_ok-insert.ensures.entries in
    let few = few_inserted nat_eq key lane before in
    let same = ap lanes_size is in
    record {
      each = subst (λ (ls : List Lane). AllByRecursion (λ (e : Lane). IsLaneInRange e.1) ls) (sym is) (each_inserted nat_eq key lane before c.loop-index.invariant.each c.in_ok-one_metre.ensures.0);
      few = omega (arith, few, same, c.in_ok-one_metre.ensures.1, c.loop-index.invariant.few);
    }
