use Rattle.std.proofs.Common.{rules, ◌<◌, ℕ, ◌+◌, ◌-◌, ◌/◌, arith, get_or, w64, to_z, of_z, length}
use lib.IntN.{pos}
use lib.Signed.{◌≤ℤ◌, ◌<ℤ◌}
use Rattle.area_run.proofs.Searching.{half, up_to, from_on}
use Rattle.area_run.proofs.search.begun_before.Goals as goal

pub loop-low-preserved-then-runs-middle : goal.loop-low-preserved-then-runs-middle
loop-low-preserved-then-runs-middle c =
    let m : ℕ = c.loop-low.low + (c.loop-low.high - c.loop-low.low) / 2 in
    let below : m < c.loop-low.high = half c.loop-low.low c.loop-low.high c.loop-low-test.true in
    let inside : m < length c.args.runs.now = omega (arith, below, c.loop-low.invariant.within) in
    let less : (get_or c.args.runs.now m (pos 0, pos 0)).0 <ℤ to_z w64 (of_z w64 c.args.x) = search (rules, c.if-runs-middle.true) in
    record {
      ordered = omega (arith, below);
      within = c.loop-low.invariant.within;
      before = up_to c.args.runs.now (to_z w64 (of_z w64 c.args.x)) m (pos 0, pos 0) c.requires inside less;
      behind = c.loop-low.invariant.behind;
    }

pub loop-low-preserved : goal.loop-low-preserved
loop-low-preserved c =
    let m : ℕ = c.loop-low.low + (c.loop-low.high - c.loop-low.low) / 2 in
    let below : m < c.loop-low.high = half c.loop-low.low c.loop-low.high c.loop-low-test.true in
    let inside : m < length c.args.runs.now = omega (arith, below, c.loop-low.invariant.within) in
    let less : to_z w64 (of_z w64 c.args.x) ≤ℤ (get_or c.args.runs.now m (pos 0, pos 0)).0 = search (rules, c.if-runs-middle.false) in
    record {
      ordered = omega arith;
      within = omega (arith, inside);
      before = c.loop-low.invariant.before;
      behind = from_on c.args.runs.now (to_z w64 (of_z w64 c.args.x)) m (pos 0, pos 0) c.requires inside less;
    }
