use Rattle.std.proofs.Common.{◌-◌, ◌≡◌, ◌≤◌, ◌<◌, length, ℕ, Some}
use Rattle.std.specs.Prelude.{slice_get}
use lib.IntN.{ℤ}
use lib.Signed.{◌≤ℤ◌, ◌<ℤ◌}
use Rattle.area_run.proofs.search.begun_before.Given as goal

-- the runs before `low` begin before x, and those from `high` on don't
abbrev pub invariant-loop-low : goal.invariant-loop-low
invariant-loop-low l = record {
  ordered : l.low ≤ l.high;
  within : l.high ≤ length l.runs;
  before : (i : ℕ) (r : ℤ × ℤ) → i < l.low → slice_get l.runs i ≡ Some r → r.0 <ℤ l.fn.x;
  behind : (i : ℕ) (r : ℤ × ℤ) → l.high ≤ i → slice_get l.runs i ≡ Some r → l.fn.x ≤ℤ r.0;
}

abbrev pub decreases-loop-low : goal.decreases-loop-low
decreases-loop-low l = l.high - l.low
