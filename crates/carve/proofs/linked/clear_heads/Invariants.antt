use Rattle.std.proofs.Common.{◌≡◌, ◌≤◌, ◌<◌, ℕ, length, vec_capacity, Some, None}
use Rattle.std.specs.Prelude.{slice_get}
use Rattle.carve.proofs.linked.clear_heads.Given as goal

-- so many rows have no span
abbrev pub invariant-loop : goal.invariant-loop
invariant-loop l = record {
  count : length l.heads.items ≡ l.counter;
  none : (j : ℕ) → j < l.counter → slice_get l.heads.items j ≡ Some None;
  capacity : vec_capacity l.fn.heads ≤ vec_capacity l.heads;
}
